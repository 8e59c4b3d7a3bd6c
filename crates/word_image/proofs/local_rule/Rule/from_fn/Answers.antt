use Rattle.std.proofs.Common.{◌≡◌, ℕ, ◌-◌, ◌^◌, ◌≤◌, List, length, take, drop, map, replicate, set, slice_index, sym, ap, ap₂, subst, ◌∙◌, ℤ, w8, FitsSigned, to_z, of_z, arith, ext_get_or}
use Rattle.word_image.proofs.Common.{range_with_len, length-map-range_with_len, get_or-map-range_with_len}
use Rattle.word_image.specs.LocalRules.{LocalRule, IsRule}
use Rattle.word_image.specs.RulesBy.{IsRuleBy}
use Rattle.word_image.specs.Storage.{padded}
use Rattle.word_image.proofs.Storage.{in_row-more, take-in_row, drop-in_row}
use Rattle.word_image.proofs.laws.RuleFaults.{window_count-le}
use Rattle.word_image.proofs.local_rule.Rule.from_fn.Goals as goal

-- a rule, and how its table lies in memory
record IsMade (k m : ℕ) (o : ℤ) (entries : List ℕ) (r : LocalRule) : Type 0 where
  same : record { states = k; width = m; offset = to_z w8 (of_z w8 o); table = take (k ^ m) entries } ≡ r
  zeros : drop (k ^ m) entries ≡ replicate (256 - k ^ m) 0

-- the number of its windows
windows : {k m : ℕ} {o : ℤ} {gives : ℕ → ℕ → Type 0} {r : LocalRule} → IsRuleBy k m o gives r → k ^ m ≡ length r.table
windows by = ap₂ (λ (a b : ℕ). a ^ b) (sym by.states) (sym by.width) ∙ sym by.rule.entries

-- a rule has at most 256 windows
few : {k m : ℕ} {o : ℤ} {gives : ℕ → ℕ → Type 0} {r : LocalRule} → IsRuleBy k m o gives r → k ^ m ≤ 256
few {k} {m} {o} {gives} {r} by = omega (arith, windows by, by.rule.entries, window_count-le r.states r.width r.offset by.rule.shape)

-- a rule is made of its entries where all of them are there
made : {k m : ℕ} {o : ℤ} {gives : ℕ → ℕ → Type 0} {r : LocalRule} → IsRuleBy k m o gives r → FitsSigned w8 o → (n : ℕ) (entries : List ℕ) → n ≡ k ^ m
    → entries ≡ padded (map (slice_index r.table) (range_with_len 0 n)) → IsMade k m o entries r
made {k} {m} {o} {gives} {r} by fits n entries all filled =
    let f = slice_index r.table in
    let listed = ext_get_or 0 (map f (range_with_len 0 n)) r.table (length-map-range_with_len f 0 n ∙ all ∙ windows by)
    (λ i l. get_or-map-range_with_len f 0 n i i 0 (omega (arith, length-map-range_with_len f 0 n)) (omega arith)) in
    grind (arith, take-in_row, drop-in_row)

pub loop-window-preserved : goal.loop-window-preserved
loop-window-preserved g c = λ o r by.
    let v = c.loop-window.window in
    let size : c.pow-window-end.result ≡ c.args.k ^ c.args.m = grind arith in
    rw c.from-in-loop-window.ensures (ap (λ xs. set xs v c.letter.result) (c.loop-window.invariant o r by)
    ∙ in_row-more 256 (slice_index r.table) v c.letter.result (omega (arith, few by)) (by.entries v c.letter.result (omega arith) c.letter.ensures))

pub invariant_of-result : goal.invariant_of-result
invariant_of-result g c =
    let size : c.pow-window-end.result ≡ c.args.k ^ c.args.m = grind arith in
    let by = c.requires.rule.1 in
    let is = made by c.ranges.o c.loop-window.window c.loop-window.entries (omega arith) (c.loop-window.invariant _ _ by) in
    (subst IsRule (sym is.same) by.rule, is.zeros, c.node_count.ensures)

pub returns : goal.returns
returns g c = λ r by.
    let size : c.pow-window-end.result ≡ c.args.k ^ c.args.m = grind arith in
    (made by c.ranges.o c.loop-window.window c.loop-window.entries (omega arith) (c.loop-window.invariant _ r by)).same
