-- Steps of the marked graph, and rows that have marked pairs.
use Rattle.std.proofs.Common.{◌≡◌, ◌≢◌, ℕ, ◌+◌, ◌-◌, ◌*◌, ◌/◌, ◌%◌, ◌^◌, ◌<◌, ◌≤◌, ◌↔◌, ◌⊎◌, inl, inr, List, Bool, true, false, Some, cond, length, IsBitSet, bit_and, bit_or, slice_index, slice_set, refl, sym, ap, ap₂, ◌∙◌, subst, arith, ⊎_elim, mod-lt, lit<, ◌==◌, ◌||◌, not, nat_le, eq-eqb}
use Rattle.word_image.proofs.Common.{cases_eq, cases_lt, nat_tests, div-eq_of_lt, div-mul-add, mod-mul-add, same_from_place, div_below, LocalRule, IsRule, node_count, next, label, first_of, second_of, pair_of, pair_count, marked, IsBitSet-or, IsBitSet-decide, next-below, pair_count_pos, IsEnds}
use Rattle.std.proofs.lemmas.Nat.{div-add-mod', le-div}
use Rattle.pair_laws.proofs.Common.{HasBit-more, IsBitSet-shl, IsBitSet-shr, IsBitSet-and, IsBitSet-minus, next-digits, some_if_equal, first_of-pair_of, second_of-pair_of, pair_of-first_of, pair_of-below, first_of-below, second_of-below}
use Rattle.word_image.specs.declared.side.Side.TheVariants.{Right}
use Rattle.least_walk.specs.declared.marks.PairParts.{PairParts}
use Rattle.least_walk.specs.Marks.{pair_part, row_of, HasPair, ArePartsOf}

-- the mark after a step on the letters a and b from the marked pair t
abbrev pub mark_to : LocalRule → ℕ → ℕ → ℕ → ℕ
mark_to r t a b = cond (nat_le (pair_count r) t || not (a == b)) 1 0

-- the mark comes where the letters differ
pub mark_to-differ : (r : LocalRule) (t a b : ℕ) → a ≢ b → mark_to r t a b ≡ 1
mark_to-differ r t a b other = grind (arith, nat_tests)

-- the mark stays if there was one
mark_to-past : (r : LocalRule) (t a b : ℕ) → pair_count r ≤ t → mark_to r t a b ≡ 1
mark_to-past r t a b past = grind (arith, nat_tests)

-- the mark stays as it was where the letters are the same
pub mark_to-same : (r : LocalRule) (t a b : ℕ) → 0 < pair_count r → t < 2 * pair_count r → a ≡ b → mark_to r t a b ≡ t / pair_count r
mark_to-same r t a b some within same = ⊎_elim
    (λ less. let none : t / pair_count r ≡ 0 = div-eq_of_lt less in grind (arith, nat_tests))
    (λ past. mark_to-past r t a b past ∙ omega (arith, div_below t (pair_count r) 2 some within, le-div 1 t (pair_count r) some (omega (arith, past))))
    (cases_lt t (pair_count r))

-- n if a test is passed, and 0 if not, is 1 or 0 times n
cond-times : (test : Bool) (n : ℕ) → cond test n 0 ≡ cond test 1 0 * n
cond-times true n = omega arith
cond-times false n = omega arith

-- a step of the marked graph follows two edges with one label
pub record IsMarkedStep (r : LocalRule) (t a b q : ℕ) : Type 0 where
  pub one_label : label r (first_of r (pair_part r t)) a ≡ label r (second_of r (pair_part r t)) b
  pub leads : q ≡ mark_to r t a b * pair_count r + pair_of r (next r (first_of r (pair_part r t)) a) (next r (second_of r (pair_part r t)) b)

-- a step of the marked graph is two edges with one label
marked-step : (r : LocalRule) (t a b q : ℕ) → marked r t a b ≡ Some q → IsMarkedStep r t a b q
marked-step r t a b q e =
    let (labels, whole) = some_if_equal _ _ _ q e in
    record { one_label = labels; leads = omega (arith, whole, cond-times (nat_le (pair_count r) t || not (a == b)) (pair_count r)) }

-- two edges with one label are a step
pub step-marked : (r : LocalRule) (t a b q : ℕ) → IsMarkedStep r t a b q → marked r t a b ≡ Some q
step-marked r t a b q step = rw (eq-eqb _ _ step.one_label) (ap Some (omega (arith, step.leads, cond-times (nat_le (pair_count r) t || not (a == b)) (pair_count r))))

-- the row of the pair of u and v with this mark, and its place in the row
row-pair_of : (r : LocalRule) (q mark u v : ℕ) → u < node_count r → v < node_count r → q ≡ mark * pair_count r + pair_of r u v
    → (row_of r q ≡ 16 * mark + u) × (second_of r (pair_part r q) ≡ v)
row-pair_of r q mark u v in_u in_v e =
    let below = pair_of-below r u v in_u in_v in
    let half = ap (λ z. z / pair_count r) e ∙ div-mul-add mark (pair_count r) (pair_of r u v) below in
    let part = ap (λ z. z % pair_count r) e ∙ mod-mul-add mark (pair_count r) (pair_of r u v) below in
    (ap₂ (λ (m n : ℕ). 16 * m + n) half (ap (first_of r) part ∙ first_of-pair_of r u v in_v), ap (second_of r) part ∙ second_of-pair_of r u v in_v)

-- a marked pair is known by its row and its place in the row
pub row_of-injective : {r : LocalRule} → IsRule r → (s t : ℕ) → s < 2 * pair_count r → t < 2 * pair_count r → row_of r s ≡ row_of r t
    → second_of r (pair_part r s) ≡ second_of r (pair_part r t) → s ≡ t
row_of-injective {r} rule s t in_s in_t rows seconds =
    let small : (q : ℕ) → first_of r (pair_part r q) < 16 = λ q. omega (arith, first_of-below rule (pair_part r q) (mod-lt q (pair_count_pos rule))) in
    let same = same_from_place (s / pair_count r) (first_of r (pair_part r s)) (t / pair_count r) (first_of r (pair_part r t)) 16 (small s) (small t) (omega arith) in
    let parts : pair_part r s ≡ pair_part r t = sym (pair_of-first_of r (pair_part r s)) ∙ ap₂ (pair_of r) same.1 seconds ∙ pair_of-first_of r (pair_part r t) in
    sym (div-add-mod' s (pair_count r)) ∙ ap₂ (λ (h p : ℕ). h * pair_count r + p) same.0 parts ∙ div-add-mod' t (pair_count r)

-- one marked pair more
pub HasPair-add : {r : LocalRule} → IsRule r → (rows : List ℕ) (t i j : ℕ) → length rows ≡ 32 → t < 2 * pair_count r → i ≡ row_of r t
    → j ≡ second_of r (pair_part r t)
    → (s : ℕ) → s < 2 * pair_count r
    → HasPair r (slice_set rows i (bit_or (slice_index rows i) (1 * 2 ^ j % 2 ^ 16))) s ↔ ((s ≡ t) ⊎ HasPair r rows s)
HasPair-add {r} rule rows t i j long in_t row place s in_s =
    let half : t / pair_count r < 2 = div_below t (pair_count r) 2 (pair_count_pos rule) in_t in
    let first = first_of-below rule (pair_part r t) (mod-lt t (pair_count_pos rule)) in
    let second = second_of-below rule (pair_part r t) in
    let more = HasBit-more rows i j (omega arith) (omega arith) (row_of r s) (second_of r (pair_part r s)) in (
      (λ some. ⊎_elim (λ new. inl (row_of-injective rule s t in_s in_t (new.0 ∙ row) (new.1 ∙ place))) (λ old. inr old) (more.0 some)),
      (λ either. more.1 (⊎_elim (λ one. inl (ap (row_of r) one ∙ sym row, ap (λ q. second_of r (pair_part r q)) one ∙ sym place)) (λ old. inr old) either)),
    )

-- of the ends of v's edges, moved down to the first of them, and without those of a row: where the bit of letter b is missing, the row has that end
end-old : {r : LocalRule} → IsRule r → (v b ends row end : ℕ) → b < r.states → row < 2 ^ 16 → end ≡ next r v 0 → IsBitSet ends (next r v b)
    → ¬ IsBitSet (bit_and ends (65535 - row) / 2 ^ end) b → IsBitSet row (next r v b)
end-old {r} rule v b ends row end letter small first leads old =
    let place : end + b ≡ next r v b = omega (arith, next-digits rule v b letter, next-digits rule v 0 (omega arith)) in
    ⊎_elim
    (λ present. present)
    (λ absent. absurd (old ((IsBitSet-shr (bit_and ends (65535 - row)) end b).1
    (subst (IsBitSet (bit_and ends (65535 - row))) (sym place) ((IsBitSet-minus ends row (next r v b) small (omega (arith, next-below rule v b))).1 (leads, absent))))))
    (IsBitSet-decide row (next r v b))

-- the rows have the marked pair to which the letters a and b lead, if its bit is missing in the ends without the row
step-old : {r : LocalRule} → IsRule r → (rows : List ℕ) (t a b q u v mark ends row end : ℕ) → IsMarkedStep r t a b q → mark_to r t a b ≡ mark
    → first_of r (pair_part r t) ≡ u → second_of r (pair_part r t) ≡ v → b < r.states
    → IsEnds Right r v (label r u a) ends → end ≡ next r v 0 → row ≡ slice_index rows (16 * mark + next r u a) → row < 2 ^ 16
    → ¬ IsBitSet (bit_and ends (65535 - row) / 2 ^ end) b → HasPair r rows q
step-old {r} rule rows t a b q u v mark ends row end step with first second letter leads start here small old =
    let labels : label r v b ≡ label r u a = ap (λ x. label r x b) (sym second) ∙ sym step.one_label ∙ ap (λ x. label r x a) first in
    let present : IsBitSet ends (next r v b) = (leads.nodes (next r v b) (next-below rule v b)).1 (b, letter, (labels, refl)) in
    let whole : q ≡ mark * pair_count r + pair_of r (next r u a) (next r v b) = rw (← with, ← first, ← second) step.leads in
    let place = row-pair_of r q mark (next r u a) (next r v b) (next-below rule u a) (next-below rule v b) whole in
    rw (place.0, place.1) (subst (λ c. IsBitSet c (next r v b)) here (end-old rule v b ends row end letter small start present old))

-- from a marked pair with the mark
pub fresh-with_mark : {r : LocalRule} → IsRule r → (rows : List ℕ) (parts : PairParts) (t a b q ends row end : ℕ) → ArePartsOf r parts t
    → parts.mark ≡ 1 → b < r.states
    → IsEnds Right r parts.second (label r parts.first a) ends → end ≡ next r parts.second 0 → row ≡ slice_index rows (16 + next r parts.first a)
    → row < 2 ^ 16
    → ¬ IsBitSet (bit_and ends (65535 - row) / 2 ^ end) b → marked r t a b ≡ Some q → HasPair r rows q
fresh-with_mark {r} rule rows parts t a b q ends row end of with letter leads start here small old e =
    let past : pair_count r ≤ t = omega (arith, div-add-mod' t (pair_count r), ap (λ h. h * pair_count r) (sym of.mark ∙ with)) in
    step-old rule rows t a b q parts.first parts.second 1 ends row end (marked-step r t a b q e) (mark_to-past r t a b past) (sym of.first) (sym of.second) letter leads start here small old

-- from a marked pair without the mark, the mark stays away where the letters are the same
pub fresh-without : {r : LocalRule} → IsRule r → (rows : List ℕ) (parts : PairParts) (t a b q ends row plain end same : ℕ) → ArePartsOf r parts t
    → parts.mark ≡ 0 → b < r.states → a < 16
    → IsEnds Right r parts.second (label r parts.first a) ends → end ≡ next r parts.second 0
    → row ≡ slice_index rows (16 + next r parts.first a) → row < 2 ^ 16 → plain ≡ slice_index rows (next r parts.first a) → plain < 2 ^ 16
    → same ≡ 1 * 2 ^ a % 2 ^ 16
    → ¬ IsBitSet (bit_or (bit_and (bit_and ends (65535 - row) / 2 ^ end) (65535 - same)) (bit_and (bit_and ends (65535 - plain) / 2 ^ end) same)) b
    → marked r t a b ≡ Some q → HasPair r rows q
fresh-without {r} rule rows parts t a b q ends row plain end same of without letter first leads start here small also little shift old e =
    let step = marked-step r t a b q e in
    let below : t < pair_count r = omega (arith, mod-lt t (pair_count_pos rule), div-add-mod' t (pair_count r), ap (λ h. h * pair_count r) (sym of.mark ∙ without)) in
    let with_mark : ℕ = bit_and ends (65535 - row) / 2 ^ end in
    let without_mark : ℕ = bit_and ends (65535 - plain) / 2 ^ end in
    let is_same : IsBitSet same b ↔ (b ≡ a) = subst (λ x. IsBitSet x b ↔ (b ≡ a)) (sym shift) (IsBitSet-shl a b first) in
    let place : next r parts.first a ≡ 16 * 0 + next r parts.first a = omega arith in
    let either = IsBitSet-or (bit_and with_mark (65535 - same)) (bit_and without_mark same) b in
    ⊎_elim
    (λ equal. step-old rule rows t a b q parts.first parts.second 0 ends plain end step (mark_to-same r t a b (pair_count_pos rule) (omega (arith, below)) equal ∙ sym of.mark ∙ without) (sym of.first) (sym of.second) letter leads start (also ∙ ap (slice_index rows) place) little
    (λ some. old (either.1 (inr ((IsBitSet-and without_mark same b).1 (some, is_same.1 (sym equal)))))))
    (λ other. step-old rule rows t a b q parts.first parts.second 1 ends row end step (mark_to-differ r t a b other) (sym of.first) (sym of.second) letter leads start here small
    (λ some. old (either.1 (inl ((IsBitSet-minus with_mark same b (omega (arith, mod-lt (1 * 2 ^ a) {m = 2 ^ 16} (lit< tt))) (omega arith)).1 (some, λ one. other (sym (is_same.0 one))))))))
    (cases_eq a b)
