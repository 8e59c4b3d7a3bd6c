use Rattle.std.proofs.Common.{◌≡◌, ℕ, ◌+◌, ◌^◌, ◌<◌, ◌≤◌, List, ◌++◌, length, slice_index, take, drop, replicate, refl, sym, ap, ap₂, subst, ◌∙◌, ⊎_elim, arith, length-append, length-drop, length-take-le}
use Rattle.word_image.proofs.Common.{pow-le-pow_left, pow-le-pow_right, take-append_seam, cases_eq, take-replicate, All-replicate, All-take, LocalRule, IsWord, value, IsRing, KeepsSum, value-below, value-injective, value-zeros}
use Rattle.flux_conserve.proofs.rings.first_lossy_of.Goals as goal

pub pow-end-requires : goal.pow-end-requires
pow-end-requires c =
    let most = c.k-k.ensures.rule.shape.most_states in
    let base : c.args.rule.now.states ^ c.args.count ≤ 16 ^ c.args.count = pow-le-pow_left most c.args.count in
    let exponent : 16 ^ c.args.count ≤ 16 ^ 9 = pow-le-pow_right (omega arith) {i = c.args.count} {j = 9} c.requires.short in
    rw (c.from.ensures, c.from-2.ensures, c.k-k.ensures.states) (omega arith)

pub loop-init : goal.loop-init
loop-init c =
    let k = c.args.rule.now.states in
    let some = c.k-k.ensures.rule.shape.least_states in (
      refl,
      All-take (λ a. a < k) c.args.count (replicate 9 0) (All-replicate (λ a. a < k) 9 0 (omega arith)),
      λ l. ap (value k) (take-replicate c.args.count 9 0 c.requires.short) ∙ value-zeros k c.args.count,
      λ q ring long l. absurd (omega arith),
    )

-- the letters after a step
stepped : (letters word : List ℕ) (n : ℕ) → length letters ≡ 9 → n ≤ 9 → length word ≡ n
    → (length (word ++ drop n letters) ≡ 9) × (take n (word ++ drop n letters) ≡ word)
stepped letters word n long fits same = (
  omega (arith, length-append word (drop n letters), length-drop n letters),
  ap (λ j. take j (word ++ drop n letters)) (sym same) ∙ take-append_seam word (drop n letters),
)

-- the rings up to a word keep their sums where those before it and the word itself do
kept_more : (weight : ℕ → ℕ) (r : LocalRule) (n i : ℕ) (w : List ℕ) → IsWord r.states w → length w ≡ n → value r.states w ≡ i → KeepsSum weight r w
    → ((q : List ℕ) → IsRing r.states q → length q ≡ n → value r.states q < i → KeepsSum weight r q)
    → (q : List ℕ) → IsRing r.states q → length q ≡ n → value r.states q < i + 1 → KeepsSum weight r q
kept_more weight r n i w word long number keeps before q ring same l =
    ⊎_elim
    (λ here. subst (KeepsSum weight r) (value-injective r.states w q word ring.word (long ∙ sym same) (number ∙ sym here)) keeps)
    (λ other. before q ring same (omega (arith, other)))
    (cases_eq (value r.states q) i)

pub loop-preserved : goal.loop-preserved
loop-preserved c =
    let r = c.args.rule.now in
    let k = r.states in
    let n = c.args.count in
    let weight = slice_index c.args.weights.now in
    let w = take n c.loop.letters in
    let (long, word, number, before) = c.loop.invariant in
    let cut : take c.from-long.result c.loop.letters ≡ w = ap (λ j. take j c.loop.letters) c.from-long.ensures in
    let w_long : length w ≡ n = length-take-le n c.loop.letters (omega arith) in
    let total : c.pow-end.result ≡ k ^ n = c.pow-end.ensures ∙ ap₂ (λ (i j : ℕ). i ^ j) (c.from.ensures ∙ c.k-k.ensures.states) c.from-2.ensures in
    let value_is : value k w ≡ c.loop.counter = number (omega arith) in
    let new_long : length c.advance.new.word ≡ n = c.advance.auto.word ∙ ap length cut ∙ w_long in
    let after = stepped c.loop.letters c.advance.new.word n long c.requires.short new_long in
    let keeps = rw cut at (c.keeps_sum.ensures.0 c.if-not-keeps_sum.false) in
    let next : value k w + 1 < k ^ length w → value k c.advance.new.word ≡ value k w + 1 =
    rw (c.k-k.ensures.states, cut) at c.advance.ensures.next in
    let power = ap (λ j. k ^ j) w_long in
    rw c.from-long.ensures (
      after.0,
      rw (after.1, ← c.k-k.ensures.states) c.advance.ensures.word,
      λ l. ap (value k) after.1 ∙ next (omega arith) ∙ ap (λ v. v + 1) value_is,
      kept_more weight r n c.loop.counter w word w_long value_is keeps before,
    )

pub returns-clause-none : goal.returns-clause-none
returns-clause-none c = λ p ring long.
    let k = c.args.rule.now.states in
    let below : value k p < k ^ c.args.count = subst (λ n. value k p < k ^ n) long (value-below k p ring.word) in
    let total : c.pow-end.result ≡ k ^ c.args.count = c.pow-end.ensures ∙ ap₂ (λ (i j : ℕ). i ^ j) (c.from.ensures ∙ c.k-k.ensures.states) c.from-2.ensures in
    c.loop.invariant.3 p ring long (omega arith)
