-- Walks by letter pairs, the first of them found breadth first: a pair of letters is followed as one letter of a code.
use Rattle.std.proofs.Common.{◌≡◌, ◌≢◌, ℕ, ◌+◌, ◌*◌, ◌/◌, ◌%◌, ◌<◌, ◌≤◌, List, [], ◌∷◌, length, map, Option, Some, refl, sym, ap, ap₂, ◌∙◌, arith, ⊎_elim, nat_cmp, Greater, mod-lt, div-add-mod'}
use Rattle.word_image.proofs.Common.{ordering_then, slice_cmp, div-mul-add, mod-mul-add, length-map, All-map, word_cmp, pair_cmp, pairs_cmp, key_not_greater, nat_cmp-digits, slice_cmp-map}
use Rattle.search_laws.specs.Walks.{Leads}
use Rattle.search_laws.specs.PairWalks.{LetterPairStep, ArePairs, PairWalk, IsLeastWalk, uncode, CodeStep}
use Rattle.search_laws.proofs.Walks.{Walk-each, Walk-map, All-walk, Walk-shortened}
use Rattle.search_laws.proofs.LeastSteps.{IsLeastStepsTo}

-- the number of a letter pair, in base n
abbrev pub code : ℕ → ℕ × ℕ → ℕ
code n p = p.0 * n + p.1

-- letter pairs are in dictionary order as their numbers are
pub slice_cmp-uncode : (n : ℕ) → 0 < n → (x y : List ℕ) → slice_cmp pair_cmp (map (uncode n) x) (map (uncode n) y) ≡ slice_cmp nat_cmp x y
slice_cmp-uncode n some x y =
    slice_cmp-map nat_cmp pair_cmp (uncode n) (λ _. Unit {0})
    (λ c d _ _. nat_cmp-digits (c / n) (d / n) (c % n) (d % n) n (mod-lt c some) (mod-lt d some) ∙ ap₂ nat_cmp (div-add-mod' c n) (div-add-mod' d n)) x y (λ _ _ _. tt) (λ _ _ _. tt)

-- letter pairs are in order as their numbers are
pub pairs_cmp-uncode : (n : ℕ) → 0 < n → (x y : List ℕ) → pairs_cmp (map (uncode n) x) (map (uncode n) y) ≡ word_cmp x y
pairs_cmp-uncode n some x y = ap₂ ordering_then (ap₂ nat_cmp (length-map x (uncode n)) (length-map y (uncode n))) (slice_cmp-uncode n some x y)

-- the order of pairs of words is the order of the words of numbers
pairs_cmp-codes : (n : ℕ) (p q : List (ℕ × ℕ)) → ArePairs n p → ArePairs n q → pairs_cmp p q ≡ word_cmp (map (code n) p) (map (code n) q)
pairs_cmp-codes n p q small_p small_q =
    ap₂ ordering_then (ap₂ nat_cmp (sym (length-map p (code n))) (sym (length-map q (code n))))
    (sym (slice_cmp-map pair_cmp nat_cmp (code n) (λ c. (c.0 < n) × (c.1 < n)) (λ a b small also. sym (nat_cmp-digits a.0 b.0 a.1 b.1 n small.1 also.1)) p q small_p small_q))

-- the letters of a walk are below k, and so below n
pub ArePairs-walk : {follow : ℕ → ℕ → ℕ → Option ℕ} {k start t : ℕ} {w : List (ℕ × ℕ)} (n : ℕ) → k ≤ n → PairWalk follow k start w t → ArePairs n w
ArePairs-walk {w = w} n le walk i d l = let here = walk.letters i d l in (omega (arith, here.0), omega (arith, here.1))

-- where `follow` leads on two letters, a step leads on their number
pub CodeStep-some : (follow : ℕ → ℕ → ℕ → Option ℕ) (k n s a b t : ℕ) → k ≤ n → a < k → b < k → follow s a b ≡ Some t
    → CodeStep follow k n s (a * n + b) t
CodeStep-some follow k n s a b t le first second follows = grind (arith, div-mul-add, mod-mul-add)

-- a walk by letter pairs is a walk by their numbers
pub Leads-walk : {follow : ℕ → ℕ → ℕ → Option ℕ} {k start t : ℕ} {w : List (ℕ × ℕ)} (n : ℕ) → k ≤ n → PairWalk follow k start w t
    → Leads (CodeStep follow k n) (k * n) start (map (code n) w) t
Leads-walk {follow} {k} {start} {t} {w} n le walk = record {
  walk = Walk-map (CodeStep follow k n) (code n) w start t
      (Walk-each (LetterPairStep follow) (λ s p. CodeStep follow k n s (code n p)) (λ s. s) (λ p. (p.0 < k) × (p.1 < k))
      (λ s p u small follows. CodeStep-some follow k n s p.0 p.1 u le small.0 small.1 follows) w start t walk.letters walk.steps);
  word = All-map (λ c. c < k * n) (code n) w (grind arith);
}

-- a walk by the numbers of letter pairs is a walk by these
pub PairWalk-leads : {follow : ℕ → ℕ → ℕ → Option ℕ} {k n start t : ℕ} {w : List ℕ} → Leads (CodeStep follow k n) (k * n) start w t
    → PairWalk follow k start (map (uncode n) w) t
PairWalk-leads {follow} {k} {n} {start} {t} {w} leads = record {
  steps = Walk-map (LetterPairStep follow) (uncode n) w start t
      (Walk-each (CodeStep follow k n) (λ s c. LetterPairStep follow s (uncode n c)) (λ s. s) (λ c. c < k * n) (λ s c u _ step. step.follows) w start t leads.word leads.walk);
  letters = All-map (λ p. (p.0 < k) × (p.1 < k)) (uncode n) w (All-walk (CodeStep follow k n) (λ c. (c / n < k) × (c % n < k)) (λ s c u step. (step.first, step.second)) w start t leads.walk);
}

-- the numbers of the letter pairs of numbers
codes-uncode : (n : ℕ) (w : List ℕ) → map (code n) (map (uncode n) w) ≡ w
codes-uncode n [] = refl
codes-uncode n (c ∷ w) = ap₂ (λ (d : ℕ) (v : List ℕ). d ∷ v) (div-add-mod' c n) (codes-uncode n w)

-- a walk by numbers comes no later than another walk, where its numbers do
pub pairs_cmp-leads : {follow : ℕ → ℕ → ℕ → Option ℕ} {k n start t : ℕ} {w : List ℕ} {v : List (ℕ × ℕ)} → k ≤ n
    → Leads (CodeStep follow k n) (k * n) start w t → PairWalk follow k start v t
    → word_cmp w (map (code n) v) ≢ Greater → pairs_cmp (map (uncode n) w) v ≢ Greater
pairs_cmp-leads {n = n} {w = w} {v} le leads other least greater =
    let order = pairs_cmp-codes n (map (uncode n) w) v (ArePairs-walk n le (PairWalk-leads leads)) (ArePairs-walk n le other) in
    least (ap (λ u. word_cmp u (map (code n) v)) (sym (codes-uncode n w)) ∙ sym order ∙ greater)

-- the first word of numbers that leads to a state gives the first walk of letter pairs
pub IsLeastWalk-steps : {follow : ℕ → ℕ → ℕ → Option ℕ} {k n start t : ℕ} {w : List ℕ} → k ≤ n
    → IsLeastStepsTo (CodeStep follow k n) (k * n) start t w
    → IsLeastWalk follow k start t (map (uncode n) w)
IsLeastWalk-steps le first = grind (arith, length-map, pairs_cmp-leads, PairWalk-leads, Leads-walk)

-- where no word of at least one number leads to a state, no walk of at least one step does
pub no_walk : {follow : ℕ → ℕ → ℕ → Option ℕ} {k start : ℕ} (n t : ℕ) → k ≤ n
    → ((v : List ℕ) → 0 < length v → ¬ Leads (CodeStep follow k n) (k * n) start v t)
    → (w : List (ℕ × ℕ)) → 0 < length w → ¬ PairWalk follow k start w t
no_walk n t le none w some walk = none (map (code n) w) (omega (arith, length-map w (code n))) (Leads-walk n le walk)

-- a least walk has no more steps than there are states
pub length-IsLeastWalk : {follow : ℕ → ℕ → ℕ → Option ℕ} {k start t n : ℕ} {w : List (ℕ × ℕ)} → ((s a b u : ℕ) → follow s a b ≡ Some u → u < n)
    → IsLeastWalk follow k start t w → length w ≤ n
length-IsLeastWalk {follow} {k} {start} {t} {n} {w} below first =
    ⊎_elim (λ few. few)
    (λ h. omega (arith, ((key_not_greater (length w) (length h.shorter) _).0 (first.least h.shorter h.some (record { steps = h.walk; letters = h.letters }))).0, h.less))
    (Walk-shortened (LetterPairStep follow) (λ p. (p.0 < k) × (p.1 < k)) n (λ s p u. below s p.0 p.1 u) w start t first.walk.letters first.walk.steps)
