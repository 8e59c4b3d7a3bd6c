-- The order of splits by the numbers of their letter pairs, and where no split at a state comes before the least one so far.
use Rattle.std.proofs.Common.{◌≡◌, ◌≢◌, ◌⊎◌, ℕ, ◌+◌, ◌<◌, ◌≤◌, List, length, Option, Some, None, sym, ◌∙◌, ⊎_elim, arith, refl, nat_cmp, is_gt, ◌↔◌, IsTrue, MatchOption, Ordering, Less, Equal, Greater}
use Rattle.word_image.proofs.Common.{ordering_then, slice_cmp, cases_lt, length-map, LocalRule, marked, key_not_greater, then_assoc}
use Rattle.search_laws.proofs.Common.{PairWalk, IsLeastWalkTo, slice_cmp-uncode, uncode}
use Rattle.tail_config.proofs.Common.{splits_cmp}
use Rattle.tail_laws.proofs.Common.{IsLeastSplitAt, split_of, with_mark, splits_cmp-walks, no_earlier-least}
use Rattle.closing_test.specs.declared.walks.Walks.{Walks}
use Rattle.closing_test.specs.Walks.{middle_pairs, period_pairs, split_by, ComesBefore, IsMostAfter, IsNoneBefore}

-- the order of splits by the numbers of their letter pairs
pub splits_cmp-numbers : (x y : Walks)
    → splits_cmp (split_by x) (split_by y)
    ≡ ordering_then (ordering_then (ordering_then
    (nat_cmp (length x.middle + length x.period) (length y.middle + length y.period))
    (nat_cmp (length x.middle) (length y.middle)))
    (slice_cmp nat_cmp x.middle y.middle))
    (slice_cmp nat_cmp x.period y.period)
splits_cmp-numbers x y =
    rw (splits_cmp-walks (middle_pairs x) (period_pairs x) (middle_pairs y) (period_pairs y)) (simp (length-map, slice_cmp-uncode 16 (omega arith), then_assoc))

-- an order is `Greater` exactly where the test says so
pub is_gt-greater : (o : Ordering) → IsTrue (is_gt o) ↔ (o ≡ Greater)
is_gt-greater Less = (λ h. absurd cc, λ h. absurd cc)
is_gt-greater Equal = (λ h. absurd cc, λ h. absurd cc)
is_gt-greater Greater = (λ h. refl, λ h. refl)

-- a first walk has no more letters than another one
pub length-reach : {follow : ℕ → ℕ → ℕ → Option ℕ} {k s t : ℕ} {u w : List (ℕ × ℕ)} → IsLeastWalkTo follow k s t u → PairWalk follow k s w t
    → length u ≤ length w
length-reach {u = u} {w} reach walk = ((key_not_greater (length u) (length w) _).0 (reach.least w walk)).0

-- a split of more letters comes later, and one of as many letters with a longer middle
splits_cmp-later : (best : Walks) (w v : List (ℕ × ℕ))
    → (length best.middle + length best.period < length w + length v) ⊎ ((length best.middle + length best.period ≡ length w + length v) × (length best.middle < length w))
    → splits_cmp (split_by best) (split_of w v) ≢ Greater
splits_cmp-later best w v after greater =
    let long = length-map best.middle (uncode 16) in
    let also = length-map best.period (uncode 16) in
    (key_not_greater (length (middle_pairs best) + length (period_pairs best)) (length w + length v) _).1
    (grind arith, λ same. (key_not_greater (length (middle_pairs best)) (length w) _).1 (grind arith, λ one. absurd (grind arith)))
    (sym (splits_cmp-walks (middle_pairs best) (period_pairs best) w v) ∙ greater)

-- where no walk leads round a state in as few steps as the best split leaves, no split there comes before it
pub IsNoneBefore-long : {r : LocalRule} {t most n : ℕ} (best : Option Walks)
    → MatchOption best (most ≡ 512) (λ walks. IsMostAfter walks n most) → ((w : List (ℕ × ℕ)) → PairWalk (marked r) r.states 0 w t → n ≤ length w)
    → ((v : List (ℕ × ℕ)) → 0 < length v → length v ≤ most → ¬ PairWalk (marked r) r.states t v (with_mark r t))
    → (512 ≤ most → (v : List (ℕ × ℕ)) → 0 < length v → ¬ PairWalk (marked r) r.states t v (with_mark r t)) → IsNoneBefore r t best
IsNoneBefore-long None is reach short all w v at before = all (omega arith) v at.some at.round
IsNoneBefore-long {most = most} (Some best) is reach short all w v at before =
    ⊎_elim (λ more. splits_cmp-later best w v (is (length w) (length v) (reach w at.reach) more) before) (λ few. short v at.some few at.round) (cases_lt most (length v))

-- where the least split at a state doesn't come before the best one, no split there does
pub IsNoneBefore-least : {r : LocalRule} {t : ℕ} {w v : List (ℕ × ℕ)} (best : Option Walks) → IsLeastSplitAt r t w v
    → ¬ ComesBefore (split_of w v) best → IsNoneBefore r t best
IsNoneBefore-least None here later w v at before = later tt
IsNoneBefore-least (Some best) here later w v at before = no_earlier-least here (middle_pairs best) (period_pairs best) later at before
