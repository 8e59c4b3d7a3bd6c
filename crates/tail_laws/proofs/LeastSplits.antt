-- The least normal right split: the least of at most one candidate for each state of the marked graph, made of two least walks.
use Rattle.std.proofs.Common.{◌≡◌, ◌≢◌, ℕ, ◌+◌, List, length, arith, zip, nat_cmp, Ordering, Greater}
use Rattle.std.proofs.lemmas.Cmp.{then_total, on_total, lists_total, nat_cmp_total}
use Rattle.std.proofs.lemmas.Slice.Zip.{firsts-zip, seconds-zip}
use Rattle.word_image.proofs.Common.{ordering_then, IsTotalOrder, slice_cmp, length-map, LocalRule, IsRule, pair_count, marked, pair_cmp, pairs_cmp, key_not_greater, no_later, pair_cmp_total}
use Rattle.search_laws.proofs.Common.{IsLeastWalk, IsLeastWalkTo}
use Rattle.tail_config.proofs.Common.{TailConfig, IsNormalRightSplit, IsLeastRightSplit, splits_cmp}
use Rattle.tail_laws.specs.SplitWalks.{IsSplitAt, IsNoSplitBelow, IsLeastSplitAt, IsLeastBelow, with_mark, first_tail, second_tail, split_of}
use Rattle.tail_laws.proofs.SplitWalks.{zip-sides, normal_split-at}

-- splits are in a total order
pub splits_cmp_total : IsTotalOrder splits_cmp
splits_cmp_total =
    then_total (on_total (λ p. length (p.0).middle + length (p.0).right) nat_cmp_total)
    (then_total (on_total (λ p. length (p.0).middle) nat_cmp_total)
    (then_total (on_total (λ p. zip (p.0).middle (p.1).middle) (lists_total pair_cmp_total))
    (on_total (λ p. zip (p.0).right (p.1).right) (lists_total pair_cmp_total))))

-- the order of splits, said of the walks that make them
abbrev pub walks_cmp : List (ℕ × ℕ) → List (ℕ × ℕ) → List (ℕ × ℕ) → List (ℕ × ℕ) → Ordering
walks_cmp w v w' v' =
    ordering_then (nat_cmp (length w + length v) (length w' + length v'))
    (ordering_then (nat_cmp (length w) (length w'))
    (ordering_then (slice_cmp pair_cmp w w')
    (slice_cmp pair_cmp v v')))

-- both orders are one
pub splits_cmp-walks : (w v w' v' : List (ℕ × ℕ)) → splits_cmp (split_of w v) (split_of w' v') ≡ walks_cmp w v w' v'
splits_cmp-walks w v w' v' = grind (arith, length-map, zip-sides)

-- walks of which neither comes later make a split that comes no later
walks_cmp-not_greater : (w v w' v' : List (ℕ × ℕ)) → pairs_cmp w w' ≢ Greater → pairs_cmp v v' ≢ Greater → walks_cmp w v w' v' ≢ Greater
walks_cmp-not_greater w v w' v' h g = grind (arith, key_not_greater)

-- Candidates

-- the first walk to a state and the first one round it make its least split
pub IsLeastSplitAt-walks : {r : LocalRule} {t : ℕ} {w v : List (ℕ × ℕ)} → IsLeastWalkTo (marked r) r.states 0 t w
    → IsLeastWalk (marked r) r.states t (with_mark r t) v → IsLeastSplitAt r t w v
IsLeastSplitAt-walks reach round = grind (arith, walks_cmp-not_greater, splits_cmp-walks)

-- The search, state by state

-- what comes no later than the least split at a state comes no later than each one there
pub no_earlier-least : {r : LocalRule} {t : ℕ} {a b w' v' : List (ℕ × ℕ)} → IsLeastSplitAt r t a b → (w v : List (ℕ × ℕ))
    → splits_cmp (split_of w v) (split_of a b) ≢ Greater → IsSplitAt r t w' v'
    → splits_cmp (split_of w v) (split_of w' v') ≢ Greater
no_earlier-least {a = a} {b} {w'} {v'} here w v first at = no_later splits_cmp_total (split_of w v) (split_of a b) (split_of w' v') first (here.least w' v' at)

-- the least normal split over all states is the least normal right split
pub IsLeastRightSplit-below : {r : LocalRule} {w v : List (ℕ × ℕ)} → IsRule r → IsLeastBelow r (pair_count r + pair_count r) w v
    → IsLeastRightSplit r (first_tail w v) (second_tail w v)
IsLeastRightSplit-below rule h = grind (arith, normal_split-at, firsts-zip, seconds-zip)

-- where no state has a split, there is no normal right split
pub no_normal_split : {r : LocalRule} → IsRule r → IsNoSplitBelow r (pair_count r + pair_count r) → (x y : TailConfig) → ¬ IsNormalRightSplit r x y
no_normal_split rule none x y n = let found = normal_split-at rule n in none found.0 found.1 _ _ found.2
