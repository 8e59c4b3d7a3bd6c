-- The search for the least split over the states of a list, place by place.
use Rattle.std.proofs.Common.{◌≡◌, ◌≢◌, ℕ, ◌+◌, ◌*◌, ◌<◌, List, length, Option, Some, None, sym, ◌∙◌, arith, slice_index, IfSome, All, Contains, Greater, below_more}
use Rattle.std.proofs.lemmas.Grind.{get_or_default_zero}
use Rattle.word_image.proofs.Common.{LocalRule, IsRule, pair_count, marked, no_later, not_before}
use Rattle.search_laws.proofs.Common.{PairWalk}
use Rattle.least_walk.specs.Trees.{LeastWalks}
use Rattle.tail_config.proofs.Common.{IsNormalRightSplit, splits_cmp}
use Rattle.tail_laws.proofs.Common.{IsSplitAt, IsNoSplitAt, first_tail, second_tail, split_of, IsNormalRightSplit-walks, splits_cmp_total}
use Rattle.closing_test.specs.declared.walks.Walks.{Walks}
use Rattle.closing_test.specs.Walks.{middle_pairs, period_pairs, split_by, IsNoneBefore, AreEarlier, IsLeastSoFar}

-- no split that goes round at the state t comes before the split of these walks
abbrev pub IsNoLess : LocalRule → Walks → ℕ → Type 0
IsNoLess r best t = (w v : List (ℕ × ℕ)) → IsSplitAt r t w v → splits_cmp (split_by best) (split_of w v) ≢ Greater

-- these walks make a normal split
abbrev pub IsSplit : LocalRule → Walks → Type 0
IsSplit r walks = IsNormalRightSplit r (first_tail (middle_pairs walks) (period_pairs walks)) (second_tail (middle_pairs walks) (period_pairs walks))

-- these walks make a normal split, and none that goes round at the first n states of the list comes before it
pub record IsLeastIn (r : LocalRule) (states : List ℕ) (n : ℕ) (best : Walks) : Type 0 where
  pub split : IsSplit r best
  pub least : (i : ℕ) → i < n → IsNoLess r best (slice_index states i)

-- the walks make a normal split that none at the first n states of a list comes before; without walks there is none at those states
abbrev pub IsLeastSeen : LocalRule → List ℕ → ℕ → Option Walks → Type 0
IsLeastSeen r states n None = (i : ℕ) → i < n → IsNoSplitAt r (slice_index states i)
IsLeastSeen r states n (Some best) = IsLeastIn r states n best

-- each marked pair that the walks of a rule reach is one of the rule's
pub reached-below : {r : LocalRule} {t : ℕ} (walks : LeastWalks) (i : ℕ) → walks.source ≡ record { rule = r; start = 0; most = 512 } → All (λ s. s < 2 * pair_count walks.source.rule) walks.reached
    → i < length walks.reached → t ≡ slice_index walks.reached i → t < 2 * pair_count r
reached-below {r} {t} walks i same below inside is =
    rw is ((rw same at below) i 0 inside)

-- earlier walks of one more state make a normal split
pub IsSplit-earlier : {r : LocalRule} {t : ℕ} (best : Option Walks) (found : Walks) → IsRule r → AreEarlier r t best found → IsSplit r found
IsSplit-earlier best found rule new = IsNormalRightSplit-walks rule new.least.split

-- walks that make a normal split are the least of no states
pub IsLeastSeen-start : (r : LocalRule) (states : List ℕ) (found : Option Walks) → IfSome found (IsSplit r) → IsLeastSeen r states 0 found
IsLeastSeen-start r states None h = λ i less at. absurd (omega (arith, less))
IsLeastSeen-start r states (Some walks) h = record { split = h; least = λ i less w v there greater. omega (arith, less) }

-- with one state more at which no split comes before the least one, it stays the least
pub IsLeastSeen-none : (r : LocalRule) (states : List ℕ) (n : ℕ) (best : Option Walks) → IsLeastSeen r states n best
    → IsNoneBefore r (slice_index states n) best → IsLeastSeen r states (n + 1) best
IsLeastSeen-none r states n None h none = below_more (λ i. IsNoSplitAt r (slice_index states i)) n h (λ w v at. none w v at tt)
IsLeastSeen-none r states n (Some best) h none = record { split = h.split; least = below_more (λ i. IsNoLess r best (slice_index states i)) n h.least none }

-- with one state more, the walks that come before the least ones at this state are the least
pub IsLeastSeen-earlier : (r : LocalRule) (states : List ℕ) (n : ℕ) (best : Option Walks) (found : Walks) → IsRule r → IsLeastSeen r states n best
    → AreEarlier r (slice_index states n) best found → IsLeastIn r states (n + 1) found
IsLeastSeen-earlier r states n None found rule h new = record {
  split = IsSplit-earlier None found rule new;
  least = below_more (λ i. IsNoLess r found (slice_index states i)) n (λ i less w v there. absurd (h i less w v there)) new.least.least;
}
IsLeastSeen-earlier r states n (Some best) found rule h new = record {
  split = IsSplit-earlier (Some best) found rule new;
  least = below_more (λ i. IsNoLess r found (slice_index states i)) n
      (λ i less w v there.
      no_later splits_cmp_total (split_by found) (split_by best) (split_of w v) (not_before splits_cmp_total (split_by best) (split_by found) (λ before. cc)) (h.least i less w v there))
      new.least.least;
}

-- where each state to which a walk leads stands in the list, that is the least of all states
pub IsLeastSoFar-seen : (r : LocalRule) (states : List ℕ) (best : Option Walks)
    → ((w : List (ℕ × ℕ)) (t : ℕ) → PairWalk (marked r) r.states 0 w t → Contains states t)
    → IsLeastSeen r states (length states) best → IsLeastSoFar r (pair_count r + pair_count r) best
IsLeastSoFar-seen r states None all h = λ s less w v at.
    let (i, inside, same) = all w s at.reach in
    h i inside w v (rw (sym same ∙ get_or_default_zero states i s inside) at at)
IsLeastSoFar-seen r states (Some best) all h = record {
  split = h.split;
  least = λ s w v less at.
      let (i, inside, same) = all w s at.reach in
      h.least i inside w v (rw (sym same ∙ get_or_default_zero states i s inside) at at);
}
