-- A search for the least word whose set has the fewest nodes. It goes breadth first through the sets of all words, and
-- it may stop as soon as it has found a set with few enough nodes.
use Rattle.std.specs.Prelude.{◌≡◌, ℕ, ◌<◌, ◌≤◌, List, length, slice_index, slice_get, count_ones, Option, Some, MatchOption}
use Rattle.word_image.specs.LocalRules.{LocalRule}
use Rattle.search_laws.specs.SearchQueues.{Place}
use Rattle.image_subsets.specs.Searches.{IsWay, IsTreeSearch}

-- the place is the first one of a set with the fewest nodes
pub record IsFirstSmallest (sets : List ℕ) (place : ℕ) : Type 0 where
  pub inside : place < length sets
  pub fewest : (i : ℕ) → i < length sets → count_ones (slice_index sets place) ≤ count_ones (slice_index sets i)
  pub first : (i : ℕ) → i < place → count_ones (slice_index sets place) < count_ones (slice_index sets i)

-- the smallest set so far is at this place, and the search has followed its first e edges, or has stopped since this set has at most `enough` nodes
pub record IsDescent (r : LocalRule) (sets : List ℕ) (parents : List (Option (ℕ × ℕ))) (enough e place : ℕ) : Type 0 where
  pub edges : ℕ
  pub search : IsTreeSearch r sets parents edges
  pub smallest : IsFirstSmallest sets place
  pub all : enough < count_ones (slice_index sets place) → edges ≡ e

-- only the first set has no parent, and each parent comes before its set
abbrev pub AreEarlier : List (Option (ℕ × ℕ)) → Type 0
AreEarlier parents = (i : ℕ) (way : Option (ℕ × ℕ)) → slice_get parents i ≡ Some way → MatchOption way (i ≡ 0) (λ (p, a). p < i)

-- the parents are those of the places of a tree
abbrev pub AreWays : List (Place ℕ) → List (Option (ℕ × ℕ)) → Type 0
AreWays tree parents = (i : ℕ) (way : Option (ℕ × ℕ)) → slice_get parents i ≡ Some way → IsWay tree i way
