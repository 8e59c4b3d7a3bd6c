-- The family of a rule is a list of sets of nodes. Each word has a set: the last m - 1 letters of each of its
-- preimages, if the rule has width m. The family has these sets in the order in which a breadth-first search finds
-- them, each set once, up to and including the empty set if there is one. A tree is a family with the parent of each
-- set: the place of an earlier set, and the letter of a step that leads from the earlier set to this set.
use Rattle.std.specs.Prelude.{◌≡◌, ℕ, ◌<◌, ◌≤◌, List, length, slice_index, slice_get, Option, Some, MatchOption}
use Rattle.word_image.specs.LocalRules.{LocalRule, IsRule, most_sets}
use Rattle.word_image.specs.Graphs.{full_set}
use Rattle.word_image.specs.Edges.{IsStep}
use Rattle.word_image.specs.Families.{IsFamily}

-- a family as a tree: the list of sets, and for each set its parent, which is a place and a letter, or None for the first set
pub record FamilyTree : Type 0 where
  pub sets : List ℕ
  pub parents : List (Option (ℕ × ℕ))

-- the tree has at most 65,536 sets, only the first set has no parent, and each parent comes before its set
pub record IsTree (tree : FamilyTree) : Type 0 where
  pub most : length tree.sets ≤ most_sets
  pub one_each : length tree.parents ≡ length tree.sets
  pub earlier : (i : ℕ) (way : Option (ℕ × ℕ)) → slice_get tree.parents i ≡ Some way → MatchOption way (i ≡ 0) (λ (p, a). p < i)

-- p and a are the least parent of the set at place i: p is before i and is the least place from which a step leads to this set, and a is the least letter of such a step from p
pub record IsLeastParent (r : LocalRule) (sets : List ℕ) (i p a : ℕ) : Type 0 where
  pub earlier : p < i
  pub letter : a < r.states
  pub step : IsStep r (slice_index sets p) a (slice_index sets i)
  pub least_place : (q b : ℕ) → q < length sets → b < r.states → IsStep r (slice_index sets q) b (slice_index sets i) → p ≤ q
  pub least_letter : (b : ℕ) → b < r.states → IsStep r (slice_index sets p) b (slice_index sets i) → a ≤ b

-- the tree is the family of an accepted rule: the set of all nodes is the first set, and each other set has its least parent
pub record IsFamilyTree (r : LocalRule) (tree : FamilyTree) : Type 0 where
  pub rule : IsRule r
  pub family : IsFamily r tree.sets
  pub starts : slice_get tree.sets 0 ≡ Some (full_set r)
  pub parents : (i : ℕ) (way : Option (ℕ × ℕ)) → slice_get tree.parents i ≡ Some way → MatchOption way (i ≡ 0) (λ (p, a). IsLeastParent r tree.sets i p a)
