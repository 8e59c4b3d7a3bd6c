-- The relations of the three parts of a configuration t: its left period, its middle and its right period. The relation
-- of a word relates node u to node v if some walk from u to v has labels that spell the word. A node is a word of m - 1
-- letters, if the rule has width m. The program looks for a walk along t that begins and ends with a loop. A shape
-- counts the periods of this walk: a loop of `back` left periods, then `before` left periods, the middle and `after`
-- right periods, then a loop of `on` right periods.
use Rattle.std.specs.Prelude.{◌≢◌, ℕ, ◌<◌, ◌≤◌, [], get_or}
use Rattle.std.specs.declared.cmp.Ordering.TheVariants.{Greater}
use Rattle.word_image.specs.LocalRules.{LocalRule, IsRule, node_count, most_nodes}
use Rattle.tail_config.specs.Tails.{TailConfig}
use Rattle.tail_preimage.specs.Walks.{HasWalk}
use Rattle.tail_preimage.specs.Preimages.{Shape, shape_cmp, IsSmall}
use Rattle.tail_preimage.specs.Relations.{IsRelation, Steps, Open, Rounds}
use Rattle.word_image.specs.Graphs.{AreSets, HasBit}
use Rattle.tail_preimage.specs.declared.periods.Periods.{Periods}
use Rattle.tail_preimage.specs.declared.shapes.PartRelations.{PartRelations}
use Rattle.tail_preimage.specs.declared.shapes.Spans.{Spans}

-- entry n of `powers`, for n from 0 to 16, relates u to v if n steps of the relation `period` lead from u to v
pub record ArePeriods (r : LocalRule) (periods : Periods) : Type 0 where
  pub period : AreSets r periods.period
  pub powers : (n : ℕ) → n ≤ most_nodes → IsRelation r (Steps (HasBit periods.period) n) (get_or periods.powers n [])

-- `parts` has the relations of the parts of t; the relation of the left period is reversed and leads from the node at the end of a period to the node at its start
pub record AreTailParts (r : LocalRule) (t : TailConfig) (parts : PartRelations) : Type 0 where
  pub rule : IsRule r
  pub left_periods : ArePeriods r parts.left
  pub right_periods : ArePeriods r parts.right
  pub left : IsRelation r (λ u v. HasWalk r t.left v u) parts.left.period
  pub middle : IsRelation r (HasWalk r t.middle) parts.middle
  pub right : IsRelation r (HasWalk r t.right) parts.right.period

-- `parts` has the relations of the parts of some configuration
abbrev pub HaveParts : LocalRule → PartRelations → Type 0
HaveParts r parts = (t : TailConfig) × AreTailParts r t parts

-- the relation of the middle relates some node with the property `Before` to some node with the property `Behind`
abbrev pub Through : LocalRule → PartRelations → (ℕ → Type 0) → (ℕ → Type 0) → Type 0
Through r parts Before Behind = (v : ℕ) × (w : ℕ) × (v < node_count r) × (w < node_count r) × Before v × HasBit parts.middle v w × Behind w

-- some walk leads along b left periods, the middle and a right periods
abbrev pub PassesThrough : LocalRule → PartRelations → ℕ → ℕ → Type 0
PassesThrough r parts b a = Through r parts (Open (HasBit parts.left.period) b) (Open (HasBit parts.right.period) a)

-- a `Spans`, which is the program's type for shapes, as a shape
abbrev pub shape_of : Spans → Shape
shape_of s = record { before = s.before; back = s.back; after = s.after; on = s.on }

-- walks of this shape start at node v: a loop of `back` left periods at v, and a walk from v along `before` left periods, the middle and `after` right periods to a node with a loop of `on` right periods
abbrev pub Starts : LocalRule → PartRelations → Shape → ℕ → Type 0
Starts r parts s v =
    Steps (HasBit parts.left.period) s.back v v
    × ((u : ℕ) × (u < node_count r) × Steps (HasBit parts.left.period) s.before u v
    × ((w : ℕ) × (w < node_count r) × HasBit parts.middle u w × Rounds (HasBit parts.right.period) s.after s.on w))

-- the shape is possible: walks of this shape start at some node, and each loop has at least one period
pub record IsPossible (r : LocalRule) (parts : PartRelations) (s : Shape) : Type 0 where
  pub back_some : 1 ≤ s.back
  pub on_some : 1 ≤ s.on
  pub node : ℕ
  pub below : node < node_count r
  pub starts : Starts r parts s node

-- the shape is the least of all possible shapes, and it has at most 16 left and 16 right periods in total
pub record IsFirstShape (r : LocalRule) (parts : PartRelations) (s : Shape) : Type 0 where
  pub possible : IsPossible r parts s
  pub small : IsSmall s
  pub least : (u : Shape) → IsPossible r parts u → shape_cmp s u ≢ Greater

-- no walk leads along b left periods, the middle and a right periods. For each i below b, some walk leads along i left periods, the middle and 16 right periods. For each j below a, some walk leads along b left periods, the middle and j right periods
pub record IsFirstGap (r : LocalRule) (parts : PartRelations) (b a : ℕ) : Type 0 where
  pub before_few : b ≤ most_nodes
  pub after_few : a ≤ most_nodes
  pub closed : ¬ PassesThrough r parts b a
  pub before_least : (i : ℕ) → i < b → ¬ ¬ PassesThrough r parts i most_nodes
  pub after_least : (j : ℕ) → j < a → ¬ ¬ PassesThrough r parts b j
