-- The three walks from which the program builds a preimage of a configuration t with periodic tails. A walk along a
-- word is a preimage of the word: it leads from the node of its first m - 1 letters to the node of its last m - 1
-- letters, if the rule has width m. The first walk is a loop along left periods of t, the second one leads along left
-- periods, the middle and right periods, and the third one is a loop along right periods. A shape counts the periods of
-- each walk.
use Rattle.std.specs.Prelude.{◌≡◌, ℕ, ◌+◌, ◌-◌, ◌*◌, ◌^◌, ◌≤◌, List, length, drop, slice_index, pos, ◌-ℤ◌}
use Rattle.std.specs.List.{repeat}
use Rattle.word_image.specs.LocalRules.{LocalRule}
use Rattle.word_image.specs.Graphs.{IsNodeSet}
use Rattle.tail_config.specs.Tails.{TailConfig}
use Rattle.tail_config.specs.TailValues.{config_of}
use Rattle.tail_preimage.specs.Walks.{IsWalk, HasWalk, Reaches, IsLeastWalkInto, before_last}
use Rattle.tail_preimage.specs.Preimages.{PlacedConfig, Shape, stretch}

-- x, y and z are walks of the shape s: x is a loop at node v along `back` left periods, y leads from v to w along `before` left periods, the middle and `after` right periods, and z is a loop at w along `on` right periods
pub record AreLoopWalks (r : LocalRule) (t : TailConfig) (s : Shape) (v w : ℕ) (x y z : List ℕ) : Type 0 where
  pub back_some : 1 ≤ s.back
  pub on_some : 1 ≤ s.on
  pub left : IsWalk r (repeat s.back t.left) v v x
  pub middle : IsWalk r (stretch t s.before s.after) v w y
  pub right : IsWalk r (repeat s.on t.right) w w z

-- the placed configuration whose left period, middle and right period are x, y and z, each without the m - 1 letters of its last node
abbrev pub placed_of : LocalRule → TailConfig → ℕ → List ℕ → List ℕ → List ℕ → PlacedConfig
placed_of r t before x y z = record { at = r.offset -ℤ pos (before * length t.left); config = config_of (before_last r x) (before_last r y) (before_last r z) }

-- the first walks of the shape s: v is the least node at which such walks start, x is the first loop at v in dictionary order, y is the first walk from v to a node w that has a loop, and z is the first loop at w
pub record AreFirstWalks (r : LocalRule) (t : TailConfig) (s : Shape) (v w : ℕ) (x y z : List ℕ) : Type 0 where
  pub back_some : 1 ≤ s.back
  pub on_some : 1 ≤ s.on
  pub start : (u q : ℕ) (a b c : List ℕ) → AreLoopWalks r t s u q a b c → v ≤ u
  pub left : IsLeastWalkInto r (repeat s.back t.left) v (2 ^ v) v x
  pub turns : ℕ
  pub turning : IsNodeSet r (λ u. HasWalk r (repeat s.on t.right) u u) turns
  pub middle : IsLeastWalkInto r (stretch t s.before s.after) v turns w y
  pub right : IsLeastWalkInto r (repeat s.on t.right) w (2 ^ w) w z

-- the list has n + 1 sets: set j has the nodes from which some walk along the last j letters of w leads into the set `goal`
pub record AreOpen (r : LocalRule) (w : List ℕ) (goal n : ℕ) (sets : List ℕ) : Type 0 where
  pub long : length sets ≡ n + 1
  pub each : (j : ℕ) → j ≤ n → IsNodeSet r (Reaches r (drop (length w - j) w) goal) (slice_index sets j)
