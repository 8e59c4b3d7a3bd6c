-- The preimages of a configuration t under a rule of width m. A configuration here has periodic tails and is written
-- `L|M|R`: left period, middle, right period. A placed configuration also has the cell at which its middle begins. A
-- shape counts the periods of t in the parts of a placed configuration. A stretch of t consists of some copies of L,
-- then M, then some copies of R: 01010 is a stretch of `0|101|0`. If a stretch is an orphan, t has no preimage.
use Rattle.std.specs.Prelude.{◌≡◌, ◌≢◌, ℕ, ◌+◌, ◌*◌, ◌-◌, ◌≤◌, List, ◌++◌, length, map, ℤ, pos, ◌+ℤ◌, ◌-ℤ◌}
use Rattle.std.specs.List.{range_with_len, repeat}
use Rattle.std.specs.Ordering.{ordering_then, nat_cmp}
use Rattle.std.specs.declared.cmp.Ordering.{Ordering}
use Rattle.std.specs.declared.cmp.Ordering.TheVariants.{Greater}
use Rattle.std.specs.Cmp.Lexicographic.{slice_cmp}
use Rattle.word_image.specs.LocalRules.{LocalRule, local_map, most_nodes}
use Rattle.word_image.specs.Words.{IsOrphan}
use Rattle.tail_config.specs.Tails.{TailConfig, IsTail, cell}

-- a configuration whose middle begins at the place `at`
pub record PlacedConfig : Type 0 where
  pub at : ℤ
  pub config : TailConfig

-- the letter of a placed configuration at place i
abbrev pub placed_cell : PlacedConfig → ℤ → ℕ
placed_cell p i = cell p.config (i -ℤ p.at)

-- n cells of a placed configuration, starting at place i
abbrev pub placed_cells : PlacedConfig → ℤ → ℕ → List ℕ
placed_cells p i n = map (λ j. placed_cell p (i +ℤ pos j)) (range_with_len 0 n)

-- the rule maps p to t: for the window of p at each place i, the rule gives the letter of t at i
pub record MapsTo (r : LocalRule) (p : PlacedConfig) (t : TailConfig) : Type 0 where
  pub config : IsTail r.states p.config
  pub cells : (i : ℤ) → local_map r (placed_cells p (i +ℤ r.offset) r.width) ≡ cell t i

-- a shape counts periods of t: `back` left periods in the left period of a placed configuration, `before` left and `after` right periods in its middle, `on` right periods in its right period
pub record Shape : Type 0 where
  pub before : ℕ
  pub back : ℕ
  pub after : ℕ
  pub on : ℕ

-- p has the shape s: the parts of p have the lengths that s gives, and its middle begins at the offset of the rule minus the length of `before` left periods of t
pub record HasShape (r : LocalRule) (t : TailConfig) (s : Shape) (p : PlacedConfig) : Type 0 where
  pub back_some : 1 ≤ s.back
  pub on_some : 1 ≤ s.on
  pub left : length p.config.left ≡ s.back * length t.left
  pub middle : length p.config.middle ≡ s.before * length t.left + length t.middle + s.after * length t.right
  pub right : length p.config.right ≡ s.on * length t.right
  pub at : p.at ≡ r.offset -ℤ pos (s.before * length t.left)
  -- the first m - 1 cells of the middle are equal to the m - 1 cells one left period of p earlier
  pub node : placed_cells p p.at (r.width - 1) ≡ placed_cells p (p.at -ℤ pos (s.back * length t.left)) (r.width - 1)

-- the order of shapes: fewer left periods in total come first, then fewer right periods in total, then fewer left periods in the middle, then fewer right periods in the middle
abbrev pub shape_cmp : Shape → Shape → Ordering
shape_cmp s u =
    ordering_then (nat_cmp (s.back + s.before) (u.back + u.before))
    (ordering_then (nat_cmp (s.on + s.after) (u.on + u.after))
    (ordering_then (nat_cmp s.before u.before) (nat_cmp s.after u.after)))

-- the three parts of a placed configuration as one word
abbrev pub letters : PlacedConfig → List ℕ
letters p = p.config.left ++ p.config.middle ++ p.config.right

-- p has the shape s, and the rule maps p to t
pub record IsShapedPreimage (r : LocalRule) (t : TailConfig) (s : Shape) (p : PlacedConfig) : Type 0 where
  pub maps : MapsTo r p t
  pub shape : HasShape r t s p

-- p is the least preimage of t: it has the least shape of all preimages, and among the preimages of this shape its letters come first in dictionary order
pub record IsLeastPreimage (r : LocalRule) (t : TailConfig) (p : PlacedConfig) : Type 0 where
  pub shape : Shape
  pub preimage : IsShapedPreimage r t shape p
  pub least : (s : Shape) (q : PlacedConfig) → IsShapedPreimage r t s q → ordering_then (shape_cmp shape s) (slice_cmp nat_cmp (letters p) (letters q)) ≢ Greater

-- the stretch of t that consists of `before` left periods, the middle and `after` right periods
abbrev pub stretch : TailConfig → ℕ → ℕ → List ℕ
stretch t before after = repeat before t.left ++ t.middle ++ repeat after t.right

-- w is the first orphan among the stretches of t: it has the fewest left periods, and among the orphans with as many left periods the fewest right periods
pub record IsLeastGap (r : LocalRule) (t : TailConfig) (before after : ℕ) (w : List ℕ) : Type 0 where
  pub word : w ≡ stretch t before after
  pub orphan : IsOrphan r w
  pub before_least : (b a : ℕ) → IsOrphan r (stretch t b a) → before ≤ b
  pub after_least : (a : ℕ) → IsOrphan r (stretch t before a) → after ≤ a

-- the shape has at most 16 left periods and at most 16 right periods in total
pub record IsSmall (s : Shape) : Type 0 where
  pub left : s.back + s.before ≤ most_nodes
  pub right : s.on + s.after ≤ most_nodes

-- p is the least preimage of t, and its shape has at most 16 left periods and at most 16 right periods of t in total
pub record IsFrom (r : LocalRule) (t : TailConfig) (p : PlacedConfig) : Type 0 where
  pub least : IsLeastPreimage r t p
  pub small : IsSmall least.shape

-- w is the first orphan among the stretches of t, it has at most 16 left periods and at most 16 right periods, and the rule maps no placed configuration to t
pub record IsGap (r : LocalRule) (t : TailConfig) (before after : ℕ) (w : List ℕ) : Type 0 where
  pub least : IsLeastGap r t before after w
  pub before_few : before ≤ most_nodes
  pub after_few : after ≤ most_nodes
  pub none : (p : PlacedConfig) → ¬ MapsTo r p t
