-- The nodes at the ends of two windows that differ only in the letter at their end on a side. On the right, the node at
-- the end of a window is its last m - 1 letters, and on the left its first m - 1 letters, if the rule has width m.
use Rattle.std.specs.Prelude.{◌≡◌, ℕ, ◌<◌}
use Rattle.word_image.specs.LocalRules.{LocalRule, node_count}
use Rattle.word_image.specs.declared.side.Side.{Side}
use Rattle.word_image.specs.Ends.{end_node}
use Rattle.pair_laws.specs.FirstWindows.{with_end, AreFirst}

-- u is the node at the end of the window w on this side, and v is the node at the end of the window with the letter a in place of the end letter of w
pub record AreEndNodes (side : Side) (r : LocalRule) (w a u v : ℕ) : Type 0 where
  pub first : u ≡ end_node side r w
  pub second : v ≡ end_node side r (with_end side r w a)
  pub node : v < node_count r

-- the window w and the window with the end letter a are different and have equal labels, and u and v are the nodes at their ends on this side
pub record IsFound (side : Side) (r : LocalRule) (w a u v : ℕ) : Type 0 where
  pub first : AreFirst side r w a
  pub ends : AreEndNodes side r w a u v
