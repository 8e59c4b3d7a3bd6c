-- The right answer to the question whether a configuration t with periodic tails has a preimage. A placed configuration
-- is a configuration whose middle begins at a given place. If the rule maps placed configurations to t, the answer is
-- the least of them. If not, the answer is a gap: an orphan that consists of some left periods, the middle and some
-- right periods of t.
use Rattle.std.specs.Prelude.{Bool, true, false, ◌+◌, ◌≤◌, length}
use Rattle.word_image.specs.LocalRules.{LocalRule}
use Rattle.tail_config.specs.Tails.{TailConfig}
use Rattle.tail_config.specs.TailValues.{config_of}
use Rattle.tail_preimage.specs.Preimages.{PlacedConfig, IsFrom, IsGap}
use Rattle.tail_preimage.specs.Lengths.{most_stretch}
use Rattle.tail_preimage.specs.declared.answer.Placed.{Placed}
use Rattle.tail_preimage.specs.declared.answer.Pre.{Pre}
use Rattle.tail_preimage.specs.declared.answer.Pre.TheVariants.{From, Gap}
use Rattle.tail_preimage.specs.declared.answer.LentPlaced.{LentPlaced}
use Rattle.tail_preimage.specs.declared.answer.LentPre.{LentPre}
use Rattle.tail_preimage.specs.declared.answer.LentPre.TheVariants as lent

-- the place and the three parts of an answer of the program, as a placed configuration
abbrev pub placed_config : Placed → PlacedConfig
placed_config p = record { at = p.at; config = config_of p.left p.middle p.right }

-- the answer is right for t. `From`: p is the least placed configuration that the rule maps to t. `Gap`: w is the first orphan that consists of left periods, the middle and right periods of t
abbrev pub IsPreimageAnswer : LocalRule → TailConfig → Pre → Type 0
IsPreimageAnswer r t (From p) = IsFrom r t (placed_config p)
IsPreimageAnswer r t (Gap before after w) = IsGap r t before after w

-- whether the answer is a placed configuration, and not a gap
abbrev pub is_from : Pre → Bool
is_from (From p) = true
is_from (Gap before after w) = false

-- the answer has at most 33,792 letters: the three parts of its configuration together, or the word of the gap
abbrev pub IsShortAnswer : Pre → Type 0
IsShortAnswer (From p) = length p.left + length p.middle + length p.right ≤ most_stretch
IsShortAnswer (Gap before after w) = length w ≤ most_stretch

-- a placed configuration that is lent, as a value of `Placed`
abbrev pub placed_of_lent : LentPlaced → Placed
placed_of_lent p = record { at = p.at; left = p.left.now; middle = p.middle.now; right = p.right.now }

-- an answer that is lent, as a value of `Pre`
abbrev pub pre_of : LentPre → Pre
pre_of (lent.From p) = From (placed_of_lent p)
pre_of (lent.Gap before after w) = Gap before after w.now
