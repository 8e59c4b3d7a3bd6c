-- Closing on a side. A rule is right-closing if no two different configurations that agree far to the left share an
-- image. It is left-closing if no two different configurations that agree far to the right share an image.
use Rattle.word_image.specs.LocalRules.{LocalRule}
use Rattle.word_image.specs.declared.side.Side.{Side}
use Rattle.word_image.specs.declared.side.Side.TheVariants.{Right, Left}
use Rattle.tail_config.specs.Tails.{IsRightClosing, IsLeftClosing}

-- the rule is closing on this side: right-closing on the right, or left-closing on the left
abbrev pub IsClosing : Side → LocalRule → Type 0
IsClosing Right r = IsRightClosing r
IsClosing Left r = IsLeftClosing r
