-- Splits on the left: two different configurations with the same image that agree far to the right.
use Rattle.word_image.specs.LocalRules.{LocalRule}
use Rattle.tail_config.specs.Tails.{TailConfig, IsTail, Different, ShareImage, AgreeRight}

-- x and y are a left split: different configurations that have the same image and agree far to the right
pub record IsLeftSplit (r : LocalRule) (x y : TailConfig) : Type 0 where
  pub first : IsTail r.states x
  pub second : IsTail r.states y
  pub different : Different x y
  pub share : ShareImage r x y
  pub agree : AgreeRight x y
