-- Two nodes that are endless in both directions: walks with equal labels and of any length lead from them, and to them.
use Rattle.std.specs.Prelude.{ℕ}
use Rattle.word_image.specs.LocalRules.{LocalRule}
use Rattle.word_image.specs.Ranks.{BeginTogether, EndTogether, IsEndless}

pub record GoOnBothWays (r : LocalRule) (u v : ℕ) : Type 0 where
  pub begins : IsEndless (BeginTogether r u v)
  pub ends : IsEndless (EndTogether r u v)
