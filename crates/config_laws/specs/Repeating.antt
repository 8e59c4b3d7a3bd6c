-- Configurations that are periodic far to the left and far to the right.
use Rattle.std.specs.Prelude.{◌≡◌, ℕ, ◌≤◌, ℤ, pos, ◌+ℤ◌, ◌-ℤ◌, ◌≤ℤ◌}
use Rattle.word_image.specs.LocalRules.{LocalRule}
use Rattle.tail_config.specs.Configs.{Config, IsConfig, image_of}

-- to the right of some place the letters of the configuration repeat with some period
pub record RepeatsFarRight (x : Config) : Type 0 where
  pub place : ℤ
  pub period : ℕ
  pub some : 1 ≤ period
  pub again : (i : ℤ) → place ≤ℤ i → x (i +ℤ pos period) ≡ x i

-- to the left of some place the letters of the configuration repeat with some period
pub record RepeatsFarLeft (x : Config) : Type 0 where
  pub place : ℤ
  pub period : ℕ
  pub some : 1 ≤ period
  pub again : (i : ℤ) → i ≤ℤ place → x (i -ℤ pos period) ≡ x i

-- the configuration has periodic tails: it is periodic far to the left and far to the right
abbrev pub HasTails : Config → Type 0
HasTails x = RepeatsFarLeft x × RepeatsFarRight x

-- each configuration with periodic tails is the image of a configuration with periodic tails
abbrev pub IsOntoTails : LocalRule → Type 0
IsOntoTails r = (y : Config) → IsConfig r.states y → HasTails y → (x : Config) × IsConfig r.states x × HasTails x × (image_of r x ≡ y)
