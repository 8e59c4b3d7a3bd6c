-- A configuration together with the number of its states. Contracts use it for a `Tail`, the type of configurations in
-- the program.
use Rattle.std.specs.Prelude.{ℕ, ◌≤◌, List, take, drop}
use Rattle.word_image.specs.LocalRules.{most_states}
use Rattle.tail_config.specs.Tails.{TailConfig}
use Rattle.tail_config.specs.TailTexts.{IsShortTail}

-- a configuration over the letters 0 to states - 1
pub record TailOver : Type 0 where
  pub states : ℕ
  pub config : TailConfig

-- there are 2 to 16 states, and each part of the configuration has at most 1,024 letters
pub record IsAcceptedTail (t : TailOver) : Type 0 where
  pub least_states : 2 ≤ t.states
  pub most_states : t.states ≤ most_states
  pub short : IsShortTail t.states t.config

-- the configuration with these three parts
abbrev pub config_of : List ℕ → List ℕ → List ℕ → TailConfig
config_of left middle right = record { left = left; middle = middle; right = right }

-- the configuration whose three parts stand one after another in a list: the left period and the middle have this many letters, and the right period has all others
abbrev pub config_in : List ℕ → ℕ → ℕ → TailConfig
config_in letters left middle = config_of (take left letters) (take middle (drop left letters)) (drop middle (drop left letters))
