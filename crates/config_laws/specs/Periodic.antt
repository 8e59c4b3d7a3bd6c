-- Periodic configurations, and properties of a rule's map on them.
use Rattle.std.specs.Prelude.{◌≡◌, ℕ, ◌≤◌, ℤ, pos, ◌+ℤ◌}
use Rattle.word_image.specs.LocalRules.{LocalRule}
use Rattle.tail_config.specs.Configs.{Config, IsConfig, image_of}

-- the letters of the configuration repeat every p places
pub record HasPeriod (p : ℕ) (x : Config) : Type 0 where
  pub some : 1 ≤ p
  pub again : (i : ℤ) → x (i +ℤ pos p) ≡ x i

-- the configuration has some period
abbrev pub IsPeriodic : Config → Type 0
IsPeriodic x = (p : ℕ) × HasPeriod p x

-- each periodic configuration is the image of a periodic configuration
abbrev pub IsOntoPeriodic : LocalRule → Type 0
IsOntoPeriodic r = (y : Config) → IsConfig r.states y → IsPeriodic y → (x : Config) × IsConfig r.states x × IsPeriodic x × (image_of r x ≡ y)

-- each preimage of a periodic configuration is periodic
abbrev pub HasPeriodicPreimages : LocalRule → Type 0
HasPeriodicPreimages r = (x : Config) → IsConfig r.states x → IsPeriodic (image_of r x) → IsPeriodic x
