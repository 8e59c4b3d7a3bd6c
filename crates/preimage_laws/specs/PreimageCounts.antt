-- How many preimages a configuration has under a rule of width m, and whether they are separated, which means that any
-- two of them differ within any m - 1 adjacent letters.
use Rattle.std.specs.Prelude.{◌≡◌, ℕ, ◌-◌, ◌<◌, ℤ}
use Rattle.word_image.specs.LocalRules.{LocalRule}
use Rattle.tail_config.specs.Configs.{Config, IsConfig, run, image_of}
use Rattle.config_laws.specs.Maps.{Differ}
use Rattle.config_laws.specs.Periodic.{IsPeriodic}

-- the configurations xs 0 to xs (n - 1) are the preimages of y, each listed once
pub record ArePreimages (r : LocalRule) (y : Config) (n : ℕ) (xs : ℕ → Config) : Type 0 where
  pub configs : (i : ℕ) → i < n → IsConfig r.states (xs i)
  pub maps : (i : ℕ) → i < n → image_of r (xs i) ≡ y
  pub differ : (i j : ℕ) → i < j → j < n → Differ (xs i) (xs j)
  pub all : (x : Config) → IsConfig r.states x → image_of r x ≡ y → (i : ℕ) × (i < n) × (xs i ≡ x)

-- the map is n-to-one: each configuration has n preimages
abbrev pub IsToOne : LocalRule → ℕ → Type 0
IsToOne r n = (y : Config) → IsConfig r.states y → (xs : ℕ → Config) × ArePreimages r y n xs

-- the map is constant-to-one: all configurations have the same number of preimages
abbrev pub IsConstantToOne : LocalRule → Type 0
IsConstantToOne r = (n : ℕ) × IsToOne r n

-- each periodic configuration has n preimages
abbrev pub IsToOneOnPeriodic : LocalRule → ℕ → Type 0
IsToOneOnPeriodic r n = (y : Config) → IsConfig r.states y → IsPeriodic y → (xs : ℕ → Config) × ArePreimages r y n xs

-- different preimages of a configuration are separated: they differ within any m - 1 adjacent letters
abbrev pub HasSeparatedPreimages : LocalRule → Type 0
HasSeparatedPreimages r = (x y : Config) (i : ℤ) → IsConfig r.states x → IsConfig r.states y → image_of r x ≡ image_of r y → run x i (r.width - 1) ≡ run y i (r.width - 1) → x ≡ y
