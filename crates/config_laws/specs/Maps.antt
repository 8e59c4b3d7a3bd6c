-- Properties of the map from configurations to their images.
use Rattle.std.specs.Prelude.{◌≡◌, ◌≢◌, ℕ, ◌<◌, ◌≤◌, ℤ}
use Rattle.word_image.specs.LocalRules.{LocalRule}
use Rattle.tail_config.specs.Configs.{Config, IsConfig, image_of, AgreeWithin, AgreeFarLeft, AgreeFarRight}

-- no two different configurations have the same image
abbrev pub IsInjectiveMap : LocalRule → Type 0
IsInjectiveMap r = (x y : Config) → IsConfig r.states x → IsConfig r.states y → image_of r x ≡ image_of r y → x ≡ y

-- no two different configurations that agree far to the left have the same image
abbrev pub IsRightClosingMap : LocalRule → Type 0
IsRightClosingMap r = (x y : Config) → IsConfig r.states x → IsConfig r.states y → image_of r x ≡ image_of r y → AgreeFarLeft x y → x ≡ y

-- no two different configurations that agree far to the right have the same image
abbrev pub IsLeftClosingMap : LocalRule → Type 0
IsLeftClosingMap r = (x y : Config) → IsConfig r.states x → IsConfig r.states y → image_of r x ≡ image_of r y → AgreeFarRight x y → x ≡ y

-- no two different configurations that agree far to the left and far to the right have the same image
abbrev pub IsPreinjectiveMap : LocalRule → Type 0
IsPreinjectiveMap r = (x y : Config) → IsConfig r.states x → IsConfig r.states y → image_of r x ≡ image_of r y → AgreeFarLeft x y → AgreeFarRight x y → x ≡ y

-- the map is right-continuing: if y agrees far to the left with the image of x, then y is the image of some configuration z that agrees far to the left with x
abbrev pub IsRightContinuingMap : LocalRule → Type 0
IsRightContinuingMap r = (x y : Config) → IsConfig r.states x → IsConfig r.states y → AgreeFarLeft (image_of r x) y → (z : Config) × IsConfig r.states z × AgreeFarLeft x z × (image_of r z ≡ y)

-- the map is left-continuing: if y agrees far to the right with the image of x, then y is the image of some configuration z that agrees far to the right with x
abbrev pub IsLeftContinuingMap : LocalRule → Type 0
IsLeftContinuingMap r = (x y : Config) → IsConfig r.states x → IsConfig r.states y → AgreeFarRight (image_of r x) y → (z : Config) × IsConfig r.states z × AgreeFarRight x z × (image_of r z ≡ y)

-- the images are dense: on every finite part, each configuration agrees with some image
abbrev pub IsDenseMap : LocalRule → Type 0
IsDenseMap r = (y : Config) (n : ℕ) → IsConfig r.states y → (x : Config) × IsConfig r.states x × AgreeWithin n (image_of r x) y

-- each configuration is the image of some configuration
abbrev pub IsOntoMap : LocalRule → Type 0
IsOntoMap r = (y : Config) → IsConfig r.states y → (x : Config) × IsConfig r.states x × (image_of r x ≡ y)

-- each configuration is the image of exactly one configuration
abbrev pub IsBijectiveMap : LocalRule → Type 0
IsBijectiveMap r = (y : Config) → IsConfig r.states y → (x : Config) × IsConfig r.states x × (image_of r x ≡ y) × ((z : Config) → IsConfig r.states z → image_of r z ≡ y → z ≡ x)

-- each configuration that agrees with the image of x from -N to N has a preimage that agrees with x from -n to n
abbrev pub IsNear : LocalRule → Config → ℕ → ℕ → Type 0
IsNear r x n N = (y : Config) → IsConfig r.states y → AgreeWithin N (image_of r x) y → (z : Config) × IsConfig r.states z × AgreeWithin n x z × (image_of r z ≡ y)

-- the map is open: for each x and n there is an N such that every configuration that agrees with the image of x from -N to N has a preimage that agrees with x from -n to n
abbrev pub IsOpenMap : LocalRule → Type 0
IsOpenMap r = (x : Config) (n : ℕ) → IsConfig r.states x → (N : ℕ) × IsNear r x n N

-- the map is uniformly open: for each n there is an N such that, for all x, every configuration that agrees with the image of x from -N to N has a preimage that agrees with x from -n to n
abbrev pub IsEvenlyOpenMap : LocalRule → Type 0
IsEvenlyOpenMap r = (n : ℕ) → (N : ℕ) × ((x : Config) → IsConfig r.states x → IsNear r x n N)

-- two configurations differ at some place
abbrev pub Differ : Config → Config → Type 0
Differ x y = (i : ℤ) × (x i ≢ y i)

-- a sequence of configurations with the same image, in which the configurations 0 to n are all different
pub record AreMany (r : LocalRule) (n : ℕ) (xs : ℕ → Config) : Type 0 where
  pub configs : (i : ℕ) → IsConfig r.states (xs i)
  pub differ : (i j : ℕ) → i < j → j ≤ n → Differ (xs i) (xs j)
  pub one_image : (i : ℕ) → image_of r (xs i) ≡ image_of r (xs 0)
