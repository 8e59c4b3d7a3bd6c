-- Configurations as functions from the integers to letters, and their images under a rule. A letter is a number below
-- k.
use Rattle.std.specs.Prelude.{◌≡◌, ℕ, ◌<◌, List, map, ℤ, pos, ◌+ℤ◌, neg_ℤ, ◌<ℤ◌, ◌≤ℤ◌}
use Rattle.std.specs.List.{range_with_len}
use Rattle.word_image.specs.LocalRules.{LocalRule, local_map}

-- a configuration has a letter at each integer place
abbrev pub Config : Type 0
Config = ℤ → ℕ

-- the letters of the configuration are below k
abbrev pub IsConfig : ℕ → Config → Type 0
IsConfig k x = (i : ℤ) → x i < k

-- the configuration with the letter 0 everywhere
abbrev pub zeros : Config
zeros i = 0

-- n letters of a configuration, starting at place i
abbrev pub run : Config → ℤ → ℕ → List ℕ
run x i n = map (λ j. x (i +ℤ pos j)) (range_with_len 0 n)

-- the image of a configuration: at each place the letter that the rule gives for the window of this place
abbrev pub image_of : LocalRule → Config → Config
image_of r x i = local_map r (run x (i +ℤ r.offset) r.width)

-- two configurations are equal at the places from -n to n
abbrev pub AgreeWithin : ℕ → Config → Config → Type 0
AgreeWithin n x y = (i : ℤ) → neg_ℤ (pos n) ≤ℤ i → i ≤ℤ pos n → x i ≡ y i

-- two configurations are equal at each place left of some place
abbrev pub AgreeFarLeft : Config → Config → Type 0
AgreeFarLeft x y = (p : ℤ) × ((i : ℤ) → i <ℤ p → x i ≡ y i)

-- two configurations are equal at each place right of some place
abbrev pub AgreeFarRight : Config → Config → Type 0
AgreeFarRight x y = (p : ℤ) × ((i : ℤ) → p <ℤ i → x i ≡ y i)
