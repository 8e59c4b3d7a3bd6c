-- Sums of weights over finite parts of a configuration. The rule has width m, and a node is a word of m - 1 letters. A
-- flux has a number for each node.
use Rattle.std.specs.Prelude.{◌≡◌, ℕ, ◌+◌, ◌-◌, ◌≤◌, List, sum_by, get_or, ℤ, pos, ◌+ℤ◌, neg_ℤ}
use Rattle.word_image.specs.LocalRules.{LocalRule, value}
use Rattle.tail_config.specs.Configs.{Config, IsConfig, zeros, run, image_of, AgreeFarLeft, AgreeFarRight}

-- the weight of n letters of a configuration, starting at place i
abbrev pub weight_on : (ℕ → ℕ) → Config → ℤ → ℕ → ℕ
weight_on weight x i n = sum_by weight (run x i n)

-- the weight of the letters of a configuration at the places -n to n
abbrev pub weight_within : (ℕ → ℕ) → ℕ → Config → ℕ
weight_within weight n x = weight_on weight x (neg_ℤ (pos n)) (n + n + 1)

-- the number that the flux phi has for the first node of the window of place i, which is the first m - 1 letters of the window
abbrev pub flow_under : LocalRule → List ℤ → Config → ℤ → ℤ
flow_under r phi x i = get_or phi (value r.states (run x (i +ℤ r.offset) (r.width - 1))) (pos 0)

-- the letter of the configuration is 0 at all but finitely many places
abbrev pub IsFinite : Config → Type 0
IsFinite x = AgreeFarLeft x zeros × AgreeFarRight x zeros

-- a finite configuration and its image have the same weight from -n to n, for all large n
abbrev pub KeepsFiniteSums : (ℕ → ℕ) → LocalRule → Type 0
KeepsFiniteSums weight r = (x : Config) → IsConfig r.states x → IsFinite x
    → (N : ℕ) × ((n : ℕ) → N ≤ n → weight_within weight n (image_of r x) ≡ weight_within weight n x)

-- a change of finitely many letters changes the weight of the image by the same amount as the weight of the configuration
abbrev pub KeepsChanges : (ℕ → ℕ) → LocalRule → Type 0
KeepsChanges weight r = (x y : Config) → IsConfig r.states x → IsConfig r.states y → AgreeFarLeft x y → AgreeFarRight x y
    → (N : ℕ) × ((n : ℕ) → N ≤ n → weight_within weight n (image_of r x) + weight_within weight n y ≡ weight_within weight n (image_of r y) + weight_within weight n x)
