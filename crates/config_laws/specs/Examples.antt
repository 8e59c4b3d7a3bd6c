-- Worked examples, which the prover computes. Under the first rule, a letter of a preimage can depend on letters of the
-- image that are arbitrarily far away.
use Rattle.std.specs.Prelude.{◌≡◌, ℕ, [], ◌∷◌, ◌==◌, if◌then◌else◌, pos, negsuc, refl}
use Rattle.std.specs.List.{repeat}
use Rattle.word_image.specs.LocalRules.{LocalRule}
use Rattle.word_image.specs.Rings.{ring_image}
use Rattle.tail_config.specs.Configs.{Config, run, image_of}
use Rattle.config_laws.specs.Sums.{weight_on, weight_within}

-- the rule that maps 2 to 1 and 3 to 2, and that maps 0 and 1 to 0 if the letter to the right has the same parity, and to 3 if not: the text 4:2:0:t0303303011112222
abbrev pub parities : LocalRule
parities = record { states = 4; width = 2; offset = pos 0; table = 0 ∷ 3 ∷ 0 ∷ 3 ∷ 3 ∷ 0 ∷ 3 ∷ 0 ∷ 1 ∷ 1 ∷ 1 ∷ 1 ∷ 2 ∷ 2 ∷ 2 ∷ 2 ∷ [] }

-- the configuration with the letter a up to place 0, b at place 1, and 0 after it
abbrev steps_to : ℕ → ℕ → Config
steps_to a b (pos i) = if i == 0 then a else (if i == 1 then b else 0)
steps_to a b (negsuc i) = a

-- zeros before a 2 and ones before a 3 have images that are equal to the left of place 1 and differ at place 1

image_of-zeros_2 : run (image_of parities (steps_to 0 2)) (negsuc 1) 5 ≡ 0 ∷ 0 ∷ 0 ∷ 1 ∷ 0 ∷ []
image_of-zeros_2 = refl

image_of-ones_3 : run (image_of parities (steps_to 1 3)) (negsuc 1) 5 ≡ 0 ∷ 0 ∷ 0 ∷ 2 ∷ 0 ∷ []
image_of-ones_3 = refl

-- in the configuration of ones before a 3, the letters at the places -1 to 2 weigh 1 + 1 + 3 + 0, and the letters from -2 to 2 weigh one more

weight_on-ones_3 : weight_on (λ a. a) (steps_to 1 3) (negsuc 0) 4 ≡ 5
weight_on-ones_3 = refl

weight_within-ones_3 : weight_within (λ a. a) 2 (steps_to 1 3) ≡ 6
weight_within-ones_3 = refl

-- rule 90, the sum of both neighbours modulo 2: the text 2:3:-1:t01011010
abbrev rule90 : LocalRule
rule90 = record { states = 2; width = 3; offset = negsuc 0; table = 0 ∷ 1 ∷ 0 ∷ 1 ∷ 1 ∷ 0 ∷ 1 ∷ 0 ∷ [] }

-- under rule 90 no ring has the image 1, but a ring of four letters has the image 1111, which is the ring 1 repeated as many times as there are nodes

ring_image-zero : ring_image rule90 (0 ∷ []) ≡ 0 ∷ []
ring_image-zero = refl

ring_image-one : ring_image rule90 (1 ∷ []) ≡ 0 ∷ []
ring_image-one = refl

ring_image-four : ring_image rule90 (0 ∷ 0 ∷ 1 ∷ 1 ∷ []) ≡ repeat 4 (1 ∷ [])
ring_image-four = refl
