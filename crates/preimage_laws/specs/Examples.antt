-- The four preimages of the configuration of zeros under rule 90, worked by hand. The prover computes a part of their
-- images.
use Rattle.std.specs.Prelude.{◌≡◌, ℕ, [], ◌∷◌, slice_index, ◌%◌, pos, negsuc, refl}
use Rattle.word_image.specs.LocalRules.{LocalRule}
use Rattle.tail_config.specs.Configs.{Config, zeros, run, image_of}

-- rule 90, the sum of both neighbours modulo 2: the text 2:3:-1:t01011010
abbrev rule_90 : LocalRule
rule_90 = record { states = 2; width = 3; offset = negsuc 0; table = 0 ∷ 1 ∷ 0 ∷ 1 ∷ 1 ∷ 0 ∷ 1 ∷ 0 ∷ [] }

-- the configuration in which a and b alternate, with a at place 0
abbrev in_turn : ℕ → ℕ → Config
in_turn a b (pos i) = slice_index (a ∷ b ∷ []) (i % 2)
in_turn a b (negsuc i) = slice_index (b ∷ a ∷ []) (i % 2)

-- the words 00, 01, 10 and 11, repeated without end, are four configurations whose image is all zeros; any two of them differ within any two adjacent letters

image_of-zeros : run (image_of rule_90 zeros) (negsuc 1) 5 ≡ 0 ∷ 0 ∷ 0 ∷ 0 ∷ 0 ∷ []
image_of-zeros = refl

image_of-zero_one : run (image_of rule_90 (in_turn 0 1)) (negsuc 1) 5 ≡ 0 ∷ 0 ∷ 0 ∷ 0 ∷ 0 ∷ []
image_of-zero_one = refl

image_of-one_zero : run (image_of rule_90 (in_turn 1 0)) (negsuc 1) 5 ≡ 0 ∷ 0 ∷ 0 ∷ 0 ∷ 0 ∷ []
image_of-one_zero = refl

image_of-ones : run (image_of rule_90 (in_turn 1 1)) (negsuc 1) 5 ≡ 0 ∷ 0 ∷ 0 ∷ 0 ∷ 0 ∷ []
image_of-ones = refl
