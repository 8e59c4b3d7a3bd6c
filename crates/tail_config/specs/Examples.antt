-- Worked examples: cells, image cells, mirrors, texts and faults done by hand, which the prover computes.
use Rattle.std.specs.Prelude.{◌≡◌, ℕ, List, [], ◌∷◌, map, codes, replicate, refl, pos, negsuc, ◌+ℤ◌, ℤ, ◌==◌, if◌then◌else◌, Some, None}
use Rattle.std.specs.List.{range_with_len}
use Rattle.word_image.specs.LocalRules.{LocalRule}
use Rattle.tail_config.specs.Configs.{Config, run, image_of}
use Rattle.tail_config.specs.Tails.{TailConfig, cell, cells, image_cell, mirror_of}
use Rattle.tail_config.specs.InverseMaps.{mapped}
use Rattle.tail_config.specs.TailValues.{config_of}
use Rattle.tail_config.specs.TailTexts.{printed}
use Rattle.tail_config.specs.TailFaults.{tail_fault}
use Rattle.tail_config.specs.declared.faults.Part.TheVariants as part
use Rattle.tail_config.specs.declared.faults.TailFault.TheVariants as fault

-- rule 30: the text 2:3:-1:t01111000
abbrev rule30 : LocalRule
rule30 = record { states = 2; width = 3; offset = negsuc 0; table = 0 ∷ 1 ∷ 1 ∷ 1 ∷ 1 ∷ 0 ∷ 0 ∷ 0 ∷ [] }

-- rule 90, the sum of both neighbours modulo 2: the text 2:3:-1:t01011010
abbrev rule90 : LocalRule
rule90 = record { states = 2; width = 3; offset = negsuc 0; table = 0 ∷ 1 ∷ 0 ∷ 1 ∷ 1 ∷ 0 ∷ 1 ∷ 0 ∷ [] }

-- the shift to the left, by which each cell takes the letter to its right: the text 2:2:0:t0101
abbrev left_shift : LocalRule
left_shift = record { states = 2; width = 2; offset = pos 0; table = 0 ∷ 1 ∷ 0 ∷ 1 ∷ [] }

-- the cells of 011|01|0 at the places -3 to 2

cells-row : cells (config_of (0 ∷ 1 ∷ 1 ∷ []) (0 ∷ 1 ∷ []) (0 ∷ [])) (negsuc 2) 6 ≡ 0 ∷ 1 ∷ 1 ∷ 0 ∷ 1 ∷ 0 ∷ []
cells-row = refl

-- a configuration with periodic tails is also a function from places to letters: its cells are the letters of this function, and its image cells are the letters of the image of this function

cells-run : (t : TailConfig) (i : ℤ) (n : ℕ) → cells t i n ≡ run (cell t) i n
cells-run t i n = refl

image_cell-image_of : (r : LocalRule) (t : TailConfig) (i : ℤ) → image_cell r t i ≡ image_of r (cell t) i
image_cell-image_of r t i = refl

-- the configuration of zeros with one 1 at place 0. Under rule 90 the 1 becomes 0 and its two neighbours become 1

abbrev one_in_zeros : Config
one_in_zeros (pos i) = if i == 0 then 1 else 0
one_in_zeros (negsuc i) = 0

run-one : run one_in_zeros (negsuc 1) 5 ≡ 0 ∷ 0 ∷ 1 ∷ 0 ∷ 0 ∷ []
run-one = refl

image_of-one : run (image_of rule90 one_in_zeros) (negsuc 1) 5 ≡ 0 ∷ 1 ∷ 0 ∷ 1 ∷ 0 ∷ []
image_of-one = refl

-- the shift to the right undoes the shift to the left. It maps the image of the configuration with one 1 back to this configuration

mapped-one : run (mapped (record { states = 2; width = 1; offset = negsuc 0; table = 0 ∷ 1 ∷ [] }) (image_of left_shift one_in_zeros)) (negsuc 1) 5 ≡ 0 ∷ 0 ∷ 1 ∷ 0 ∷ 0 ∷ []
mapped-one = refl

-- 0|1011|1 and 0|1100|0 show that rule 30 isn't right-closing: they agree to the left of place 1, and have the same image. Under rule 90 their images differ at place 0

abbrev a : TailConfig
a = config_of (0 ∷ []) (1 ∷ 0 ∷ 1 ∷ 1 ∷ []) (1 ∷ [])

abbrev b : TailConfig
b = config_of (0 ∷ []) (1 ∷ 1 ∷ 0 ∷ 0 ∷ []) (0 ∷ [])

cells-before : cells a (negsuc 9) 11 ≡ cells b (negsuc 9) 11
cells-before = refl

cell-a : cell a (pos 1) ≡ 0
cell-a = refl

cell-b : cell b (pos 1) ≡ 1
cell-b = refl

-- the letters of the image of a configuration at the places -6 to 7
abbrev image_row : LocalRule → TailConfig → List ℕ
image_row r t = map (λ j. image_cell r t (negsuc 5 +ℤ pos j)) (range_with_len 0 14)

image_row-30 : image_row rule30 a ≡ image_row rule30 b
image_row-30 = refl

image_cell-a : image_cell rule90 a (pos 0) ≡ 0
image_cell-a = refl

image_cell-b : image_cell rule90 b (pos 0) ≡ 1
image_cell-b = refl

printed-a : printed a ≡ codes "0|1011|1"
printed-a = refl

-- The mirror of 0|100|1 is 1|001|0

mirror_of-row : mirror_of (config_of (0 ∷ []) (1 ∷ 0 ∷ 0 ∷ []) (1 ∷ [])) ≡ config_of (1 ∷ []) (0 ∷ 0 ∷ 1 ∷ []) (0 ∷ [])
mirror_of-row = refl

-- The first fault of a configuration. |0|1 has an empty period, and 0|2|1 has a number that isn't a letter. The third one has a middle of 1,025 letters, and this fault comes before the wrong letter in its left period. The fourth one has a middle of 1,024 letters, which is no fault

tail_fault-empty : tail_fault 2 (config_of [] (0 ∷ []) (1 ∷ [])) ≡ Some fault.LeftEmpty
tail_fault-empty = refl

tail_fault-letter : tail_fault 2 (config_of (0 ∷ []) (2 ∷ []) (1 ∷ [])) ≡ Some (fault.Letter part.Middle 0)
tail_fault-letter = refl

tail_fault-long : tail_fault 2 (config_of (2 ∷ []) (replicate 1025 0) (1 ∷ [])) ≡ Some (fault.Long part.Middle)
tail_fault-long = refl

tail_fault-none : tail_fault 2 (config_of (1 ∷ []) (replicate 1024 0) (1 ∷ [])) ≡ None
tail_fault-none = refl
