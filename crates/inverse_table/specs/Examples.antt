-- Worked examples of maps that read letters of an image, such as the inverse map of a rule, which the prover computes.
use Rattle.std.specs.Prelude.{◌≡◌, [], ◌∷◌, refl, pos, negsuc, Some, None}
use Rattle.word_image.specs.declared.local_rule.RuleFault.TheVariants.{Width, Offset}
use Rattle.tail_config.specs.InverseMaps.{WindowMap}
use Rattle.inverse_table.specs.InverseMaps.{map_rule, map_image}
use Rattle.inverse_table.specs.MapLimits.{rule_limit_fault}

-- the inverse map of rule 170, under which all cells move to the left. The map reads one letter, the letter to the left of the cell
abbrev right_shift : WindowMap
right_shift = record { states = 2; width = 1; offset = negsuc 0; table = 0 ∷ 1 ∷ [] }

-- the right shift as a rule of width 2, which ignores its second cell: the text 2:2:-1:t0011
map_rule-right_shift : map_rule right_shift ≡ record { states = 2; width = 2; offset = negsuc 0; table = 0 ∷ 0 ∷ 1 ∷ 1 ∷ [] }
map_rule-right_shift = refl

-- the map that adds two letters modulo 2
abbrev sum : WindowMap
sum = record { states = 2; width = 2; offset = pos 0; table = 0 ∷ 1 ∷ 1 ∷ 0 ∷ [] }

-- the image of the word 0110 under the map `sum`: each letter except the last is added to the next one
map_image-sum : map_image sum (0 ∷ 1 ∷ 1 ∷ 0 ∷ []) ≡ 1 ∷ 0 ∷ 1 ∷ []
map_image-sum = refl

-- a map that reads six letters breaks the limit of widths, and a map that reads letters starting at cell i - 17 breaks the limit of offsets
rule_limit_fault-wide : rule_limit_fault (record { states = 2; width = 6; offset = pos 0; table = [] }) ≡ Some Width
rule_limit_fault-wide = refl

rule_limit_fault-far : rule_limit_fault (record { states = 2; width = 2; offset = negsuc 16; table = [] }) ≡ Some Offset
rule_limit_fault-far = refl

rule_limit_fault-right_shift : rule_limit_fault (map_rule right_shift) ≡ None
rule_limit_fault-right_shift = refl
