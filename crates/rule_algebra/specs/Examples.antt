-- Worked examples of rules that are made from other rules, which the prover computes.
use Rattle.std.specs.Prelude.{◌≡◌, refl, Some, None, ◌∷◌, [], pos, negsuc}
use Rattle.word_image.specs.LocalRules.{LocalRule}
use Rattle.word_image.specs.Words.{image}
use Rattle.word_image.specs.Examples.{both, sum_mod_two}
use Rattle.rule_algebra.specs.Algebra.{shifted, recoloured}
use Rattle.rule_algebra.specs.AlgebraFaults.{shift_fault, compose_fault, widen_fault}
use Rattle.rule_algebra.specs.Tables.{composed, widened, without_first}
use Rattle.rule_algebra.specs.declared.fault.AlgebraFault.TheVariants.{Width, Nodes, Offset}

-- rule 204, which copies the cell
abbrev pub rule204 : LocalRule
rule204 = record { states = 2; width = 3; offset = negsuc 0; table = 0 ∷ 0 ∷ 1 ∷ 1 ∷ 0 ∷ 0 ∷ 1 ∷ 1 ∷ [] }

-- rule 204 shifted by one cell copies the cell to the right
shifted-204 : shifted rule204 (pos 1) ≡ record { states = 2; width = 3; offset = pos 0; table = 0 ∷ 0 ∷ 1 ∷ 1 ∷ 0 ∷ 0 ∷ 1 ∷ 1 ∷ [] }
shifted-204 = refl

-- the sum of the products of neighbouring cells: the composition of the product of two cells with the sum of two cells
sum_of_products : composed both sum_mod_two ≡ record { states = 2; width = 3; offset = pos 0; table = 0 ∷ 0 ∷ 0 ∷ 1 ∷ 0 ∷ 0 ∷ 1 ∷ 0 ∷ [] }
sum_of_products = refl

-- the product of the sums of neighbouring cells, which isn't the sum of the products
product_of_sums : composed sum_mod_two both ≡ record { states = 2; width = 3; offset = pos 0; table = 0 ∷ 0 ∷ 1 ∷ 0 ∷ 0 ∷ 1 ∷ 0 ∷ 0 ∷ [] }
product_of_sums = refl

-- a composition maps the word 1101 to the image under the second rule of the image of 1101 under the first rule
sum_of_products-image : image (composed both sum_mod_two) (1 ∷ 1 ∷ 0 ∷ 1 ∷ []) ≡ image sum_mod_two (image both (1 ∷ 1 ∷ 0 ∷ 1 ∷ []))
sum_of_products-image = refl

-- the sum of two cells as a rule of width 3, which ignores the third cell
widened-sum : widened sum_mod_two 3 ≡ record { states = 2; width = 3; offset = pos 0; table = 0 ∷ 0 ∷ 1 ∷ 1 ∷ 1 ∷ 1 ∷ 0 ∷ 0 ∷ [] }
widened-sum = refl

-- rule 204 without the first cell of its window
without_first-204 : without_first rule204 ≡ record { states = 2; width = 2; offset = pos 0; table = 0 ∷ 0 ∷ 1 ∷ 1 ∷ [] }
without_first-204 = refl

-- the word 0021 with each letter replaced by its colour: 0 becomes 1, 1 becomes 2, and 2 becomes 0
recoloured-word : recoloured (1 ∷ 2 ∷ 0 ∷ []) (0 ∷ 0 ∷ 2 ∷ 1 ∷ []) ≡ 1 ∷ 1 ∷ 0 ∷ 2 ∷ []
recoloured-word = refl

-- a window of three cells that begins at cell -1 can be shifted by 15 cells, and not by 16
shift_fault-204 : shift_fault rule204 (pos 15) ≡ None
shift_fault-204 = refl

shift_fault-204_far : shift_fault rule204 (pos 16) ≡ Some Offset
shift_fault-204_far = refl

-- a rule of three states and width 3 has 9 nodes, which are the words of two letters. Its composition with itself would have 81 nodes, which are the words of four letters
composed_nodes : compose_fault (record { states = 3; width = 3; offset = pos 0; table = [] }) (record { states = 3; width = 3; offset = pos 0; table = [] }) ≡ Some Nodes
composed_nodes = refl

-- no rule can be widened to fewer cells
widen_fault-204 : widen_fault rule204 2 ≡ Some Width
widen_fault-204 = refl
