-- How the program prints why a rule can't be made from other rules: one word for each fault.
use Rattle.std.specs.Prelude.{ℕ, List, codes}
use Rattle.rule_algebra.specs.declared.fault.AlgebraFault.{AlgebraFault}
use Rattle.rule_algebra.specs.declared.fault.AlgebraFault.TheVariants as algebra

-- the word for a fault
abbrev pub algebra_text : AlgebraFault → List ℕ
algebra_text algebra.States = codes "states"
algebra_text algebra.NotPermutation = codes "permutation"
algebra_text algebra.Width = codes "width"
algebra_text algebra.Nodes = codes "nodes"
algebra_text algebra.Offset = codes "offset"
