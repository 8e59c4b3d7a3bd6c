use Rattle.std.proofs.Common.{Contains}
use Rattle.word_image.specs.declared.side.Side.TheVariants.{Right, Left}
use Rattle.rule_lists.proofs.FixedSteps.{PairGoes-fixed, IsInjective-none}
use Rattle.rule_lists.proofs.theorems.fixed_endless_nodes_forbid_injective.Goals as goal

pub returns : goal.returns
returns c r s letters on back p rule goes comes has_on has_back different h =
    IsInjective-none r s letters p h different (λ n. PairGoes-fixed Left r s letters (Contains back) rule comes h n p has_back) (λ n. PairGoes-fixed Right r s letters (Contains on) rule goes h n p has_on)
