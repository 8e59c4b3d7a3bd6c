use Rattle.rule_lists.proofs.RuledOut.{RulesOutSurjective-fixed}
use Rattle.rule_lists.proofs.theorems.fixed_erasable_pair_forbids_surjective.Goals as goal

pub returns : goal.returns
returns c r s letters p rule is equal h = RulesOutSurjective-fixed r letters p rule is equal s h
