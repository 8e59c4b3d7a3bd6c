use Rattle.std.proofs.Common.{ap, ◌∙◌, arith, w8, to_z, of_z}
use Rattle.rule_algebra.proofs.laws.Compositions.{compose_fault-same}
use Rattle.word_image.proofs.Common.{FitsSigned-offset}
use Rattle.rule_algebra.proofs.RuleParts.{sum-in_w16}
use Rattle.rule_algebra.proofs.compositions.check_composed.Goals as goal

pub returns-clause-fault : goal.returns-clause-fault
returns-clause-fault c =
    let place = sum-in_w16 c.args.first.now.offset c.args.second.now.offset _ _ (FitsSigned-offset c.k.ensures.rule) (FitsSigned-offset c.k-2.ensures.rule)
    (c.from.ensures ∙ ap (λ o. to_z w8 (of_z w8 o)) c.o.ensures.offset) (c.from-2.ensures ∙ ap (λ o. to_z w8 (of_z w8 o)) c.o-2.ensures.offset) in
    grind (arith, compose_fault-same)
