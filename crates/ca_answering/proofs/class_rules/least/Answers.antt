use Rattle.std.proofs.Common.{◌≤◌, refl, arith}
use Rattle.word_image.proofs.Common.{false≢true}
use Rattle.ca_questions.proofs.Common.{IsFinding, IsCauseFor}
use Rattle.ca_answering.proofs.class_rules.least.Goals as goal

pub returns-in-Ok : goal.returns-in-Ok
returns-in-Ok c =
    let place = c.in-Ok.place in
    rw c.rule_finding.ensures.made (IsFinding.Least c.args.rule.now place.mirrored place.least (c.in-Ok.ensures.accepted.0 refl) c.in-Ok.ensures.least c.rule_finding.ensures.accepted)

pub returns-in-Err-Colours : goal.returns-in-Err-Colours
returns-in-Err-Colours c =
    let many : ¬ ((c.args.rule.now).states ≤ 6) = λ few. false≢true (c.in-Err-Colours.ensures.accepted.1 few) in
    IsCauseFor.Least c.args.rule.now (omega (arith, many))
