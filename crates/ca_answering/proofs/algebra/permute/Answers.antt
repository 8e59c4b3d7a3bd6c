use Rattle.std.proofs.Common.{refl}
use Rattle.word_image.proofs.Common.{false≢true}
use Rattle.ca_questions.proofs.Common.{IsFinding, IsCauseFor}
use Rattle.ca_answering.proofs.algebra.permute.Goals as goal

pub returns-in-Ok : goal.returns-in-Ok
returns-in-Ok c =
    let ok = c.in-Ok.ensures in
    rw c.rule_finding.ensures.made (IsFinding.Permute c.args.rule.now c.args.letters.now c.in-Ok.permuted (ok.accepted.0 refl) ok.recoloured ok.offset c.rule_finding.ensures.accepted)

pub returns-in-Err : goal.returns-in-Err
returns-in-Err c = rw c.in-Err.ensures.refused (IsCauseFor.Permute c.args.rule.now c.args.letters.now (λ fits. false≢true (c.in-Err.ensures.accepted.1 fits)))
