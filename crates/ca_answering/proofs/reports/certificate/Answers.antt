use Rattle.std.proofs.Common.{option_copied}
use Rattle.certificate_laws.proofs.Accepted.{IsWritten-parts}
use Rattle.ca_questions.proofs.Common.{IsFinding}
use Rattle.ca_answering.proofs.laws.OwnWeights.{cause-certificate}
use Rattle.ca_answering.proofs.reports.certificate.Goals as goal

pub returns-in_ok-cert-in-Some : goal.returns-in_ok-cert-in-Some
returns-in_ok-cert-in-Some c =
    let r = c.args.rule.now in
    let made = rw c.in-Some.ensures.weights at c.in_ok-cert-in-Some.ensures in
    IsFinding.Written c.args.version r (option_copied c.args.weights) c.in_ok-cert-in-Some.cert c.in-Some.ensures.each
    (IsWritten-parts c.requires made.accepted made.weights made.parts)

pub returns-in-None : goal.returns-in-None
returns-in-None c = cause-certificate (option_copied c.args.weights) c.in-None.ensures.none
