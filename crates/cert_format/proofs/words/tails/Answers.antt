use Rattle.serde_json.specs.View.{view}
use Rattle.cert_values.specs.CertificateTexts.{IsTailString}
use Rattle.cert_format.proofs.laws.Arrays.{IsArrayOf-pair}
use Rattle.cert_format.proofs.words.tails.Goals as goal

pub returns-in_default-clause-none : goal.returns-in_default-clause-none
returns-in_default-clause-none c same x y both =
    let pair = IsArrayOf-pair IsTailString (view c.args.value.now) x y both.0 in
    c.in_default.ensures.none pair.0 pair.1 pair.2
