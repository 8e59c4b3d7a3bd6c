use Rattle.serde_json.specs.View.{view}
use Rattle.word_image.proofs.Common.{handed_on}
use Rattle.cert_values.specs.CertificateTexts.{IsDigits}
use Rattle.cert_format.proofs.laws.Arrays.{IsArrayOf-pair, IsArrayOf-items}
use Rattle.cert_format.proofs.words.words.Goals as goal

pub returns-in_default-clause-none : goal.returns-in_default-clause-none
returns-in_default-clause-none c same x y both =
    let pair = IsArrayOf-pair IsDigits (view c.args.value.now) x y both.0 in
    c.in_default.ensures.none pair.0 pair.1 pair.2

pub returns-in_err-x-clause-none : goal.returns-in_err-x-clause-none
returns-in_err-x-clause-none c =
    handed_on _ c.from_residual.result c.from_residual.ensures.1 (λ shape x y both. c.in_err-x.ensures.none shape x ((IsArrayOf-items IsDigits (view c.args.value.now) _ _ x y c.in-Some.ensures.some both.0).0, both.1))

pub returns-in_err-y-clause-none : goal.returns-in_err-y-clause-none
returns-in_err-y-clause-none c =
    handed_on _ c.from_residual-in_err-y.result c.from_residual-in_err-y.ensures.1 (λ shape x y both. c.in_err-y.ensures.none shape y ((IsArrayOf-items IsDigits (view c.args.value.now) _ _ x y c.in-Some.ensures.some both.0).1, both.2))
