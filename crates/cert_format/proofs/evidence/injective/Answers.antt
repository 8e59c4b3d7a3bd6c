use Rattle.serde_json.specs.View.{view}
use Rattle.word_image.proofs.Common.{handed_on}
use Rattle.cert_format.proofs.laws.Evidence.{no_twins_value}
use Rattle.cert_format.proofs.evidence.injective.Goals as goal

pub returns-in_err-x-clause-none : goal.returns-in_err-x-clause-none
returns-in_err-x-clause-none c =
    handed_on _ c.from_residual.result c.from_residual.ensures.1 (λ shape. no_twins_value c.args.rule.now (view c.args.value.now) c.in-Some-only.ensures.some (λ x y h. c.in_err-x.ensures.none shape x y (rw c.k.ensures.states h)))
