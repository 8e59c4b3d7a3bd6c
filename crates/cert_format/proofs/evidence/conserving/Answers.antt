use Rattle.serde_json.specs.View.{view}
use Rattle.word_image.proofs.Common.{handed_on}
use Rattle.cert_format.proofs.laws.Evidence.{no_ring}
use Rattle.cert_format.proofs.evidence.conserving.Goals as goal

pub returns-in_err-word-clause-none : goal.returns-in_err-word-clause-none
returns-in_err-word-clause-none c =
    handed_on _ c.from_residual-in_err-word.result c.from_residual-in_err-word.ensures.1 (λ shape. no_ring c.args.rule.now (view c.args.value.now) c.in-Some-only.ensures.some (λ w h. c.in_err-word.ensures.none shape w (rw c.k.ensures.states h)))
