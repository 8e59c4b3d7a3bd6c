use Rattle.std.proofs.Common.{sym, ◌∙◌}
use Rattle.serde_json.specs.View.{view}
use Rattle.word_image.proofs.Common.{handed_on}
use Rattle.cert_format.proofs.laws.Evidence.{IsFluxFor-array, no_flux}
use Rattle.cert_format.proofs.evidence.flux.Goals as goal

pub returns-in_err-flows-clause-none : goal.returns-in_err-flows-clause-none
returns-in_err-flows-clause-none c =
    handed_on _ c.from_residual.result c.from_residual.ensures.1 (λ shape. no_flux c.args.rule.now (view c.args.value.now) (λ xs long. c.in_err-flows.ensures.none shape xs (long ∙ sym (c.from.ensures ∙ c.nodes.ensures.nodes))))

pub returns-clause-flux : goal.returns-clause-flux
returns-clause-flux c =
    rw c.of.ensures (IsFluxFor-array c.args.rule.now (view c.args.value.now) c.in_ok-flows.flows.items c.in_ok-flows.ensures.items (c.in_ok-flows.ensures.count ∙ c.from.ensures ∙ c.nodes.ensures.nodes))
