use Rattle.std.proofs.Common.{sym, ◌∙◌}
use Rattle.serde_json.specs.View.{view}
use Rattle.word_image.proofs.Common.{handed_on}
use Rattle.cert_format.proofs.laws.Evidence.{IsRowFor-array, no_row}
use Rattle.cert_format.proofs.evidence.row.Goals as goal

pub returns-in_err-claims-clause-none : goal.returns-in_err-claims-clause-none
returns-in_err-claims-clause-none c =
    handed_on _ c.from_residual.result c.from_residual.ensures.1 (λ shape. no_row c.args.rule.now (view c.args.value.now) (λ xs long. c.in_err-claims.ensures.none shape xs (long ∙ sym (c.from.ensures ∙ c.pairs.ensures.count))))

pub returns-clause-row : goal.returns-clause-row
returns-clause-row c =
    rw c.of.ensures (IsRowFor-array c.args.rule.now (view c.args.value.now) c.in_ok-claims.claims.items c.in_ok-claims.ensures.items (c.in_ok-claims.ensures.count ∙ c.from.ensures ∙ c.pairs.ensures.count))
