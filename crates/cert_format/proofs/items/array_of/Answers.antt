use Rattle.std.proofs.Common.{◌≡◌, ◌∙◌, length}
use Rattle.serde_json.specs.View.{view}
use Rattle.word_image.proofs.Common.{handed_on}
use Rattle.cert_values.proofs.laws.Uniqueness.{IsArrayOf-length}
use Rattle.cert_format.proofs.items.array_of.Goals as goal

pub returns-in_err-items-clause-none : goal.returns-in_err-items-clause-none
returns-in_err-items-clause-none g c =
    handed_on _ c.from_residual.result c.from_residual.ensures.1 (λ shape xs long. c.in_err-items.ensures.none shape xs)

pub returns-then-len-count-clause-none : goal.returns-then-len-count-clause-none
returns-then-len-count-clause-none g c shape xs long is =
    let same : length c.in_ok-items.items.items ≡ c.args.count = IsArrayOf-length g.T.Item.is_item (view c.args.value.now) c.in_ok-items.items.items xs c.in_ok-items.ensures.items is ∙ long in
    c.if-len-count.true (cc (same))
