use Rattle.std.proofs.Common.{ap, ◌∙◌}
use Rattle.word_image.proofs.Common.{IfOk-weaker}
use Rattle.rule_text.proofs.laws.NumbersFound.{number_found-is}
use Rattle.ca_json.specs.Values.{number_or_null}
use Rattle.ca_json.proofs.evidence.number_value.Goals as goal

pub returns : goal.returns
returns c =
    let number = number_found-is c.args.rule.now c.number.result c.number.ensures in
    IfOk-weaker c.number_or_null.result _ _ (λ v written. written ∙ ap number_or_null number) c.number_or_null.ensures
