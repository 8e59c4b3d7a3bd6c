use Rattle.std.proofs.Common.{[], refl, sym, ap, Some, arith}
use Rattle.word_image.proofs.Common.{length-map}
use Rattle.ca_commands.proofs.laws.Behind.{AreWeightWords-behind, AreWeightWords-few}
use Rattle.ca_commands.proofs.laws.Asking.{failed, first_refused, read_one}
use Rattle.ca_commands.proofs.asking.rule_and_weights.Goals as goal

pub returns-in_err-rule_operand : goal.returns-in_err-rule_operand
returns-in_err-rule_operand g c =
    failed _ _ _ c.from_residual.result (first_refused c.args.name [] _ c.in-Some.ensures (sym c.requires.one) (rw c.requires.weights tt) c.in_err-rule_operand.ensures) c.from_residual.ensures.1

pub returns-in-Some : goal.returns-in-Some
returns-in-Some g c = ([], read_one c.args.name c.in-Some.ensures c.requires.one (rw c.requires.weights tt) c.in_ok-rule_operand.ensures, refl)

pub returns-in_err-rule : goal.returns-in_err-rule
returns-in_err-rule g c =
    failed _ _ _ c.from_residual-in_err-rule.result
    (first_refused c.args.name [] _ c.in-Some-two.ensures (sym c.requires.one) (rw c.requires.weights c.in-Some-weights.ensures.0) c.in_err-rule.ensures)
    c.from_residual-in_err-rule.ensures.1

pub returns : goal.returns
returns g c =
    (_, read_one c.args.name c.in-Some-two.ensures c.requires.one (rw c.requires.weights c.in-Some-weights.ensures.0) c.in_ok-rule.ensures, ap Some c.in-Some-weights.ensures.1)

pub returns-in_default-two : goal.returns-in_default-two
returns-in_default-two g c d is =
    let few = AreWeightWords-few _ (AreWeightWords-behind c.args.name c.requires.one c.requires.weights is) in
    omega (arith, few, length-map c.args.rest.now g.W.AsStr.text, c.in_default.ensures, c.in_default-two.ensures)

pub returns-in_default-weights : goal.returns-in_default-weights
returns-in_default-weights g c d is = c.in_default-weights.ensures (rw c.in-Some-two.ensures at (AreWeightWords-behind c.args.name c.requires.one c.requires.weights is))
