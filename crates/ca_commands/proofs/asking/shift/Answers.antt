use Rattle.std.proofs.Common.{[], refl, w8, FitsSigned, rules}
use Rattle.std.proofs.lemmas.Int.{to_z-of_z}
use Rattle.ca_commands.specs.declared.names.Name.TheVariants as name
use Rattle.ca_commands.specs.Asked.{Asks}
use Rattle.ca_commands.proofs.laws.Asking.{asks, failed, first_refused, read_one}
use Rattle.ca_commands.proofs.asking.shift.Goals as goal

pub returns-in_err-rule : goal.returns-in_err-rule
returns-in_err-rule g c = failed _ _ _ c.from_residual.result (first_refused name.Shift [] _ c.in-Some.ensures refl (_, c.in-Some-decimal_offset.ensures.offset) c.in_err-rule.ensures) c.from_residual.ensures.1

pub returns : goal.returns
returns g c =
    let fits : FitsSigned w8 c.in-Some-decimal_offset.by = search rules in
    (rw (to_z-of_z w8 c.in-Some-decimal_offset.by fits) (asks refl (read_one name.Shift c.in-Some.ensures refl (_, c.in-Some-decimal_offset.ensures.offset) c.in_ok-rule.ensures) (Asks.Shift _ _ _ c.in-Some-decimal_offset.ensures.offset)), tt)
