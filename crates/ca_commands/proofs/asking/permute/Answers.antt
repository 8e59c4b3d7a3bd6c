use Rattle.std.proofs.Common.{[], refl}
use Rattle.ca_commands.specs.declared.names.Name.TheVariants as name
use Rattle.ca_commands.specs.Asked.{Asks}
use Rattle.ca_commands.proofs.laws.Asking.{asks, failed, first_refused, read_one}
use Rattle.ca_commands.proofs.asking.permute.Goals as goal

pub returns-in_err-rule : goal.returns-in_err-rule
returns-in_err-rule g c = failed _ _ _ c.from_residual.result (first_refused name.Permute [] _ c.in-Some.ensures refl c.in-Some-colours.ensures.0 c.in_err-rule.ensures) c.from_residual.ensures.1

pub returns : goal.returns
returns g c =
    (rw c.in-Some-colours.ensures.1 (asks refl (read_one name.Permute c.in-Some.ensures refl c.in-Some-colours.ensures.0 c.in_ok-rule.ensures) (Asks.Permute _ c.in-Some.letters.now)), tt)
