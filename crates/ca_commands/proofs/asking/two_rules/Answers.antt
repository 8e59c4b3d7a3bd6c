use Rattle.std.proofs.Common.{[], ◌∷◌, sym}
use Rattle.ca_commands.proofs.laws.Asking.{command, failed, first_refused, second_refused, two_texts}
use Rattle.ca_commands.proofs.asking.two_rules.Goals as goal

pub returns-in_err-first : goal.returns-in_err-first
returns-in_err-first g c =
    failed _ _ _ c.from_residual.result (first_refused c.args.name (c.in-Some.second.now ∷ []) _ c.in-Some.ensures (sym c.requires.two) (rw c.requires.none tt) c.in_err-first.ensures) c.from_residual.ensures.1

pub returns-in_err-second : goal.returns-in_err-second
returns-in_err-second g c =
    failed _ _ _ c.from_residual-in_err-second.result
    (second_refused c.args.name c.in-Some.ensures (sym c.requires.two) (rw c.requires.none tt) c.in_ok-first.ensures c.in_err-second.ensures) c.from_residual-in_err-second.ensures.1

pub returns : goal.returns
returns g c = record {
  texts = c.in-Some.first.now ∷ c.in-Some.second.now ∷ [];
  is = command c.args.name _ [] c.in-Some.ensures (sym c.requires.two) (rw c.requires.none tt);
  says = two_texts c.in_ok-first.ensures c.in_ok-second.ensures;
}
