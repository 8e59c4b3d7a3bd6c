use Rattle.answer_laws.proofs.Inverses.{IsUndoneBy-found}
use Rattle.answer_laws.proofs.found_inverse_undoes.Goals as goal

pub returns : goal.returns
returns c r s n m g rule found = IsUndoneBy-found rule found
