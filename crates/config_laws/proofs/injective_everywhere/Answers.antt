use Rattle.std.proofs.Common.{refl}
use Rattle.tail_laws.proofs.Common.{determined_letter}
use Rattle.config_laws.proofs.Everywhere.{IsInjective-everywhere}
use Rattle.config_laws.proofs.injective_everywhere.Goals as goal

pub returns-clause-exactly : goal.returns-clause-exactly
returns-clause-exactly c r rule = IsInjective-everywhere rule

pub returns-clause-window : goal.returns-clause-window
returns-clause-window call r n c x y i rule window hx hy = determined_letter rule window hx hy i _ refl
