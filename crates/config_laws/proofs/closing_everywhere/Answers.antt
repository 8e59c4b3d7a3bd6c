use Rattle.std.proofs.Common.{refl}
use Rattle.tail_laws.proofs.Common.{ahead_letter}
use Rattle.config_laws.proofs.Everywhere.{IsRightClosing-everywhere, IsLeftClosing-everywhere}
use Rattle.config_laws.proofs.LeftAhead.{letter_before}
use Rattle.config_laws.proofs.closing_everywhere.Goals as goal

pub returns-clause-right : goal.returns-clause-right
returns-clause-right c r rule = IsRightClosing-everywhere rule

pub returns-clause-left : goal.returns-clause-left
returns-clause-left c r rule = IsLeftClosing-everywhere rule

pub returns-clause-ahead : goal.returns-clause-ahead
returns-clause-ahead c r n x y i rule ahead hx hy = ahead_letter rule ahead hx hy i _ refl

pub returns-clause-left_ahead : goal.returns-clause-left_ahead
returns-clause-left_ahead c r n x y i rule ahead hx hy = letter_before rule ahead hx hy i
