use Rattle.tail_laws.proofs.Verdicts.{IsLeftSplit-least}
use Rattle.tail_laws.proofs.left_split_is_split.Goals as goal

pub returns : goal.returns
returns c r x y rule least = IsLeftSplit-least rule least
