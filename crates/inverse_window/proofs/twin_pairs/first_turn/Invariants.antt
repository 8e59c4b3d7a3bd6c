use Rattle.tail_laws.proofs.Common.{IsFirstFound, IsTurn}
use Rattle.inverse_window.proofs.twin_pairs.first_turn.Given as goal

abbrev pub invariant-loop-p : goal.invariant-loop-p
invariant-loop-p l = IsFirstFound (IsTurn l.pairs) l.p l.first
