use Rattle.std.proofs.Common.{◌≤◌}
use Rattle.word_image.proofs.Common.{PairGoes}
use Rattle.closing_test.specs.LeastAheads.{IsLeastFor, IsFirstWith}
use Rattle.closing_test.proofs.LookAheads.{Below}
use Rattle.closing_test.proofs.look_ahead.ahead_at.Given as goal

abbrev pub invariant-loop-letter : goal.invariant-loop-letter
invariant-loop-letter l = record {
  least : IsLeastFor (Below (IsFirstWith l.side l.rule l.window) l.letter) (PairGoes l.side l.rule) l.ahead;
  most : l.ahead ≤ 121;
}
