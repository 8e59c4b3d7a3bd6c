use Rattle.std.proofs.Common.{◌≤◌}
use Rattle.word_image.proofs.Common.{PairGoes}
use Rattle.closing_test.specs.LeastAheads.{IsLeastFor, IsFirstAt}
use Rattle.closing_test.proofs.LookAheads.{Below}
use Rattle.closing_test.proofs.look_ahead.least_ahead.Given as goal

abbrev pub invariant-loop-window : goal.invariant-loop-window
invariant-loop-window l = record {
  least : IsLeastFor (Below (IsFirstAt l.side l.rule) l.window) (PairGoes l.side l.rule) l.ahead;
  most : l.ahead ≤ 121;
}
