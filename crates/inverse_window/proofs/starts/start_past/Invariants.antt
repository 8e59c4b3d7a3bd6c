use Rattle.std.proofs.Common.{◌≤◌, IfSome}
use Rattle.word_image.proofs.Common.{pair_of}
use Rattle.inverse_window.specs.Starts.{HoldsFrom}
use Rattle.inverse_window.specs.FirstWindows.{PairDiffersAt, PairEnds, NoneHolds}
use Rattle.inverse_window.proofs.starts.start_past.Given as goal

abbrev pub invariant-loop-u : goal.invariant-loop-u
invariant-loop-u l = HoldsFrom l.start (NoneHolds (pair_of l.rule l.u 0) (PairDiffersAt l.rule l.place) (PairEnds l.rule)) × IfSome l.start (λ n. n ≤ 120)
