use Rattle.std.proofs.Common.{◌≤◌, IfSome}
use Rattle.word_image.proofs.Common.{pair_of}
use Rattle.inverse_window.specs.Starts.{HoldsFrom}
use Rattle.inverse_window.specs.FirstWindows.{PairDiffersAt, PairEnds, NoneHolds}
use Rattle.inverse_window.proofs.starts.start_of.Given as goal

abbrev pub invariant-loop-v : goal.invariant-loop-v
invariant-loop-v l = HoldsFrom l.start (NoneHolds (pair_of l.rule l.u l.v) (PairDiffersAt l.rule l.place) (PairEnds l.rule)) × IfSome l.start (λ n. n ≤ 120)
