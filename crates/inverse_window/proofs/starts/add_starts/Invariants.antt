use Rattle.word_image.proofs.Common.{pair_of}
use Rattle.inverse_window.specs.FirstWindows.{AreStarts}
use Rattle.inverse_window.proofs.starts.add_starts.Given as goal

abbrev pub invariant-loop-v : goal.invariant-loop-v
invariant-loop-v l = AreStarts l.rule l.past (pair_of l.rule l.u l.v) l.starts
