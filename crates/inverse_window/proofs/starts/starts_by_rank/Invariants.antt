use Rattle.word_image.proofs.Common.{pair_of}
use Rattle.inverse_window.specs.FirstWindows.{AreStarts}
use Rattle.inverse_window.proofs.starts.starts_by_rank.Given as goal

abbrev pub invariant-loop-u : goal.invariant-loop-u
invariant-loop-u l = AreStarts l.rule l.past (pair_of l.rule l.u 0) l.starts
