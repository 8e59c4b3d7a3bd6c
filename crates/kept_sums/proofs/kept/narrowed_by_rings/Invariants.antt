use Rattle.std.proofs.Common.{ℕ, ◌<◌, List}
use Rattle.word_image.proofs.Common.{word_of, IsRing}
use Rattle.kept_sums.specs.Stages.{IsStage, RowsKeep}
use Rattle.kept_sums.proofs.kept.narrowed_by_rings.Given as goal

-- the rows keep the sums of the rings so far, and of those that the first rows kept
abbrev pub invariant-loop-number : goal.invariant-loop-number
invariant-loop-number l = record {
  stage : IsStage l.rule l.range l.sums.rows l.sums.counts l.sums.rings;
  keep : (v : ℕ) → v < l.number → RowsKeep l.rule l.range l.sums.rows (word_of l.rule.states l.count v);
  others : (q : List ℕ) → IsRing l.rule.states q → RowsKeep l.rule l.range l.fn.sums.rows q → RowsKeep l.rule l.range l.sums.rows q;
}
