use Rattle.std.proofs.Common.{◌≡◌, ◌≤◌, length, replicate, vec_capacity}
use Rattle.image_subsets.specs.declared.rows.TheConstants.{MOST_ROWS}
use Rattle.image_subsets.proofs.marks.blank.Given as goal

-- the rows made so far are as many as the rounds, and all 0
abbrev pub invariant-loop-row : goal.invariant-loop-row
invariant-loop-row l = record {
  room : MOST_ROWS ≤ vec_capacity l.rows;
  long : length l.rows.items ≡ l._row;
  rows : l.rows.items ≡ replicate l._row 0;
}
