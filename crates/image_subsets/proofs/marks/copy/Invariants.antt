use Rattle.std.proofs.Common.{◌≡◌, ℕ, ◌<◌, ◌≤◌, length, slice_index, vec_capacity}
use Rattle.image_subsets.specs.declared.rows.TheConstants.{MOST_ROWS}
use Rattle.image_subsets.proofs.marks.copy.Given as goal

-- the first rows are copied
abbrev pub invariant-loop-i : goal.invariant-loop-i
invariant-loop-i l = record {
  room : MOST_ROWS ≤ vec_capacity l.rows;
  long : length l.rows.items ≡ l.i;
  each : (j : ℕ) → j < l.i → slice_index l.rows.items j ≡ slice_index l.others j;
}
