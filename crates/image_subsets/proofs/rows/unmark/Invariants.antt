use Rattle.std.proofs.Common.{◌≡◌, ◌≢◌, ℕ, ◌/◌, ◌<◌, length, slice_index}
use Rattle.image_subsets.specs.Marks.{IsSetMarked}
use Rattle.image_subsets.proofs.rows.unmark.Given as goal

-- what is marked was, and is in no row of the sets so far
abbrev pub invariant-loop-set : goal.invariant-loop-set
invariant-loop-set l = record {
  long : length l.rows ≡ length l.initial.rows;
  left : (x : ℕ) → IsSetMarked l.rows x → IsSetMarked l.initial.rows x × ((j : ℕ) → j < l.set-index → slice_index l.sets j / 64 ≢ x / 64);
}
