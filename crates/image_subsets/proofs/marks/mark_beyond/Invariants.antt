use Rattle.std.proofs.Common.{◌≡◌, ◌*◌, ◌<◌, ◌↔◌, ◌⊎◌, ℕ, length}
use Rattle.image_subsets.specs.Marks.{IsSetMarked, HoldsSmaller}
use Rattle.image_subsets.proofs.marks.mark_beyond.Given as goal

-- the first nodes are done
abbrev pub invariant-loop-u : goal.invariant-loop-u
invariant-loop-u l = record {
  long : length l.rows ≡ length l.initial.rows;
  marks : (x : ℕ) → x < 64 * length l.others → (IsSetMarked l.rows x ↔ (IsSetMarked l.initial.rows x ⊎ HoldsSmaller l.others l.u x));
}
