use Rattle.std.proofs.Common.{◌≡◌, ℕ, List, length}
use Rattle.image_subsets.specs.Marks.{AreListed, AreMarksTo}
use Rattle.image_subsets.proofs.marks.mark_above.Given as goal

-- the first nodes are done
abbrev pub invariant-loop-u : goal.invariant-loop-u
invariant-loop-u l = record {
  long : length l.rows ≡ length l.initial.rows;
  marks : (sets : List ℕ) → AreListed sets l.n l.initial.rows → AreMarksTo sets l.n l.u l.rows;
}
