use Rattle.std.proofs.Common.{◌≡◌, ◌*◌, length}
use Rattle.image_subsets.specs.Marks.{IsSpreadTo}
use Rattle.image_subsets.proofs.rows.spread.Given as goal

-- the first rows are done
abbrev pub invariant-loop-i : goal.invariant-loop-i
invariant-loop-i l = record {
  long : length l.rows ≡ length l.initial.rows;
  spread : IsSpreadTo l.u (64 * l.i) l.initial.rows l.initial.rows l.rows;
}
