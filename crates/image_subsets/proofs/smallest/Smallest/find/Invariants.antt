use Rattle.std.proofs.Common.{◌≤◌, ◌-◌, ◌*◌, vec_capacity}
use Rattle.image_subsets.specs.declared.masks.TheConstants.{MOST_SETS}
use Rattle.image_subsets.specs.SmallestSets.{IsDescent}
use Rattle.image_subsets.specs.StepTables.{AreTables}
use Rattle.image_subsets.proofs.smallest.Smallest.find.Given as goal

-- the steps from the first places are followed
abbrev pub invariant-loop-place : goal.invariant-loop-place
invariant-loop-place l = record {
  tables : AreTables l.graph l.self-inside.tables;
  search : IsDescent l.graph l.self-inside.sets l.self-inside.parents.items l.enough (l.place * l.graph.states) l.smallest;
  capacity : MOST_SETS ≤ vec_capacity l.self-inside.parents;
}

-- how many sets may still come
abbrev pub decreases-loop-place : goal.decreases-loop-place
decreases-loop-place l = MOST_SETS - l.place
