use Rattle.std.proofs.Common.{◌≡◌, ◌-◌, ◌≤◌, vec_capacity}
use Rattle.image_subsets.specs.StepTables.{AreSteps}
use Rattle.image_subsets.proofs.step_tables.fill.Given as goal

-- the first nodes are done
abbrev pub invariant-loop-u : goal.invariant-loop-u
invariant-loop-u l = record {
  steps : AreSteps l.graph l.first (l.u - l.first) l.rows.items;
  none : l.end ≤ l.first → l.u ≡ l.first;
  capacity : vec_capacity l.rows ≡ vec_capacity l.initial.rows;
}
