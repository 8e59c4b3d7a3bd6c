use Rattle.std.proofs.Common.{◌≡◌, ◌++◌, map, take, vec_capacity, bit_or}
use Rattle.std.specs.Simd.Lanes.{zip2}
use Rattle.image_subsets.proofs.step_tables.double.Given as goal

-- the first rows have their unions
abbrev pub invariant-loop-x : goal.invariant-loop-x
invariant-loop-x l = record {
  rows : l.rows.items ≡ l.initial.rows.items ++ map (λ row. zip2 bit_or row l.ends) (take l.x l.initial.rows.items);
  capacity : vec_capacity l.rows ≡ vec_capacity l.initial.rows;
}
