use Rattle.std.proofs.Common.{◌≡◌, ◌+◌, ◌++◌, map, take, vec_capacity}
use Rattle.inverse_table.proofs.image_values.push_all.Given as goal

abbrev pub invariant-loop-label : goal.invariant-loop-label
invariant-loop-label l = record {
  items : l.values.items ≡ l.initial.values.items ++ map (λ label. l.first + label) (take l.label-index l.labels);
  room : vec_capacity l.values ≡ vec_capacity l.initial.values;
}
