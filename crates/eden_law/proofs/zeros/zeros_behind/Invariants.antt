use Rattle.std.proofs.Common.{◌≡◌, ◌+◌, ◌*◌, ◌≤◌}
use Rattle.garden_laws.specs.ZeroPairs.{count_below, gives_zeros}
use Rattle.eden_law.proofs.zeros.zeros_behind.Given as goal

-- how many of the words that begin with the letter and the nodes so far
abbrev pub invariant-loop-node : goal.invariant-loop-node
invariant-loop-node l = record {
  total : l.total ≡ count_below (λ v. gives_zeros l.k l.table (l.letter * l.nodes * l.k + v)) (l.node * l.k);
  few : l.total ≤ l.node * 16;
}
