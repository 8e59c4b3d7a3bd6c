use Rattle.std.proofs.Common.{◌≡◌, ◌*◌, ◌≤◌}
use Rattle.garden_laws.specs.ZeroPairs.{count_below, gives_zeros}
use Rattle.eden_law.proofs.zeros.is_even_at_zeros.Given as goal

-- how many of the words that begin with the letters so far
abbrev pub invariant-loop-letter : goal.invariant-loop-letter
invariant-loop-letter l = record {
  total : l.total ≡ count_below (gives_zeros l.k l.table) (l.letter * l.nodes * l.k);
  few : l.total ≤ l.letter * 256;
}
