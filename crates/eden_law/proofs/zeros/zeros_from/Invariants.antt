use Rattle.std.proofs.Common.{◌≡◌, ◌+◌, ◌≤◌, slice_index, ◌==◌}
use Rattle.garden_laws.specs.ZeroPairs.{count_below}
use Rattle.eden_law.proofs.zeros.zeros_from.Given as goal

-- how many of the letters so far are 0
abbrev pub invariant-loop-letter : goal.invariant-loop-letter
invariant-loop-letter l = record {
  count : l.count ≡ count_below (λ a. slice_index l.table (l.first + a) == 0) l.letter;
  few : l.count ≤ l.letter;
}
