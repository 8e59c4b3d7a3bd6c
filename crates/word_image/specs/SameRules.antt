-- The test that two rules have the same states, width, offset and table.
use Rattle.std.specs.Prelude.{Bool, ◌==◌}
use Rattle.std.specs.Ordering.{eq_of_both, int_eq, on}
use lib.Pointwise.{pointwise}
use Rattle.word_image.specs.LocalRules.{LocalRule}

-- whether two rules have the same states, width, offset and table
abbrev pub same_rule : LocalRule → LocalRule → Bool
same_rule = eq_of_both (on (λ r. r.states) ◌==◌) (eq_of_both (on (λ r. r.width) ◌==◌) (eq_of_both (on (λ r. r.offset) int_eq) (on (λ r. r.table) (pointwise ◌==◌))))
