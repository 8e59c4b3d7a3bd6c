use Rattle.std.proofs.Common.{◌-◌}
use Rattle.rule_classes.specs.Best.{IsBest}
use Rattle.rule_classes.proofs.laws.Completions.{IsLeastOver, next_of}
use Rattle.rule_classes.proofs.search.+least_of.Given as goal

-- the free colours
abbrev pub decreases-least_of : goal.decreases-least_of
decreases-least_of l = l.high - l.low

-- the least of those with the letter of a colour so far at the next colour
abbrev pub invariant-loop-colour : goal.invariant-loop-colour
invariant-loop-colour l = record {
  best : IsBest l.rule l.best;
  least : IsLeastOver l.rule l.colouring l.low l.high (next_of l.rule.states l.low l.high) l.colour l.fn.best.colouring l.best.colouring;
}
