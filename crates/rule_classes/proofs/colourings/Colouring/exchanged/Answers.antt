use Rattle.std.proofs.Common.{arith, rules}
use Rattle.rule_classes.proofs.colourings.Colouring.exchanged.Goals as goal

pub returns-clause-colouring : goal.returns-clause-colouring
returns-clause-colouring c = record {
  colours_long = grind (arith, rules);
  letters_long = grind (arith, rules);
  colour = grind (arith, rules);
  letter = grind (arith, rules);
  back = grind (arith, rules);
  there = grind (arith, rules);
}
