-- The least rule that a search has found so far, with its table. The search renames the letters of a rule r: a
-- colouring gives each letter a new letter, its colour, and it mirrors the rule or doesn't.
use Rattle.std.specs.Prelude.{◌≡◌}
use Rattle.word_image.specs.LocalRules.{LocalRule}
use Rattle.word_image.specs.Storage.{padded}
use Rattle.rule_classes.specs.Colourings.{IsColouring, in_colours}
use Rattle.rule_classes.specs.declared.best.Best.{Best}

-- `colouring` makes the best rule so far, and `entries` is the table of this rule, followed by zeros
pub record IsBest (r : LocalRule) (b : Best) : Type 0 where
  pub colouring : IsColouring r.states b.colouring
  pub entries : b.entries ≡ padded (in_colours r b.colouring).table
