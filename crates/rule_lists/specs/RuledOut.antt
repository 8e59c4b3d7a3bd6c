-- A search fixes some letters of a rule's table: the list `letters` has a number for each window, and a number below k
-- fixes the letter of its window. This file says when the fixed letters exclude a property: no rule with these letters
-- has the property, whatever its other letters are.
use Rattle.std.specs.Prelude.{ℕ, List}
use Rattle.word_image.specs.LocalRules.{LocalRule}
use Rattle.word_image.specs.declared.side.Side.{Side}
use Rattle.tail_laws.specs.Closing.{IsClosing}
use Rattle.rule_lists.specs.Properties.{Has}
use Rattle.rule_lists.specs.Completions.{IsCompletion}
use Rattle.rule_lists.specs.declared.properties.Property.{Property}

-- no rule of k states and width m that has the fixed letters has the property
abbrev pub RulesOut : Property → ℕ → ℕ → List ℕ → Type 0
RulesOut property k m letters = (s : LocalRule) → IsCompletion k m letters s → ¬ Has property s

-- no rule of k states and width m that has the fixed letters is closing on this side
abbrev pub RulesOutClosing : Side → ℕ → ℕ → List ℕ → Type 0
RulesOutClosing side k m letters = (s : LocalRule) → IsCompletion k m letters s → ¬ IsClosing side s
