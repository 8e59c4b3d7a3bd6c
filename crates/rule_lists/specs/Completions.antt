-- A search fixes some letters of a rule's table. The list `letters` has a number for each window, and a number below
-- k, the number of states, fixes the letter of its window. This file defines the rules that have the fixed letters.
use Rattle.std.specs.Prelude.{◌≡◌, ℕ, ◌^◌, List}
use Rattle.word_image.specs.LocalRules.{LocalRule, IsRule}
use Rattle.word_image.specs.Words.{IsSurjective}
use Rattle.rule_lists.specs.Tables.{HasLetters}

-- s is a rule of k states and width m, within the limits of rules, and its table has each fixed letter
pub record IsCompletion (k m : ℕ) (letters : List ℕ) (s : LocalRule) : Type 0 where
  pub rule : IsRule s
  pub states : s.states ≡ k
  pub width : s.width ≡ m
  pub fixed : HasLetters k (k ^ m) letters s.table

-- no rule with the fixed letters is surjective
abbrev pub RulesOutSurjective : ℕ → ℕ → List ℕ → Type 0
RulesOutSurjective k m letters = (s : LocalRule) → IsCompletion k m letters s → ¬ IsSurjective s
