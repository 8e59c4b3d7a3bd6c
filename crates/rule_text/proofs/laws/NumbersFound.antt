-- The number that is found of a rule.
use Rattle.std.proofs.Common.{◌≡◌, ℕ, ◌<◌, arith, Option, SomeIff}
use Rattle.word_image.proofs.Common.{nat_tests, LocalRule, wolfram_number}
use Rattle.rule_text.specs.PrintedRules.{number_found}

-- a number that is there exactly for a rule of at most six states, and is its Wolfram number
pub number_found-is : (r : LocalRule) (number : Option ℕ) → SomeIff number (r.states < 7) (wolfram_number r) → number ≡ number_found r
number_found-is r number says = grind (arith, nat_tests, says)
