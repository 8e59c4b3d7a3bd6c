-- What four operands say of many rules.
use Rattle.std.proofs.Common.{◌≡◌, ◌<◌, ◌≤◌, ◌^◌, ℕ, List, [], ◌∷◌, refl, sym, subst, arith, Option, None, Some, MatchOption, SomeIff}
use Rattle.word_image.proofs.Common.{LocalRule}
use Rattle.rule_text.specs.RuleTexts.{decimal_value}
use Rattle.rule_verdicts.specs.Numbers.{numbers_fault}
use Rattle.ca_commands.specs.declared.names.Name.{Name}
use Rattle.ca_commands.specs.declared.names.Name.TheVariants as name
use Rattle.ca_commands.specs.Commands.{word_of}
use Rattle.ca_questions.proofs.Common.{Question}
use Rattle.ca_questions.specs.Samples.{survey_rules, sample_rules}
use Rattle.ca_commands.specs.Asked.{Asks}
use Rattle.ca_commands.specs.Asking.{AreDrawnBy, AreNumberedBy, Ask}
use Rattle.ca_commands.proofs.laws.Asking.{asks}
use Rattle.ca_questions.specs.declared.question.Numbered.{Numbered}
use Rattle.ca_questions.specs.declared.question.Drawn.{Drawn}

-- where many rules begin, as a number below 2 ^ 128 or none
pub begins : (o : Option ℕ) (n : ℕ) → SomeIff o (n < 2 ^ 128) n → MatchOption o (2 ^ 128 ≤ n) (λ first. first ≡ n)
begins None n below = omega (arith, below)
begins (Some first) n is = is.1

-- what words ask of rules of numbers, and of a seed
pub asks_numbers : (n : Name) {operands : List (List ℕ)} {rules : Numbered} (of : List LocalRule → Question)
    → ((k m from count : List ℕ) → numbers_fault (decimal_value k) (decimal_value m) (decimal_value from) (decimal_value count) ≡ None
    → Asks n [] (k ∷ m ∷ from ∷ count ∷ []) (of (survey_rules (decimal_value k) (decimal_value m) (decimal_value from) (decimal_value count))))
    → AreNumberedBy n operands rules → Ask (word_of n ∷ operands) (of (survey_rules rules.states rules.width rules.first rules.count))
asks_numbers n {operands} of asked read =
    let none = subst (λ (r : Numbered). numbers_fault r.states r.width r.first r.count ≡ None) read.rules_are read.are.accepted in
    subst (λ (r : Numbered). Ask (word_of n ∷ operands) (of (survey_rules r.states r.width r.first r.count))) (sym read.rules_are) (asks refl read.is (asked read.k read.m read.first read.count none))

pub asks_seed : {operands : List (List ℕ)} {rules : Drawn} → AreDrawnBy operands rules
    → Ask (word_of name.Sample ∷ operands) (Question.Summary (sample_rules rules.states rules.width rules.seed rules.count))
asks_seed {operands} read =
    subst (λ (r : Drawn). Ask (word_of name.Sample ∷ operands) (Question.Summary (sample_rules r.states r.width r.seed r.count))) (sym read.rules_are)
    (asks refl read.is (Asks.Sample read.k read.m read.seed read.count read.accepted))
