-- Rules with consecutive Wolfram numbers, and one byte for the verdicts on each rule.
use Rattle.std.specs.Prelude.{◌≡◌, ℕ, ◌+◌, ◌-◌, ◌<◌, List, length, slice_index, Option, pos}
use Rattle.std.specs.Option.{option_map, option_or}
use Rattle.word_image.specs.LocalRules.{LocalRule}
use Rattle.word_image.specs.RuleFaults.{shape_fault}
use Rattle.rule_text.specs.RuleTexts.{by_number, rule_of, as_text_fault, number_fault}
use Rattle.rule_text.specs.declared.text_fault.TextFault.{TextFault}
use Rattle.rule_verdicts.specs.declared.truths.Truths.{Truths}
use Rattle.rule_verdicts.specs.Truths.{AreTruths, byte_of}

-- the rule of k states, width m and offset 0 with the Wolfram number n
abbrev pub numbered_rule : ℕ → ℕ → ℕ → LocalRule
numbered_rule k m n = rule_of (by_number k m (pos 0) n)

-- the first reason why first, .., first + count - 1 aren't all numbers of rules: a fault of the shape, or more than six states, or a last number that is too large (`count` is at least 1)
abbrev pub numbers_fault : ℕ → ℕ → ℕ → ℕ → Option TextFault
numbers_fault k m first count = option_or (option_map (as_text_fault 0) (shape_fault k m (pos 0))) (number_fault k m (first + count - 1))

-- the byte stands for the true verdicts on the rule r
pub record IsVerdictByte (r : LocalRule) (byte : ℕ) : Type 0 where
  pub truths : Truths
  pub are : AreTruths r truths
  pub is : byte ≡ byte_of truths

-- byte i stands for the true verdicts on the rule with the number first + i
abbrev pub AreVerdictBytes : ℕ → ℕ → ℕ → List ℕ → Type 0
AreVerdictBytes k m first bytes = (i : ℕ) → i < length bytes → IsVerdictByte (numbered_rule k m (first + i)) (slice_index bytes i)
