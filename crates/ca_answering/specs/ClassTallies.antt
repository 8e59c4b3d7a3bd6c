-- Used only in this crate: the state of a count of rules and of their classes. It has the counts so far, and for each
-- class an entry with the number and the verdicts of the least rule of the class.
use Rattle.std.specs.Prelude.{◌≡◌, ℕ, List, ◌++◌, [], ◌∷◌, map, All, Contains}
use Rattle.word_image.specs.LocalRules.{LocalRule, IsRule, wolfram_number}
use Rattle.rule_verdicts.specs.declared.truths.Truths.{Truths}
use Rattle.rule_verdicts.specs.Truths.{AreTruths}
use Rattle.rule_verdicts.specs.Numbers.{numbered_rule}
use Rattle.ca_questions.specs.Counts.{AreCounts, AreLeastRules}
use Rattle.ca_questions.specs.Values.{counts_of}
use Rattle.ca_answering.specs.declared.class_tally.ClassTally.{ClassTally}

-- the rule of k states, width m and offset 0 whose number is in the entry
abbrev pub rule_in : ℕ → ℕ → ℕ × Truths → LocalRule
rule_in k m entry = numbered_rule k m entry.0

-- the rules whose numbers are in the entries
abbrev pub rules_in : ℕ → ℕ → List (ℕ × Truths) → List LocalRule
rules_in k m entries = map (rule_in k m) entries

-- the entry is right: its number is the Wolfram number of a rule, and its verdicts are true of this rule
pub record IsDecided (k m : ℕ) (entry : ℕ × Truths) : Type 0 where
  pub accepted : IsRule (rule_in k m entry)
  pub number : wolfram_number (rule_in k m entry) ≡ entry.0
  pub truths : AreTruths (rule_in k m entry) entry.1

-- the new list is the old list with the rule g added at its end, unless the old list has g
pub data IsRuleAdded (g : LocalRule) : List LocalRule → List LocalRule → Type 0 where
  Old : (rules : List LocalRule) → Contains rules g → IsRuleAdded g rules rules
  New : (rules : List LocalRule) → ¬ Contains rules g → IsRuleAdded g rules (rules ++ g ∷ [])

-- the tally t is right: its counts are true of these rules, and it has an entry with true verdicts for the least rule of each of their classes
pub record IsClassTally (k m : ℕ) (rules : List LocalRule) (t : ClassTally) : Type 0 where
  pub counts : AreCounts rules (counts_of t.counts)
  pub decided : All (IsDecided k m) (t.leasts).entries
  pub leasts : AreLeastRules rules (rules_in k m (t.leasts).entries)
