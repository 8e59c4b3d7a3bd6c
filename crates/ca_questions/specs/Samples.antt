-- The rules that `survey` and `sample` count. The rules of `survey` have consecutive numbers. A linear congruential
-- generator draws the rules of `sample` (Knuth 1969).
use Rattle.std.specs.Prelude.{ℕ, zero, suc, ◌+◌, ◌*◌, ◌/◌, ◌%◌, ◌^◌, List, [], ◌∷◌, map, pos, Option}
use Rattle.std.specs.List.{range_with_len}
use Rattle.std.specs.Option.{option_map}
use Rattle.word_image.specs.LocalRules.{LocalRule}
use Rattle.word_image.specs.RuleFaults.{shape_fault}
use Rattle.rule_text.specs.RuleTexts.{as_text_fault}
use Rattle.rule_text.specs.declared.text_fault.TextFault.{TextFault}
use Rattle.rule_verdicts.specs.Numbers.{numbered_rule}

-- the rules with `count` consecutive numbers, starting at `from`
abbrev pub survey_rules : ℕ → ℕ → ℕ → ℕ → List LocalRule
survey_rules k m from count = map (numbered_rule k m) (range_with_len from count)

-- the state of the generator after the state s
unfoldable pub next_state : ℕ → ℕ
next_state s = (s * 6364136223846793005 + 1442695040888963407) % 2 ^ 64

-- the state of the generator after n draws
unfoldable pub state_after : ℕ → ℕ → ℕ
state_after s zero = s
state_after s (suc n) = next_state (state_after s n)

-- draw i, counted from 0, of a generator that begins at the state s: a letter below k
unfoldable pub drawn : ℕ → ℕ → ℕ → ℕ
drawn k s i = (state_after s (i + 1) / 2 ^ 33) % k

-- the rule of k states, width m and offset 0 whose table has the letters of the next k ^ m draws from the state s
abbrev pub drawn_rule : ℕ → ℕ → ℕ → LocalRule
drawn_rule k m s = record { states = k; width = m; offset = pos 0; table = map (drawn k s) (range_with_len 0 (k ^ m)) }

-- the first `count` rules that are drawn from the state s on: each rule begins at the state that the rule before it left
unfoldable pub sample_rules : ℕ → ℕ → ℕ → ℕ → List LocalRule
sample_rules k m s zero = []
sample_rules k m s (suc count) = drawn_rule k m s ∷ sample_rules k m (state_after s (k ^ m)) count

-- the first fault of the shape of a sample, if there is one
abbrev pub sample_fault : ℕ → ℕ → Option TextFault
sample_fault k m = option_map (as_text_fault 0) (shape_fault k m (pos 0))
