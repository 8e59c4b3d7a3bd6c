-- The rules of a survey and of a sample, one by one.
use Rattle.std.proofs.Common.{◌≡◌, ℕ, suc, ◌+◌, ◌-◌, ◌^◌, ◌<◌, ◌≤◌, List, [], ◌∷◌, ◌++◌, None, refl, sym, arith, mod-lt, append_assoc, append-nil, pos}
use Rattle.std.specs.Option.{option_or}
use Rattle.word_image.proofs.Common.{range_with_len, map-range_with_len_more, length-map-range_with_len, nat_tests, All-map, LocalRule, IsShape, IsRule}
use Rattle.rule_text.specs.RuleTexts.{number_fault}
use Rattle.rule_text.proofs.laws.AcceptedRules.{none_or}
use Rattle.rule_verdicts.specs.Numbers.{numbered_rule, numbers_fault}
use Rattle.ca_questions.specs.Samples.{survey_rules, state_after, drawn, drawn_rule, sample_rules, sample_fault}

-- a survey of one rule more
pub survey_rules-more : (k m first i : ℕ) → survey_rules k m first (i + 1) ≡ survey_rules k m first i ++ numbered_rule k m (first + i) ∷ []
survey_rules-more k m first i = map-range_with_len_more (numbered_rule k m) first i (first + i) refl

-- what is drawn is an accepted rule
pub IsRule-drawn : (k m s : ℕ) → IsShape k m (pos 0) → IsRule (drawn_rule k m s)
unfolding drawn
IsRule-drawn k m s shape = record {
  shape = shape;
  entries = length-map-range_with_len (drawn k s) 0 (k ^ m);
  letters = All-map (λ a. a < k) (drawn k s) (range_with_len 0 (k ^ m)) (λ i d h. mod-lt _ (omega (arith, shape.least_states)));
}

-- of a sample that goes on from a state, one rule more is drawn
pub sample-step : (k m s count i t : ℕ) (done : List LocalRule) {whole : List LocalRule} → i < count → t ≡ state_after s (k ^ m)
    → whole ≡ done ++ sample_rules k m s (count - i) → whole ≡ (done ++ drawn_rule k m s ∷ []) ++ sample_rules k m t (count - (i + 1))
unfolding sample_rules
sample-step k m s count i t done some state split =
    let left : count - i ≡ suc (count - (i + 1)) = omega arith in
    rw (state, append_assoc) (rw left at split)

-- where all rules of a sample are drawn, they are the sample
pub sample-end : (k m s count i : ℕ) (done : List LocalRule) {whole : List LocalRule} → count ≤ i → whole ≡ done ++ sample_rules k m s (count - i)
    → done ≡ whole
unfolding sample_rules
sample-end k m s count i done all split =
    let left : count - i ≡ 0 = omega arith in
    sym (rw (left, append-nil) at split)

-- numbers below one without a fault have none
number_fault-below : (k m n i : ℕ) → number_fault k m n ≡ None → i ≤ n → number_fault k m i ≡ None
number_fault-below k m n i none below = grind (arith, nat_tests)

-- each number of an accepted survey has a rule
pub survey-accepted : (k m first count i : ℕ) → numbers_fault k m first count ≡ None → i < count
    → option_or (sample_fault k m) (number_fault k m (first + i)) ≡ None
survey-accepted k m first count i none below =
    let parts = none_or (sample_fault k m) (number_fault k m (first + count - 1)) none in
    rw parts.0 (number_fault-below k m (first + count - 1) (first + i) parts.1 (omega arith))
