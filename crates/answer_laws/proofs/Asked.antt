-- What a command asks is asked of accepted rules, and one of its operands is the first with a fault.
use Rattle.std.proofs.Common.{◌≡◌, ℕ, ◌+◌, ◌^◌, ◌<◌, zero, suc, List, length, All, pos, refl, sym, ap, ◌∙◌, subst, arith, None}
use Rattle.word_image.proofs.Common.{AllByRecursion, range_with_len, same_Some, All-nil, All-cons, All-map, All-from_get_or, length-range_with_len, get_or-range_with_len, LocalRule, IsShape, IsRule, IsShape-shape_fault}
use Rattle.rule_text.specs.declared.text_fault.TextFault.{TextFault}
use Rattle.rule_text.specs.RuleTexts.{by_number, as_text_fault}
use Rattle.rule_text.proofs.laws.Texts.{IsRuleText-no_fault, IsTextFault-unique}
use Rattle.rule_text.proofs.laws.AcceptedRules.{IsRule-said, IsRule-text, none_map}
use Rattle.rule_verdicts.specs.Numbers.{numbered_rule, numbers_fault}
use Rattle.ca_commands.specs.declared.names.Name.{Name}
use Rattle.ca_commands.specs.declared.names.Name.TheVariants as name
use Rattle.ca_commands.specs.Commands.{Command, Form, IsCommand, form_of, rule_count}
use Rattle.ca_questions.proofs.Common.{Question, AreRules}
use Rattle.ca_questions.specs.Samples.{survey_rules, state_after, drawn_rule, sample_rules}
use Rattle.ca_answering.proofs.laws.Samples.{survey-accepted, IsRule-drawn}
use Rattle.ca_commands.specs.Asked.{AreRuleTexts, Asks, IsAsked, IsFirstFault, IsShapeFault, IsOperandFault}

-- The rules of a question

-- the rules of texts are accepted
AreRuleTexts-rules : {texts : List (List ℕ)} {rules : List LocalRule} → AreRuleTexts texts rules → AllByRecursion IsRule rules
AreRuleTexts-rules AreRuleTexts.NoText = tt
AreRuleTexts-rules (AreRuleTexts.More text texts r rules says rest) = (IsRule-text says, AreRuleTexts-rules rest)

-- the rules of an accepted survey are accepted
survey_rules-rules : (k m from count : ℕ) → numbers_fault k m from count ≡ None → All IsRule (survey_rules k m from count)
survey_rules-rules k m from count none =
    let numbers = range_with_len from count in
    All-map IsRule (numbered_rule k m) numbers (All-from_get_or (λ n. IsRule (numbered_rule k m n)) numbers 0 (λ i within.
    let below : i < count = omega (arith, within, length-range_with_len from count) in
    subst (λ n. IsRule (numbered_rule k m n)) (sym (get_or-range_with_len from count i 0 below)) (IsRule-said (by_number k m (pos 0) (from + i)) (survey-accepted k m from count i none below))))

-- the rules that are drawn for an accepted shape are accepted
sample_rules-rules : (k m seed count : ℕ) → IsShape k m (pos 0) → All IsRule (sample_rules k m seed count)
unfolding sample_rules
sample_rules-rules k m seed zero shape = All-nil IsRule
sample_rules-rules k m seed (suc count) shape =
    let later = state_after seed (k ^ m) in
    All-cons IsRule (drawn_rule k m seed) (sample_rules k m later count) (IsRule-drawn k m seed shape) (sample_rules-rules k m later count shape)

-- what is asked of accepted rules is a question of accepted rules
Asks-rules : {n : Name} {rules : List LocalRule} {operands : List (List ℕ)} {q : Question} → AllByRecursion IsRule rules → Asks n rules operands q
    → AreRules q
Asks-rules accepted (Asks.Survey k m from count none) = survey_rules-rules _ _ _ _ none
Asks-rules accepted (Asks.Sample k m seed count none) = sample_rules-rules _ _ _ _ (IsShape-shape_fault _ _ (pos 0) (none_map (as_text_fault 0) _ none))
Asks-rules accepted (Asks.Classes k m from count none) = survey_rules-rules _ _ _ _ none
Asks-rules accepted (Asks.Compose r s) = (accepted.0, accepted.1.0)
Asks-rules accepted (Asks.Same r s) = (accepted.0, accepted.1.0)
Asks-rules accepted _ = accepted.0

-- what a command asks is asked of accepted rules
pub IsAsked-rules : {c : Command} {q : Question} → IsAsked c q → AreRules q
IsAsked-rules is = Asks-rules (AreRuleTexts-rules is.texts) is.asks

-- The operand with a fault

-- of texts one is the first with a fault, and it has one first fault
IsFirstFault-unique : {texts : List (List ℕ)} {i j : ℕ} {f g : TextFault} → IsFirstFault texts i f → IsFirstFault texts j g → (i ≡ j) × (f ≡ g)
IsFirstFault-unique (IsFirstFault.Here text texts f is) (IsFirstFault.Here _ _ g also) = (refl, IsTextFault-unique is also)
IsFirstFault-unique (IsFirstFault.Here text texts f is) (IsFirstFault.Later _ _ r j g says fault) = absurd (IsRuleText-no_fault says is)
IsFirstFault-unique (IsFirstFault.Later text texts r i f says fault) (IsFirstFault.Here _ _ g is) = absurd (IsRuleText-no_fault says is)
IsFirstFault-unique (IsFirstFault.Later text texts r i f says fault) (IsFirstFault.Later _ _ s j g also other) =
    let (same, one) = IsFirstFault-unique fault other in (ap (λ n. n + 1) same, one)

-- a shape has one first fault
IsShapeFault-unique : {form : Form} {operands : List (List ℕ)} {f g : TextFault} → IsShapeFault form operands f → IsShapeFault form operands g → f ≡ g
IsShapeFault-unique (IsShapeFault.Numbers k m from count f is) (IsShapeFault.Numbers _ _ _ _ g also) = same_Some f g (sym is ∙ also)
IsShapeFault-unique (IsShapeFault.Seed k m seed count f is) (IsShapeFault.Seed _ _ _ _ g also) = same_Some f g (sym is ∙ also)

-- a text with a fault is a text
IsFirstFault-some : {texts : List (List ℕ)} {i : ℕ} {f : TextFault} → IsFirstFault texts i f → 0 < length texts
IsFirstFault-some (IsFirstFault.Here text texts f is) = omega arith
IsFirstFault-some (IsFirstFault.Later text texts r i f says fault) = omega arith

-- a command with texts of rules has no shape with a fault
IsShapeFault-no_rules : (n : Name) {operands : List (List ℕ)} {g : TextFault} → 0 < rule_count n → IsShapeFault (form_of n) operands g → ⊥
IsShapeFault-no_rules name.Survey some fault = omega (arith, some)
IsShapeFault-no_rules name.Sample some fault = omega (arith, some)
IsShapeFault-no_rules name.Classes some fault = omega (arith, some)
IsShapeFault-no_rules _ some fault = elim fault [ ]

-- of the operands of a command one is the first with a fault, and it has one first fault
pub IsOperandFault-unique : {words : List (List ℕ)} {c : Command} {i j : ℕ} {f g : TextFault} → IsCommand words c → IsOperandFault c i f
    → IsOperandFault c j g → (i ≡ j) × (f ≡ g)
IsOperandFault-unique is (IsOperandFault.OfRule c i f fault) (IsOperandFault.OfRule _ j g also) = IsFirstFault-unique fault also
IsOperandFault-unique is (IsOperandFault.OfRule c i f fault) (IsOperandFault.OfShape _ g shape) = absurd (IsShapeFault-no_rules _ (omega (arith, is.rules, IsFirstFault-some fault)) shape)
IsOperandFault-unique is (IsOperandFault.OfShape c f shape) (IsOperandFault.OfRule _ j g fault) = absurd (IsShapeFault-no_rules _ (omega (arith, is.rules, IsFirstFault-some fault)) shape)
IsOperandFault-unique is (IsOperandFault.OfShape c f shape) (IsOperandFault.OfShape _ g also) = (refl, IsShapeFault-unique shape also)
