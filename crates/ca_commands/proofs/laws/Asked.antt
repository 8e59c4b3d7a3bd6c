-- A command asks one question, or one of its operands is refused, and not both; `check` asks none.
use Rattle.std.proofs.Common.{◌≡◌, ◌≢◌, ℕ, ◌≤◌, List, ◌∷◌, length, refl, sym, ap, ap₂, ◌∙◌, subst, arith, ℤ}
use Rattle.word_image.proofs.Common.{none-some, LocalRule}
use Rattle.tail_config.proofs.Common.{HasParts-unique}
use Rattle.rule_text.specs.declared.text_fault.TextFault.{TextFault}
use Rattle.rule_text.specs.RuleTexts.{IsOffset}
use Rattle.rule_text.specs.RuleTexts.IsOffset.{Plain, Minus}
use Rattle.rule_text.proofs.laws.Texts.{IsRuleText-unique, IsRuleText-no_fault}
use Rattle.ca_commands.specs.declared.names.Name.{Name}
use Rattle.ca_commands.specs.declared.names.Name.TheVariants as name
use Rattle.ca_commands.specs.Commands.{Command, IsCommand, form_of, rule_count}
use Rattle.ca_questions.proofs.Common.{Question}
use Rattle.ca_commands.specs.Asked.{AreRuleTexts, Asks, IsAsked, IsFirstFault, IsShapeFault, IsOperandFault}

-- a text names one offset
pub IsOffset-unique : {text : List ℕ} {o p : ℤ} → IsOffset text o → IsOffset text p → o ≡ p
IsOffset-unique (Plain digits plain) (Plain _ also) = refl
IsOffset-unique (Plain _ plain) (Minus digits minus) = absurd (omega (arith, (plain.digits 0 0 (omega arith)).0))
IsOffset-unique (Minus digits minus) (Plain _ plain) = absurd (omega (arith, (plain.digits 0 0 (omega arith)).0))
IsOffset-unique (Minus digits minus) (Minus _ also) = refl

-- texts are those of one list of rules
AreRuleTexts-unique : {texts : List (List ℕ)} {rules others : List LocalRule} → AreRuleTexts texts rules → AreRuleTexts texts others → rules ≡ others
AreRuleTexts-unique AreRuleTexts.NoText AreRuleTexts.NoText = refl
AreRuleTexts-unique (AreRuleTexts.More text texts r rules says rest) (AreRuleTexts.More _ _ s others also rest') =
    ap₂ (λ (p : LocalRule) (ps : List LocalRule). p ∷ ps) (IsRuleText-unique says also) (AreRuleTexts-unique rest rest')

-- a name, rules and operands ask one question
Asks-unique : {n : Name} {rules : List LocalRule} {operands : List (List ℕ)} {p q : Question} → Asks n rules operands p → Asks n rules operands q
    → p ≡ q
Asks-unique (Asks.Shift r text by says) (Asks.Shift _ _ other also) = ap (Question.Shift r) (IsOffset-unique says also)
Asks-unique (Asks.Preimage r text t parts) (Asks.Preimage _ _ u also) = ap (Question.Preimage r) (HasParts-unique parts also)
Asks-unique (Asks.Decide r operands) (Asks.Decide _ _) = refl
Asks-unique (Asks.Certify r operands) (Asks.Certify _ _) = refl
Asks-unique (Asks.Brief r operands) (Asks.Brief _ _) = refl
Asks-unique (Asks.Orphan r) (Asks.Orphan _) = refl
Asks-unique (Asks.Number r) (Asks.Number _) = refl
Asks-unique (Asks.Reflect r) (Asks.Reflect _) = refl
Asks-unique (Asks.Trim r) (Asks.Trim _) = refl
Asks-unique (Asks.Widen r text) (Asks.Widen _ _) = refl
Asks-unique (Asks.Permute r text) (Asks.Permute _ _) = refl
Asks-unique (Asks.Compose r s) (Asks.Compose _ _) = refl
Asks-unique (Asks.Least r) (Asks.Least _) = refl
Asks-unique (Asks.Lift r) (Asks.Lift _) = refl
Asks-unique (Asks.Unlift r) (Asks.Unlift _) = refl
Asks-unique (Asks.Inverse r) (Asks.Inverse _) = refl
Asks-unique (Asks.Language r) (Asks.Language _) = refl
Asks-unique (Asks.Same r s) (Asks.Same _ _) = refl
Asks-unique (Asks.Erase r) (Asks.Erase _) = refl
Asks-unique (Asks.Survey k m from count none) (Asks.Survey _ _ _ _ _) = refl
Asks-unique (Asks.Sample k m seed count none) (Asks.Sample _ _ _ _ _) = refl
Asks-unique (Asks.Classes k m from count none) (Asks.Classes _ _ _ _ _) = refl

-- a command asks one question
pub IsAsked-unique : {c : Command} {p q : Question} → IsAsked c p → IsAsked c q → p ≡ q
IsAsked-unique {c = c} {q = q} here there =
    Asks-unique here.asks (subst (λ rules. Asks c.name rules c.operands q) (AreRuleTexts-unique there.texts here.texts) there.asks)

-- texts of rules have no first fault
texts_without_fault : {texts : List (List ℕ)} {rules : List LocalRule} {i : ℕ} {f : TextFault} → AreRuleTexts texts rules → IsFirstFault texts i f → ⊥
texts_without_fault AreRuleTexts.NoText fault = elim fault [ ]
texts_without_fault (AreRuleTexts.More text texts r rules says rest) (IsFirstFault.Here _ _ f is) = IsRuleText-no_fault says is
texts_without_fault (AreRuleTexts.More text texts r rules says rest) (IsFirstFault.Later _ _ s i f also fault) = texts_without_fault rest fault

-- a shape that is asked about has no fault
shape_without_fault : {n : Name} {rules : List LocalRule} {operands : List (List ℕ)} {q : Question} {f : TextFault} → Asks n rules operands q
    → IsShapeFault (form_of n) operands f → ⊥
shape_without_fault (Asks.Survey k m from count none) (IsShapeFault.Numbers _ _ _ _ f is) = none-some f (sym none ∙ is)
shape_without_fault (Asks.Sample k m seed count none) (IsShapeFault.Seed _ _ _ _ f is) = none-some f (sym none ∙ is)
shape_without_fault (Asks.Classes k m from count none) (IsShapeFault.Numbers _ _ _ _ f is) = none-some f (sym none ∙ is)
shape_without_fault _ fault = elim fault [ ]

pub IsAsked-no_fault : {c : Command} {q : Question} {i : ℕ} {f : TextFault} → IsAsked c q → IsOperandFault c i f → ⊥
IsAsked-no_fault is (IsOperandFault.OfRule c i f fault) = texts_without_fault is.texts fault
IsAsked-no_fault is (IsOperandFault.OfShape c f fault) = shape_without_fault is.asks fault

-- `check` asks nothing of rules
pub IsAsked-reads_nothing : {c : Command} {q : Question} → IsAsked c q → c.name ≢ name.Check
IsAsked-reads_nothing {c = c} {q = q} asked is = elim (subst (λ n. Asks n asked.rules c.operands q) is asked.asks) [ ]

-- where a text has a fault, there is a text
fault_behind : {texts : List (List ℕ)} {i : ℕ} {f : TextFault} → IsFirstFault texts i f → 1 ≤ length texts
fault_behind (IsFirstFault.Here text texts f is) = omega arith
fault_behind (IsFirstFault.Later text texts r i f says fault) = omega arith

-- `check` has no operand that is refused
pub IsOperandFault-reads_nothing : {words : List (List ℕ)} {c : Command} {i : ℕ} {f : TextFault} → IsCommand words c → IsOperandFault c i f
    → c.name ≢ name.Check
IsOperandFault-reads_nothing is (IsOperandFault.OfRule c i f fault) check = let none : rule_count c.name ≡ 0 = ap rule_count check in omega (arith, fault_behind fault, is.rules, none)
IsOperandFault-reads_nothing is (IsOperandFault.OfShape c f fault) check = elim (subst (λ n. IsShapeFault (form_of n) c.operands f) check fault) [ ]
