-- A command has a name, the texts of rules and other operands. This file defines which question a command asks about
-- its rules, and which of its operands is the first with a fault.
use Rattle.std.specs.Prelude.{◌≡◌, ℕ, ◌+◌, List, [], ◌∷◌, map, Option, Some, None, ℤ}
use Rattle.word_image.specs.Digits.{letter_at}
use Rattle.word_image.specs.LocalRules.{LocalRule}
use Rattle.tail_config.specs.Tails.{TailConfig}
use Rattle.tail_config.specs.TailTexts.{HasParts}
use Rattle.rule_text.specs.declared.text_fault.TextFault.{TextFault}
use Rattle.rule_text.specs.RuleTexts.{IsRuleText, IsTextFault, IsOffset, decimal_value}
use Rattle.cert_values.specs.declared.cert_version.CertVersion.TheVariants as version
use Rattle.rule_verdicts.specs.Numbers.{numbers_fault}
use Rattle.ca_commands.specs.declared.names.Name.{Name}
use Rattle.ca_commands.specs.declared.names.Name.TheVariants as name
use Rattle.ca_commands.specs.Commands.{Command, Form, form_of}
use Rattle.ca_commands.specs.WeightTexts.{weights_said}
use Rattle.ca_questions.specs.Questions.{Question}
use Rattle.ca_questions.specs.Samples.{survey_rules, sample_rules, sample_fault}

-- The question of a command

-- the texts are texts of these rules, in the same order
pub data AreRuleTexts : List (List ℕ) → List LocalRule → Type 0 where
  NoText : AreRuleTexts [] []
  More : (text : List ℕ) (texts : List (List ℕ)) (r : LocalRule) (rules : List LocalRule) → IsRuleText text r → AreRuleTexts texts rules
      → AreRuleTexts (text ∷ texts) (r ∷ rules)

-- the weights that the operands of a command name, or None if there are no operands
abbrev pub weights_in : List (List ℕ) → Option (List ℕ)
weights_in [] = None
weights_in (text ∷ _) = Some (weights_said text)

-- a command of this name asks this question, about these rules and with these operands
pub data Asks : Name → List LocalRule → List (List ℕ) → Question → Type 0 where
  Decide : (r : LocalRule) (operands : List (List ℕ)) → Asks name.Decide (r ∷ []) operands (Question.Report r (weights_in operands))
  Certify : (r : LocalRule) (operands : List (List ℕ)) → Asks name.Certify (r ∷ []) operands (Question.Certify version.Two r (weights_in operands))
  Brief : (r : LocalRule) (operands : List (List ℕ)) → Asks name.Brief (r ∷ []) operands (Question.Certify version.Three r (weights_in operands))
  Orphan : (r : LocalRule) → Asks name.Orphan (r ∷ []) [] (Question.Orphan r)
  Number : (r : LocalRule) → Asks name.Number (r ∷ []) [] (Question.Number r)
  Reflect : (r : LocalRule) → Asks name.Reflect (r ∷ []) [] (Question.Reflect r)
  Trim : (r : LocalRule) → Asks name.Trim (r ∷ []) [] (Question.Trim r)
  Shift : (r : LocalRule) (text : List ℕ) (by : ℤ) → IsOffset text by → Asks name.Shift (r ∷ []) (text ∷ []) (Question.Shift r by)
  Widen : (r : LocalRule) (text : List ℕ) → Asks name.Widen (r ∷ []) (text ∷ []) (Question.Widen r (decimal_value text))
  Permute : (r : LocalRule) (text : List ℕ) → Asks name.Permute (r ∷ []) (text ∷ []) (Question.Permute r (map letter_at text))
  Compose : (r s : LocalRule) → Asks name.Compose (r ∷ s ∷ []) [] (Question.Compose r s)
  Least : (r : LocalRule) → Asks name.Least (r ∷ []) [] (Question.Least r)
  Lift : (r : LocalRule) → Asks name.Lift (r ∷ []) [] (Question.Lift r)
  Unlift : (r : LocalRule) → Asks name.Unlift (r ∷ []) [] (Question.Unlift r)
  Inverse : (r : LocalRule) → Asks name.Inverse (r ∷ []) [] (Question.Inverse r)
  Language : (r : LocalRule) → Asks name.Language (r ∷ []) [] (Question.Language r)
  Same : (r s : LocalRule) → Asks name.Same (r ∷ s ∷ []) [] (Question.Same r s)
  Erase : (r : LocalRule) → Asks name.Erase (r ∷ []) [] (Question.Erase r)
  Preimage : (r : LocalRule) (text : List ℕ) (t : TailConfig) → HasParts text t → Asks name.Preimage (r ∷ []) (text ∷ []) (Question.Preimage r t)
  Survey : (k m from count : List ℕ) → numbers_fault (decimal_value k) (decimal_value m) (decimal_value from) (decimal_value count) ≡ None
      → Asks name.Survey [] (k ∷ m ∷ from ∷ count ∷ []) (Question.Summary (survey_rules (decimal_value k) (decimal_value m) (decimal_value from) (decimal_value count)))
  Sample : (k m seed count : List ℕ) → sample_fault (decimal_value k) (decimal_value m) ≡ None
      → Asks name.Sample [] (k ∷ m ∷ seed ∷ count ∷ []) (Question.Summary (sample_rules (decimal_value k) (decimal_value m) (decimal_value seed) (decimal_value count)))
  Classes : (k m from count : List ℕ) → numbers_fault (decimal_value k) (decimal_value m) (decimal_value from) (decimal_value count) ≡ None
      → Asks name.Classes [] (k ∷ m ∷ from ∷ count ∷ []) (Question.Classes (survey_rules (decimal_value k) (decimal_value m) (decimal_value from) (decimal_value count)))

-- the command asks the question q about the rules whose texts it has
pub record IsAsked (c : Command) (q : Question) : Type 0 where
  pub rules : List LocalRule
  pub texts : AreRuleTexts c.rules rules
  pub asks : Asks c.name rules c.operands q

-- Operands with faults

-- i is the number of the first text with a fault, counting from 1, and f is the first fault of this text
pub data IsFirstFault : List (List ℕ) → ℕ → TextFault → Type 0 where
  Here : (text : List ℕ) (texts : List (List ℕ)) (f : TextFault) → IsTextFault text f → IsFirstFault (text ∷ texts) 1 f
  Later : (text : List ℕ) (texts : List (List ℕ)) (r : LocalRule) (i : ℕ) (f : TextFault) → IsRuleText text r → IsFirstFault texts i f
      → IsFirstFault (text ∷ texts) (i + 1) f

-- the operands give the shape and the numbers of many rules, but not all these rules exist; f is the first fault
pub data IsShapeFault : Form → List (List ℕ) → TextFault → Type 0 where
  Numbers : (k m from count : List ℕ) (f : TextFault) → numbers_fault (decimal_value k) (decimal_value m) (decimal_value from) (decimal_value count) ≡ Some f
      → IsShapeFault Form.Numbers (k ∷ m ∷ from ∷ count ∷ []) f
  Seed : (k m seed count : List ℕ) (f : TextFault) → sample_fault (decimal_value k) (decimal_value m) ≡ Some f → IsShapeFault Form.Seed (k ∷ m ∷ seed ∷ count ∷ []) f

-- operand i is the first operand with a fault, and f is its first fault; operands that give the shape of many rules count as operand 1
pub data IsOperandFault : Command → ℕ → TextFault → Type 0 where
  OfRule : (c : Command) (i : ℕ) (f : TextFault) → IsFirstFault c.rules i f → IsOperandFault c i f
  OfShape : (c : Command) (f : TextFault) → IsShapeFault (form_of c.name) c.operands f → IsOperandFault c 1 f
