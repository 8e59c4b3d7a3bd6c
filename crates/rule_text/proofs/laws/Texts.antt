-- A text has one rule, or one first fault.
use Rattle.std.proofs.Common.{◌≡◌, ℕ, List, Ok, Err, Result, sym, ap, ◌∙◌, IfOk, IfErr}
use Rattle.word_image.proofs.Common.{LocalRule, IsFormFault-unique}
use Rattle.rule_text.specs.declared.text_fault.TextFault.{TextFault}
use Rattle.rule_text.specs.declared.text_fault.TextFault.TheVariants as fault
use Rattle.rule_text.specs.RuleTexts.{Said, Says, IsRuleText, IsTextFault, NoForm, Refused, fault_of, rule_of}
use Rattle.rule_text.specs.TextReadings.{IsReading}
use Rattle.rule_text.proofs.laws.Heads.{Says-unique}

-- a text is a text of one rule
pub IsRuleText-unique : {text : List ℕ} {r s : LocalRule} → IsRuleText text r → IsRuleText text s → r ≡ s
IsRuleText-unique f g = f.rule ∙ ap rule_of (Says-unique f.says g.says) ∙ sym g.rule

-- a text has one first fault
pub IsTextFault-unique : {text : List ℕ} {f g : TextFault} → IsTextFault text f → IsTextFault text g → f ≡ g
IsTextFault-unique (NoForm p h) (NoForm q g) = ap fault.Form (IsFormFault-unique h g)
IsTextFault-unique (NoForm p h) (Refused s f says is) = absurd (h.outside (s, says))
IsTextFault-unique (Refused s f says is) (NoForm q g) = absurd (g.outside (s, says))
IsTextFault-unique (Refused s f says is) (Refused t g says' is') = let same : fault_of s ≡ fault_of t = ap fault_of (Says-unique says says') in cc

-- a text of a rule has no fault
pub IsRuleText-no_fault : {text : List ℕ} {r : LocalRule} {f : TextFault} → IsRuleText text r → IsTextFault text f → ⊥
IsRuleText-no_fault rule (NoForm p h) = h.outside (rule.said, rule.says)
IsRuleText-no_fault rule (Refused s f says is) = let same : fault_of rule.said ≡ fault_of s = ap fault_of (Says-unique rule.says says) in let accepted = rule.accepted in cc

-- an answer to what the text says has the rule of the text
pub IsReading-rule : {text : List ℕ} {s : Said} → Says text s → (a : Result LocalRule TextFault) → IsReading s a → IfOk a (λ r. IsRuleText text r)
IsReading-rule {s = s} says (Ok r) answer = record { said = s; says = says; accepted = answer.0; rule = answer.1 }
IsReading-rule says (Err f) answer = tt

-- an answer to what the text says has the fault of the text
pub IsReading-fault : {text : List ℕ} {s : Said} → Says text s → (a : Result LocalRule TextFault) → IsReading s a → IfErr a (λ f. IsTextFault text f)
IsReading-fault says (Ok r) answer = tt
IsReading-fault {s = s} says (Err f) answer = Refused s f says answer

-- a text of a rule has no other answer
pub every_rule : (text : List ℕ) (a : Result LocalRule TextFault) → IfOk a (λ r. IsRuleText text r) → IfErr a (λ f. IsTextFault text f)
    → (r : LocalRule) → IsRuleText text r → a ≡ Ok r
every_rule text (Ok s) rule fault r is = ap Ok (IsRuleText-unique rule is)
every_rule text (Err f) rule fault r is = absurd (IsRuleText-no_fault is fault)

-- a text with a fault has no other answer
pub every_fault : (text : List ℕ) (a : Result LocalRule TextFault) → IfOk a (λ r. IsRuleText text r) → IfErr a (λ f. IsTextFault text f)
    → (f : TextFault) → IsTextFault text f → a ≡ Err f
every_fault text (Ok r) rule fault f is = absurd (IsRuleText-no_fault rule is)
every_fault text (Err g) rule fault f is = ap Err (IsTextFault-unique fault is)
