-- The beginning of a table text: its form, its letters and its faults.
use Rattle.std.proofs.Common.{◌≡◌, ℕ, Bool, true, false, List, ◌++◌, ◌+◌, ◌-◌, ◌≤◌, Ok, Err, Result, Option, Some, None, take, length, replicate, refl, sym, ap, ◌∙◌, arith, IfOk, IfErr, nat_lt, nat_le, ◌^◌, if◌then◌else◌, option_map}
use Rattle.std.specs.Option.{option_or}
use Rattle.word_image.proofs.Common.{false≢true, take-replicate, take-append-add, shape_fault, table_fault}
use Rattle.word_image.specs.declared.local_rule.RuleFault.{RuleFault}
use Rattle.word_image.specs.declared.local_rule.RuleFault.TheVariants as limit
use Rattle.rule_text.specs.declared.text_fault.TextFault.{TextFault}
use Rattle.rule_text.specs.declared.text_fault.TextFault.TheVariants as fault
use Rattle.rule_text.specs.declared.beginnings.Beginning.{Beginning}
use Rattle.rule_text.specs.RuleTexts.{Said, Says, Entries, IsTextFault, NoForm, Refused, as_text_fault, entries_fault, fault_of}
use Rattle.rule_text.specs.Heads.{IsForm}
use Rattle.rule_text.specs.Beginnings.{IsBeginning, IsBeginningFault, IsBeginningOf, filled}

-- whether a fault is one of form
abbrev is_form : Option TextFault → Bool
is_form (Some (fault.Form place)) = true
is_form _ = false

-- no limit of a rule is one
is_form-as_text_fault : (place : ℕ) (f : RuleFault) → is_form (Some (as_text_fault place f)) ≡ false
is_form-as_text_fault place limit.States = refl
is_form-as_text_fault place _ = refl

is_form-limit : (place : ℕ) (o : Option RuleFault) (e : Option TextFault) → is_form e ≡ false
    → is_form (option_or (option_map (as_text_fault place) o) e) ≡ false
is_form-limit place None e h = h
is_form-limit place (Some f) e h = is_form-as_text_fault place f

is_form-map : (place : ℕ) (o : Option RuleFault) → is_form (option_map (as_text_fault place) o) ≡ false
is_form-map place None = refl
is_form-map place (Some f) = is_form-as_text_fault place f

is_form-number : (large out : Bool) → is_form (if large then Some fault.Kind else (if out then Some fault.Number else None)) ≡ false
is_form-number true out = refl
is_form-number false true = refl
is_form-number false false = refl

is_form-entries : (s : Said) (entries : Entries) → is_form (entries_fault s entries) ≡ false
is_form-entries s (Entries.Table letters) = is_form-map s.place (table_fault s.states s.width letters)
is_form-entries s (Entries.Number n) = is_form-number (nat_lt 6 s.states) (nat_le (s.states ^ (s.states ^ s.width)) n)

-- what a text of the grammar says has no fault of form
is_form-said : (s : Said) → is_form (fault_of s) ≡ false
is_form-said s = is_form-limit s.place (shape_fault s.states s.width s.offset) (entries_fault s s.entries) (is_form-entries s s.entries)

-- a fault of form is one of a beginning too
pub IsBeginningFault-form : {text : List ℕ} {f : TextFault} → IsTextFault text f → IsForm f → IsBeginningFault text f
IsBeginningFault-form (NoForm p h) form = IsBeginningFault.NoForm p h
IsBeginningFault-form (Refused s f says is) (p, e) = absurd (false≢true (sym (is_form-said s) ∙ ap is_form is ∙ ap (λ x. is_form (Some x)) e))

-- the first fault of a shape and a table, as it stands in a text
pub fault_in_text : (place : ℕ) (a b : Option RuleFault)
    → option_or (option_map (as_text_fault place) a) (option_map (as_text_fault place) b) ≡ option_map (as_text_fault place) (option_or a b)
fault_in_text place None b = refl
fault_in_text place (Some f) b = refl

-- letters with zeros behind them, cut off behind the last window
pub take-filled : (letters : List ℕ) (n size : ℕ) → n ≡ length letters → n ≤ size → size ≤ 256
    → take size (letters ++ replicate (256 - n) 0) ≡ filled size letters
take-filled letters n size long few most =
    ap (λ s. take s (letters ++ replicate (256 - n) 0)) (let split : size ≡ length letters + (size - length letters) = omega arith in split)
    ∙ take-append-add letters (replicate (256 - n) 0) (size - length letters)
    ∙ ap (λ (xs : List ℕ). letters ++ xs) (take-replicate (size - length letters) (256 - n) 0 (omega arith))

-- the answer to what the text says is the beginning, or its fault
pub IsBeginning-of : {text : List ℕ} {s : Said} → Says text s → (a : Result Beginning TextFault) → IsBeginningOf s a
    → IfOk a (λ b. IsBeginning text b) × IfErr a (λ f. IsBeginningFault text f)
IsBeginning-of {s = s} says (Ok b) answer = (record { said = s; says = says; accepted = answer.0; rule = answer.1; given = answer.2 }, tt)
IsBeginning-of {s = s} says (Err f) answer = (tt, IsBeginningFault.Refused s f says answer)
