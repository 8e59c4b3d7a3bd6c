use Rattle.std.proofs.Common.{ℕ, ◌+◌, ◌-◌, List, take, drop, length, subst, Result, rules, IfOk, IfErr}
use Rattle.word_image.proofs.Common.{take_rest, IsFormFault}
use Rattle.rule_text.specs.declared.head.Head.{Head}
use Rattle.rule_text.specs.declared.text_fault.TextFault.{TextFault}
use Rattle.rule_text.specs.declared.text_fault.TextFault.TheVariants as fault
use Rattle.rule_text.specs.declared.beginnings.Beginning.{Beginning}
use Rattle.rule_text.specs.Heads.{IsHead, IsEntries, said_of}
use Rattle.rule_text.specs.Beginnings.{IsBeginning, IsBeginningFault, IsBeginningOf, NoForm}
use Rattle.rule_text.proofs.laws.Beginnings.{IsBeginningFault-form, IsBeginning-of}
use Rattle.rule_text.proofs.beginnings.parse_beginning.Goals as goal

-- the place where the digits stop, as the code takes them, is where the text goes wrong
stop_of : (text : List ℕ) (h : Head) (n : ℕ) → IsHead text h → IsFormFault (IsEntries h.kind) (take (length text - h.place) (drop h.place text)) n
    → IsBeginningFault text (fault.Form (h.place + n))
stop_of text h n head stop = NoForm (h.place + n) (head.stops n (subst (λ (x : List ℕ). IsFormFault (IsEntries h.kind) x n) (take_rest text h.place) stop))

pub returns-in_err-head-clause-fault : goal.returns-in_err-head-clause-fault
returns-in_err-head-clause-fault c =
    let fault : IsBeginningFault c.args.text.now c.in_err-head.field-0.0 = IsBeginningFault-form c.in_err-head.ensures.fault c.in_err-head.ensures.form in
    search rules

pub returns-in-Some-clause-fault : goal.returns-in-Some-clause-fault
returns-in-Some-clause-fault c = stop_of c.args.text.now c.in_ok-head.head c.in-Some.stop c.in_ok-head.ensures.head c.in-Some.ensures.some

-- what is read after a head is the beginning, or its fault
read_after : (text : List ℕ) (h : Head) (a : Result Beginning TextFault) → IsHead text h
    → IsEntries h.kind (take (length text - h.place) (drop h.place text))
    → IsBeginningOf (said_of h (take (length text - h.place) (drop h.place text))) a
    → IfOk a (λ b. IsBeginning text b) × IfErr a (λ g. IsBeginningFault text g)
read_after text h a head entries answer =
    IsBeginning-of (head.says (subst (λ (x : List ℕ). IsEntries h.kind x) (take_rest text h.place) entries)) a (subst (λ (x : List ℕ). IsBeginningOf (said_of h x) a) (take_rest text h.place) answer)

pub returns-clause-fault : goal.returns-clause-fault
returns-clause-fault c = (read_after c.args.text.now c.in_ok-head.head c.begin.result c.in_ok-head.ensures.head c.in_default.ensures.none c.begin.ensures).1
