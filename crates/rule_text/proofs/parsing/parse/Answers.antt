use Rattle.std.proofs.Common.{ℕ, ◌+◌, ◌-◌, List, take, drop, length, subst, Err, Result, rules, IfOk, IfErr}
use Rattle.word_image.proofs.Common.{take_rest, LocalRule, IsFormFault}
use Rattle.rule_text.specs.declared.head.Head.{Head}
use Rattle.rule_text.specs.declared.text_fault.TextFault.{TextFault}
use Rattle.rule_text.specs.declared.text_fault.TextFault.TheVariants as fault
use Rattle.rule_text.specs.RuleTexts.{IsRuleText, IsTextFault, NoForm}
use Rattle.rule_text.specs.TextReadings.{IsReading}
use Rattle.rule_text.specs.Heads.{IsHead, IsEntries, said_of}
use Rattle.rule_text.proofs.laws.Texts.{IsReading-rule, IsReading-fault, every_rule, every_fault}
use Rattle.rule_text.proofs.parsing.parse.Goals as goal

pub returns-in_err-head : goal.returns-in_err-head
returns-in_err-head c =
    let text = c.args.text.now in
    let a = c.from_residual.result in
    let rule : IfOk a (λ r. IsRuleText text r) = search rules in
    let fault : IfErr a (λ f. IsTextFault text f) = search rules in
    record { rule = rule; fault = fault; every_rule = every_rule text a rule fault; every_fault = every_fault text a rule fault }

-- the place where the digits stop, as the code takes them, is where the text goes wrong
stop_of : (text : List ℕ) (h : Head) (n : ℕ) → IsHead text h → IsFormFault (IsEntries h.kind) (take (length text - h.place) (drop h.place text)) n
    → IsTextFault text (fault.Form (h.place + n))
stop_of text h n head stop = NoForm (h.place + n) (head.stops n (subst (λ (x : List ℕ). IsFormFault (IsEntries h.kind) x n) (take_rest text h.place) stop))

pub returns-in-Some : goal.returns-in-Some
returns-in-Some c =
    let text = c.args.text.now in
    let fault = stop_of text c.in_ok-head.head c.in-Some.stop c.in_ok-head.ensures.head c.in-Some.ensures.some in
    record { rule = tt; fault = fault; every_rule = every_rule text (Err _) tt fault; every_fault = every_fault text (Err _) tt fault }

-- what is read after a head is the rule of the text, or its fault
read_after : (text : List ℕ) (h : Head) (a : Result LocalRule TextFault) → IsHead text h
    → IsEntries h.kind (take (length text - h.place) (drop h.place text))
    → IsReading (said_of h (take (length text - h.place) (drop h.place text))) a → IfOk a (λ r. IsRuleText text r) × IfErr a (λ g. IsTextFault text g)
read_after text h a head entries reading =
    let says = head.says (subst (λ (x : List ℕ). IsEntries h.kind x) (take_rest text h.place) entries) in
    let answer = subst (λ (x : List ℕ). IsReading (said_of h x) a) (take_rest text h.place) reading in
    (IsReading-rule says a answer, IsReading-fault says a answer)

pub returns : goal.returns
returns c =
    let text = c.args.text.now in
    let a = c.accept.result in
    let (rule, fault) = read_after text c.in_ok-head.head a c.in_ok-head.ensures.head c.in_default.ensures.none c.accept.ensures in
    record { rule = rule; fault = fault; every_rule = every_rule text a rule fault; every_fault = every_fault text a rule fault }
