use Rattle.std.proofs.Common.{◌≡◌, ◌^◌, ◌≤◌, length, refl, sym, ◌∙◌, arith}
use Rattle.word_image.proofs.Common.{false≢true}
use Rattle.c_structs.specs.NextRules.{IsNext, IsQuestion}
use Rattle.c_structs.proofs.laws.NextRules.{IsNext-fault, IsNext-no_order, IsNext-no_beginning, IsNext-none, IsNext-rule, IsQuestion-size, size-rule_of_table}
use Rattle.ca_c.proofs.exports.ca_next_rule.Goals as goal

pub returns-in-Err : goal.returns-in-Err
returns-in-Err c = IsNext-fault c.in-Err.ensures.fault c.fault_number.ensures

pub returns-in_default : goal.returns-in_default
returns-in_default c = IsNext.NoProperty (c.in-Ok.ensures.accepted.0 refl) (c.in_default.ensures.none refl)

pub returns-then-not-is_order : goal.returns-then-not-is_order
returns-then-not-is_order c =
    IsNext-no_order c.in-Some.property (c.in-Ok.ensures.accepted.0 refl) c.in-Some.ensures.some (size-rule_of_table c.args.states c.args.width c.args.table.now c.size.ensures.size c.in-Ok.ensures.rule)
    (λ ordered. false≢true (sym c.if-not-is_order.true ∙ c.is_order.ensures.1 ordered))

pub returns-then-begin-from : goal.returns-then-begin-from
returns-then-begin-from c =
    let windows : c.size.result ≡ c.args.states ^ c.args.width = size-rule_of_table c.args.states c.args.width c.args.table.now c.size.ensures.size c.in-Ok.ensures.rule in
    IsNext-no_beginning c.in-Some.property (c.in-Ok.ensures.accepted.0 refl) c.in-Some.ensures.some windows (c.is_order.ensures.0 c.if-not-is_order.false)
    (omega (arith, c.if-begin-from.true, c.from.ensures, c.size-2.ensures.size, c.size.ensures.size))

pub returns-in-Some-next_rule : goal.returns-in-Some-next_rule
returns-in-Some-next_rule c =
    let windows : c.size.result ≡ c.args.states ^ c.args.width = size-rule_of_table c.args.states c.args.width c.args.table.now c.size.ensures.size c.in-Ok.ensures.rule in
    let few : length c.args.begin.now ≤ c.size.result = omega (arith, c.if-begin-from.false, c.from.ensures, c.size-2.ensures.size, c.size.ensures.size) in
    let question : IsQuestion c.in-Some.property c.args.property c.args.states c.args.width c.args.order.now c.args.begin.now c.args.table.now =
    IsQuestion-size (c.in-Ok.ensures.accepted.0 refl) c.in-Some.ensures.some windows (c.is_order.ensures.0 c.if-not-is_order.false) few in
    IsNext-rule question c.in-Ok.ensures.rule c.letters_of.ensures c.in-Some-next_rule.ensures c.write_table.ensures

pub returns-in-None : goal.returns-in-None
returns-in-None c =
    let windows : c.size.result ≡ c.args.states ^ c.args.width = size-rule_of_table c.args.states c.args.width c.args.table.now c.size.ensures.size c.in-Ok.ensures.rule in
    let few : length c.args.begin.now ≤ c.size.result = omega (arith, c.if-begin-from.false, c.from.ensures, c.size-2.ensures.size, c.size.ensures.size) in
    let question : IsQuestion c.in-Some.property c.args.property c.args.states c.args.width c.args.order.now c.args.begin.now c.args.table.now =
    IsQuestion-size (c.in-Ok.ensures.accepted.0 refl) c.in-Some.ensures.some windows (c.is_order.ensures.0 c.if-not-is_order.false) few in
    IsNext-none question c.in-Ok.ensures.rule c.letters_of.ensures c.in-None.ensures
