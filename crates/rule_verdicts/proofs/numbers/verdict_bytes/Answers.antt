use Rattle.std.proofs.Common.{◌≡◌, ◌+◌, ◌-◌, ◌^◌, ◌≤◌, None, length, reverse, ap, ◌∙◌, arith}
use Rattle.word_image.proofs.Common.{value}
use Rattle.rule_verdicts.specs.Numbers.{numbers_fault, numbered_rule}
use Rattle.rule_verdicts.proofs.laws.Numbers.{numbers_fault-room}
use Rattle.rule_verdicts.proofs.laws.Tables.{length-numbered, value-numbered}
use Rattle.rule_verdicts.proofs.numbers.verdict_bytes.Goals.{After-copy_from_slice}
use Rattle.rule_verdicts.proofs.numbers.verdict_bytes.Goals as goal

-- the last number has a rule
none : (c : After-copy_from_slice) → numbers_fault c.args.k c.args.m c.args.first (length c.args.bytes.now) ≡ None
none c =
    let last : c.in-Some.last ≡ c.args.first + length c.args.bytes.now - 1 = omega (arith, c.in-Some.ensures.1, c.requires) in
    rw last at (rw c.in_ok-numbered.was at c.numbered.ensures).0

-- each number from the first on that has a byte is one of a rule
room : (c : After-copy_from_slice) → c.args.first + length c.args.bytes.now ≤ c.args.k ^ (c.args.k ^ c.args.m)
room c = numbers_fault-room c.args.k c.args.m c.args.first (length c.args.bytes.now) c.requires (none c)

-- the rule of the first number
first_rule : (c : After-copy_from_slice) → c.in_ok-rule.rule ≡ numbered_rule c.args.k c.args.m c.args.first
first_rule c = (rw c.in_ok-rule.was at c.numbered-2.ensures).1

-- the number of the first rule
number : (c : After-copy_from_slice) → value c.args.k (reverse c.copy_from_slice.new.self) ≡ c.args.first
number c =
    value-numbered c.args.k c.args.m c.args.first c.in_ok-rule.rule c.copy_from_slice.new.self (omega (arith, room c, c.requires)) (first_rule c) (c.copy_from_slice.ensures.after ∙ c.table-2.ensures.table)

pub write_bytes-requires-clause-room : goal.write_bytes-requires-clause-room
write_bytes-requires-clause-room c =
    let d : After-copy_from_slice = (goal.at.write_bytes-requires-clause-room c).After-copy_from_slice in
    let long : length c.copy_from_slice.new.self ≡ c.args.k ^ c.args.m =
    length-numbered c.args.k c.args.m c.args.first c.in_ok-rule.rule c.copy_from_slice.new.self (first_rule d) (c.copy_from_slice.ensures.after ∙ c.table-2.ensures.table) in
    omega (arith, number d, room d, ap (λ n. c.args.k ^ n) long)

pub returns : goal.returns
returns c =
    let d : After-copy_from_slice = (goal.at.returns c).After-copy_from_slice in
    (none d, rw (number d) at c.write_bytes.ensures)
