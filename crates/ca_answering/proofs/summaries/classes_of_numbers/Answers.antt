use Rattle.std.proofs.Common.{◌≡◌, ◌+◌, ◌^◌, ◌≤◌, length, reverse, ap, ◌∙◌, arith}
use Rattle.word_image.proofs.Common.{value}
use Rattle.rule_verdicts.proofs.laws.Numbers.{numbers_fault-room}
use Rattle.rule_verdicts.proofs.laws.Tables.{length-numbered, value-numbered}
use Rattle.ca_answering.proofs.summaries.classes_of_numbers.Goals.{After-copy_from_slice}
use Rattle.ca_answering.proofs.summaries.classes_of_numbers.Goals as goal

-- each number has a table
room : (c : After-copy_from_slice) → c.args.first + c.args.count ≤ c.args.k ^ (c.args.k ^ c.args.m)
room c = numbers_fault-room c.args.k c.args.m c.args.first c.args.count c.requires.some c.requires.accepted

-- the table is that of the first one
number : (c : After-copy_from_slice) → value c.args.k (reverse c.copy_from_slice.new.self) ≡ c.args.first
number c =
    value-numbered c.args.k c.args.m c.args.first c.first_rule-rule.result c.copy_from_slice.new.self (omega (arith, room c, c.requires.some)) c.first_rule-rule.ensures (c.copy_from_slice.ensures.after ∙ c.table-2.ensures.table)

pub classes_from-requires-clause-room : goal.classes_from-requires-clause-room
classes_from-requires-clause-room c =
    let d : After-copy_from_slice = (goal.at.classes_from-requires-clause-room c).After-copy_from_slice in
    let long : length c.copy_from_slice.new.self ≡ c.args.k ^ c.args.m =
    length-numbered c.args.k c.args.m c.args.first c.first_rule-rule.result c.copy_from_slice.new.self c.first_rule-rule.ensures (c.copy_from_slice.ensures.after ∙ c.table-2.ensures.table) in
    omega (arith, number d, room d, ap (λ n. c.args.k ^ n) long)

pub returns : goal.returns
returns c =
    let d : After-copy_from_slice = (goal.at.returns c).After-copy_from_slice in
    rw (number d) at c.classes_from.ensures
