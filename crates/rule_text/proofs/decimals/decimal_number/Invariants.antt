use Rattle.std.proofs.Common.{◌^◌, ◌<◌, take, SomeIff}
use Rattle.rule_text.specs.RuleTexts.{decimal_value}
use Rattle.rule_text.proofs.decimals.decimal_number.Given as goal

-- the number of the digits so far
abbrev pub invariant-loop-byte : goal.invariant-loop-byte
invariant-loop-byte l =
    let first = take l.byte-index l.digits in
    SomeIff l.number (decimal_value first < 2 ^ 128) (decimal_value first)
