use Rattle.std.proofs.Common.{◌≤◌, take, All}
use Rattle.rule_text.specs.RuleTexts.{IsDigit}
use Rattle.rule_text.proofs.digits.decimal_stop.Given as goal

-- the bytes so far are digits
abbrev pub invariant-loop-place : goal.invariant-loop-place
invariant-loop-place l = record { digits : All IsDigit (take l.place l.digits); few : l.place ≤ 39 }
