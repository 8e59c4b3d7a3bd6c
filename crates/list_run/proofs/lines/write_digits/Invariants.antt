use Rattle.std.proofs.Common.{◌≡◌, ◌^◌, length, take, map}
use Rattle.word_image.proofs.Common.{lower_digit}
use Rattle.list_run.proofs.lines.write_digits.Given as goal

-- the digits so far
abbrev pub invariant-loop-window : goal.invariant-loop-window
invariant-loop-window l = record {
  long : length l.digits ≡ l.rule.states ^ l.rule.width;
  digits : take l.window l.digits ≡ map lower_digit (take l.window l.rule.table);
}
