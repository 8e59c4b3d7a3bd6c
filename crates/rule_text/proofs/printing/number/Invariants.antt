use Rattle.std.proofs.Common.{◌≡◌, drop, reverse}
use Rattle.word_image.proofs.Common.{value}
use Rattle.rule_text.proofs.printing.number.Given as goal

-- the number whose digits are the letters from here on, the last one the most significant
abbrev pub invariant-loop-value : goal.invariant-loop-value
invariant-loop-value l = l.number ≡ value l.rule.states (reverse (drop l.value l.rule.table))
