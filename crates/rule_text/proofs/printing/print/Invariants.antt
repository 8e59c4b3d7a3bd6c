use Rattle.std.proofs.Common.{◌≡◌, ◌++◌, map, take, codes, decimal}
use Rattle.word_image.proofs.Common.{lower_digit}
use Rattle.rule_text.specs.PrintedRules.{head, offset_text}
use Rattle.rule_text.proofs.printing.print.Given as goal

-- the head of the text and the letters so far
abbrev pub invariant-loop-value : goal.invariant-loop-value
invariant-loop-value l =
    l.text.items ≡ head (decimal l.rule.states) (decimal l.rule.width) (offset_text l.rule.offset) (codes "t") ++ map lower_digit (take l.value l.rule.table)
