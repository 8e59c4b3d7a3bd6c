use Rattle.std.proofs.Common.{◌≡◌, ◌+◌, ◌-◌, take}
use Rattle.word_image.proofs.Common.{word_of}
use Rattle.inverse_table.proofs.tables.word_at.Given as goal

abbrev pub invariant-loop-place : goal.invariant-loop-place
invariant-loop-place l = l.letters.items ≡ take l.place (word_of l.rule.states (l.n + (l.rule.width - 1)) l.value)
