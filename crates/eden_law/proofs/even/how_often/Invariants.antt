use Rattle.std.proofs.Common.{◌≡◌, count_by, take, ◌==◌}
use Rattle.eden_law.proofs.even.how_often.Given as goal

-- how often the letter stands among the letters so far
abbrev pub invariant-loop-a : goal.invariant-loop-a
invariant-loop-a l = l.count ≡ count_by (λ b. b == l.letter) (take l.a-index l.table)
