use Rattle.std.proofs.Common.{◌≡◌, ℕ, ◌*◌, ◌<◌, length, count_by, ◌==◌}
use Rattle.eden_law.proofs.even.is_even.Given as goal

-- the letters so far stand equally often
abbrev pub invariant-loop-letter : goal.invariant-loop-letter
invariant-loop-letter l = (a : ℕ) → a < l.letter → l.k * count_by (λ b. b == a) l.table ≡ length l.table
