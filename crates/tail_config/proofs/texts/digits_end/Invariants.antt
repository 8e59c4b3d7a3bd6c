use Rattle.std.proofs.Common.{ℕ, ◌<◌, ◌≤◌, get_or}
use Rattle.word_image.proofs.Common.{IsHexDigit}
use Rattle.tail_config.proofs.texts.digits_end.Given as goal

-- the bytes from the start on have been digits
abbrev pub invariant-loop-place : goal.invariant-loop-place
invariant-loop-place l = (i : ℕ) → l.start ≤ i → i < l.place → IsHexDigit (get_or l.text i 0)
