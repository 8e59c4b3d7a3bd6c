use Rattle.std.proofs.Common.{◌≡◌, ◌<◌, ℕ, slice_index, length}
use Rattle.rule_lists.specs.Listed.{IsKnownLetter}
use Rattle.rule_lists.proofs.cuts.known_letters.Given as goal

-- the letters at the first windows stand
abbrev pub invariant-loop-place : goal.invariant-loop-place
invariant-loop-place l = record {
  long : length l.letters ≡ 256;
  stand : (v : ℕ) → v < 256 → IsKnownLetter l.fixed l.order l.entries l.place v (slice_index l.letters v);
}
