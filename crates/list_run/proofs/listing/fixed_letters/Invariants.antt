use Rattle.std.proofs.Common.{◌≡◌, ◌<◌, ◌≤◌, ℕ, length, slice_index}
use Rattle.list_run.proofs.listing.fixed_letters.Given as goal

-- the letters so far
abbrev pub invariant-loop-window : goal.invariant-loop-window
invariant-loop-window l = record {
  long : length l.letters ≡ 256;
  given : (v : ℕ) → v < l.window → slice_index l.letters v ≡ slice_index l.beginning.rule.table v;
  open_ : (v : ℕ) → l.window ≤ v → v < 256 → slice_index l.letters v ≡ 255;
}
