use Rattle.std.proofs.Common.{◌≡◌, ℕ, ◌<◌}
use Rattle.cert_check.proofs.laws.RingWindows.{window_letter}
use Rattle.cert_check.proofs.twins.have_one_image.Given as goal

-- the rule gives one letter at each place so far
abbrev pub invariant-loop-place : goal.invariant-loop-place
invariant-loop-place l = (i : ℕ) → i < l.place → window_letter l.rule l.x i ≡ window_letter l.rule l.y i
