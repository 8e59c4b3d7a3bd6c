use Rattle.std.proofs.Common.{◌≡◌, ℕ, ◌<◌, pos, ◌+ℤ◌}
use Rattle.tail_config.specs.Tails.{image_cell}
use Rattle.tail_config.proofs.compare.share_run.Given as goal

-- the image cells from the start on have been equal
abbrev pub invariant-loop-d : goal.invariant-loop-d
invariant-loop-d l = (e : ℕ) → e < l.d → image_cell l.rule l.a.config (l.start +ℤ pos e) ≡ image_cell l.rule l.b.config (l.start +ℤ pos e)
