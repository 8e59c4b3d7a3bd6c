use Rattle.std.proofs.Common.{ℕ, ◌<◌}
use Rattle.closing_test.specs.EndlessFirsts.{IsEndlessAt}
use Rattle.closing_test.proofs.closes.closes.Given as goal

-- none of the first windows has an endless first pair
abbrev pub invariant-loop-window : goal.invariant-loop-window
invariant-loop-window l = (w : ℕ) → w < l.window → ¬ IsEndlessAt l.side l.endless w
