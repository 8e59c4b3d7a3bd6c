use Rattle.std.proofs.Common.{◌≡◌, ◌<◌, ℕ, slice_index}
use Rattle.rule_lists.proofs.tables.has_letters.Given as goal

-- the windows so far have their letters
abbrev pub invariant-loop-window : goal.invariant-loop-window
invariant-loop-window l = (v : ℕ) → v < l.window → slice_index l.fixed v < l.k → slice_index l.entries v ≡ slice_index l.fixed v
