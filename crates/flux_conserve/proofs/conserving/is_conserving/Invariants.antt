use Rattle.std.proofs.Common.{ℕ, ◌<◌, slice_index}
use Rattle.ring_laws.proofs.FluxWalks.{walk_gains}
use Rattle.ring_laws.proofs.FluxWindows.{FlowsAt}
use Rattle.flux_conserve.proofs.conserving.is_conserving.Given as goal

-- each window so far gains the difference of the walks from its two nodes
abbrev pub invariant-loop-window : goal.invariant-loop-window
invariant-loop-window l = (v : ℕ) → v < l.window → FlowsAt (slice_index l.weights) l.rule (walk_gains (slice_index l.weights) l.rule) v
