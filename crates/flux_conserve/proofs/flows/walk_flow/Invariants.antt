use Rattle.std.proofs.Common.{◌≡◌, slice_index, ◌-◌, ◌*◌, ◌<◌, pos, ◌+ℤ◌, ◌-ℤ◌, ◌≤ℤ◌}
use Rattle.word_image.proofs.Common.{node_count}
use Rattle.ring_laws.proofs.FluxWalks.{walk_gain}
use Rattle.ring_laws.proofs.FluxWindows.{walk_sum}
use Rattle.flux_conserve.proofs.flows.walk_flow.Given as goal

-- what is gained so far, and what the rest of the walk gains, is the whole
abbrev pub invariant-loop : goal.invariant-loop
invariant-loop l = (l.node < node_count l.rule) × ((l.flow +ℤ walk_sum (slice_index l.weights) l.rule l.node (l.rule.width - l.counter)) ≡ walk_gain (slice_index l.weights) l.rule l.fn.node)
    × ((pos 0 -ℤ pos (255 * l.counter)) ≤ℤ l.flow) × (l.flow ≤ℤ pos (255 * l.counter))
