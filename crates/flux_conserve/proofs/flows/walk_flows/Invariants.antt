use Rattle.std.proofs.Common.{◌≡◌, slice_index, ◌-◌, ◌++◌, map, replicate, pos}
use Rattle.word_image.proofs.Common.{range_with_len}
use Rattle.ring_laws.proofs.FluxWalks.{walk_gain}
use Rattle.flux_conserve.proofs.flows.walk_flows.Given as goal

-- the gains of the nodes so far, and zeros
abbrev pub invariant-loop-node : goal.invariant-loop-node
invariant-loop-node l = l.flows ≡ map (walk_gain (slice_index l.weights) l.rule) (range_with_len 0 l.node) ++ replicate (16 - l.node) (pos 0)
