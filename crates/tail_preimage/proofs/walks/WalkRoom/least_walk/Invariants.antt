use Rattle.std.proofs.Common.{◌≡◌, vec_capacity}
use Rattle.tail_preimage.proofs.laws.LeastWalks.{IsLeastBegun}
use Rattle.tail_preimage.proofs.walks.WalkRoom.least_walk.Given as goal

-- the walk so far begins the first one
abbrev pub invariant-loop-n : goal.invariant-loop-n
invariant-loop-n l = record { begun : IsLeastBegun l.graph l.word l.start l.goal l.n l.node l.walk.items; capacity : vec_capacity l.walk ≡ vec_capacity l.fn.walk }
