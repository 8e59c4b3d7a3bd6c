use Rattle.std.proofs.Common.{◌≡◌, vec_capacity}
use Rattle.tail_preimage.specs.FirstWalks.{AreOpen}
use Rattle.tail_preimage.proofs.walks.write_open_sets.Given as goal

-- the sets so far
abbrev pub invariant-loop-n : goal.invariant-loop-n
invariant-loop-n l = record { sets : AreOpen l.graph l.word l.goal l.n l.sets.items; capacity : vec_capacity l.sets ≡ vec_capacity l.fn.sets }
