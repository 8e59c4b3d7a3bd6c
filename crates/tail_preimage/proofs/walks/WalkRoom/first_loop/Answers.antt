use Rattle.std.proofs.Common.{arith}
use Rattle.std.proofs.Math.Pow.{pow-lt}
use Rattle.word_image.proofs.Common.{one_shl}
use Rattle.tail_preimage.proofs.laws.Stretches.{IsWord-repeat}
use Rattle.tail_preimage.proofs.walks.WalkRoom.first_loop.Goals as goal

pub least_walk-end-requires-clause-word : goal.least_walk-end-requires-clause-word
least_walk-end-requires-clause-word c = rw c.set_copies.ensures (IsWord-repeat c.args.part.now c.requires.word c.args.n)

pub least_walk-end-requires-clause-goal : goal.least_walk-end-requires-clause-goal
least_walk-end-requires-clause-goal c = rw (one_shl c.args.node 16 (omega arith)) (pow-lt c.requires.node)
