use Rattle.std.proofs.Common.{refl, arith, w64}
use Rattle.std.proofs.lemmas.Int.{to_z-of_z}
use Rattle.tail_config.proofs.compare.share_run.Goals as goal

pub returns : goal.returns
returns c =
    (λ _ d l. rw (to_z-of_z w64 c.args.start c.ranges.start) at (c.loop-d.invariant d (omega arith)), λ all. refl)
