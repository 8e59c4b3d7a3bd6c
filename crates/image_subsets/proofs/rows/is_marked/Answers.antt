use Rattle.std.proofs.Common.{◌%◌, slice_index}
use Rattle.pair_laws.proofs.Common.{IsBitSet-test}
use Rattle.image_subsets.proofs.rows.is_marked.Goals as goal

pub returns : goal.returns
returns c = rw (← c.from.ensures) (IsBitSet-test (slice_index c.args.rows.now c.from.result) (c.args.set % 64))
