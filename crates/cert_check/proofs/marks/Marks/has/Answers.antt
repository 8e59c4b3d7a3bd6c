use Rattle.std.proofs.Common.{◌%◌, slice_index}
use Rattle.pair_laws.proofs.Common.{IsBitSet-test}
use Rattle.cert_check.proofs.marks.Marks.has.Goals as goal

pub returns : goal.returns
returns c = rw (← c.from.ensures) (IsBitSet-test (slice_index c.args.self.now.rows c.from.result) (c.args.set % 16))
