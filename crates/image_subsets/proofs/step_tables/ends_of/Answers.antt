use Rattle.std.proofs.Common.{rules}
use Rattle.image_subsets.proofs.step_tables.ends_of.Goals as goal

pub loop-a-preserved : goal.loop-a-preserved
loop-a-preserved c = search rules
