use Rattle.garden_laws.proofs.MeanTables.{HasMean-conserving}
use Rattle.flux_conserve.proofs.means.has_mean.Goals as goal

pub returns-clause-mean : goal.returns-clause-mean
returns-clause-mean c = rw c.letter_sum.ensures at c.is_mean.ensures

pub returns-clause-conserving : goal.returns-clause-conserving
returns-clause-conserving c r rule states table keep = (returns-clause-mean c).1 (rw (states, table) at (HasMean-conserving rule keep))
