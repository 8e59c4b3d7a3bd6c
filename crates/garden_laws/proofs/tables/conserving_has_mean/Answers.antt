use Rattle.garden_laws.proofs.MeanTables.{HasMean-conserving, keeps-zeros, keeps-greatest}
use Rattle.garden_laws.proofs.tables.conserving_has_mean.Goals as goal

pub returns-clause-mean : goal.returns-clause-mean
returns-clause-mean c r rule = HasMean-conserving rule

pub returns-clause-zeros : goal.returns-clause-zeros
returns-clause-zeros c r rule = keeps-zeros rule

pub returns-clause-greatest : goal.returns-clause-greatest
returns-clause-greatest c r rule = keeps-greatest rule
