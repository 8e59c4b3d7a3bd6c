use Rattle.garden_laws.proofs.MeanTables.{HasMean-even}
use Rattle.garden_laws.proofs.tables.even_has_mean.Goals as goal

pub returns : goal.returns
returns c r rule = HasMean-even rule
