use Rattle.welch_index.proofs.Offsets.{IsDegree-moved, IsFewestLast-moved, IsFewestFirst-moved, AreDegreeAndMultipliers-moved}
use Rattle.welch_index.proofs.theorems.offset_keeps_degree.Goals as goal

pub returns-clause-degree : goal.returns-clause-degree
returns-clause-degree _ = IsDegree-moved

pub returns-clause-last : goal.returns-clause-last
returns-clause-last _ = IsFewestLast-moved

pub returns-clause-first : goal.returns-clause-first
returns-clause-first _ = IsFewestFirst-moved

pub returns-clause-multipliers : goal.returns-clause-multipliers
returns-clause-multipliers _ = AreDegreeAndMultipliers-moved
