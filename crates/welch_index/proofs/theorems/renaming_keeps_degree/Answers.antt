use Rattle.welch_index.proofs.Renamed.{degree-renamed, last-renamed, first-renamed}
use Rattle.welch_index.proofs.theorems.renaming_keeps_degree.Goals as goal

pub returns-clause-degree : goal.returns-clause-degree
returns-clause-degree _ = degree-renamed

pub returns-clause-last : goal.returns-clause-last
returns-clause-last _ = last-renamed

pub returns-clause-first : goal.returns-clause-first
returns-clause-first _ = first-renamed
