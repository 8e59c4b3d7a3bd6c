use Rattle.welch_index.proofs.Firsts.{IsFewestLast-first}
use Rattle.welch_index.proofs.Multipliers.{multipliers-fewest}
use Rattle.welch_index.proofs.theorems.multipliers_and_degree.Goals as goal

pub returns : goal.returns
returns _ r f b nodes others u v rule onto lasts firsts = multipliers-fewest u v rule onto lasts (IsFewestLast-first rule firsts).1
