use Rattle.welch_index.proofs.Firsts.{IsFewestLast-first}
use Rattle.welch_index.proofs.Turned.{IsDegree-mirrored}
use Rattle.welch_index.proofs.theorems.mirror_exchanges_sides.Goals as goal

pub returns-clause-degree : goal.returns-clause-degree
returns-clause-degree _ r d rule = IsDegree-mirrored rule

pub returns-clause-fewest : goal.returns-clause-fewest
returns-clause-fewest _ r n nodes w rule firsts = IsFewestLast-first rule firsts
