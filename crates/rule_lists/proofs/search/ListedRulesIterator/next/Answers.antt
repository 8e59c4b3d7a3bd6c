use Rattle.std.proofs.Common.{arith}
use Rattle.rule_lists.proofs.laws.Searches.{ranks_left-less}
use Rattle.rule_lists.proofs.search.ListedRulesIterator.next.Goals as goal

pub returns-clause-goes : goal.returns-clause-goes
returns-clause-goes c = grind (arith, ranks_left-less)
