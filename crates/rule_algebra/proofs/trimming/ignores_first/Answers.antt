use Rattle.std.proofs.Common.{arith}
use Rattle.rule_algebra.proofs.laws.Trimming.{SameRows, Ignores-same_rows, same_rows-Ignores}
use Rattle.rule_algebra.proofs.trimming.ignores_first.Goals as goal

pub returns-then-at-clause-ignores : goal.returns-then-at-clause-ignores
returns-then-at-clause-ignores c = grind (arith, same_rows-Ignores)

pub returns-clause-ignores : goal.returns-clause-ignores
returns-clause-ignores c = grind (arith, Ignores-same_rows, SameRows)
