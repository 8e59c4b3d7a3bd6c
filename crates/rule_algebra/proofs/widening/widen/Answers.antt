use Rattle.std.proofs.Common.{arith}
use Rattle.rule_algebra.proofs.laws.Widening.{KeepsImages-widened}
use Rattle.rule_algebra.proofs.widening.widen.Goals as goal

pub returns-clause-widened : goal.returns-clause-widened
returns-clause-widened c = grind (arith, KeepsImages-widened)
