use Rattle.std.proofs.Common.{arith}
use Rattle.rule_algebra.proofs.laws.Compositions.{IsComposed-composed, ComposesCells-composed}
use Rattle.rule_algebra.proofs.compositions.compose.Goals as goal

pub returns-clause-composed : goal.returns-clause-composed
returns-clause-composed c = grind (arith, IsComposed-composed)

pub returns-clause-cells : goal.returns-clause-cells
returns-clause-cells c = grind (arith, ComposesCells-composed)
