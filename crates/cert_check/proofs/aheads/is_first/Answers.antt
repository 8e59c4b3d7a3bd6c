use Rattle.std.proofs.Common.{arith}
use Rattle.cert_check.proofs.laws.FirstPairs.{IsFirstOf-differ}
use Rattle.cert_check.proofs.aheads.is_first.Goals as goal
use Rattle.cert_check.proofs.aheads.is_first.Goals.{then-u-v-via-then-u-v, then-u-v-via-else-u-v+then-rest_of}

pub returns-then-u-v : goal.returns-then-u-v
returns-then-u-v c = grind (arith, IsFirstOf-differ)

pub returns : goal.returns
returns c = grind (arith, IsFirstOf-differ)
