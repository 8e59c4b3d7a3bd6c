use Rattle.std.proofs.Common.{arith}
use Rattle.kept_sums.proofs.laws.Ranges.{pow-le-pow, few}
use Rattle.kept_sums.proofs.ranges.check_range.Goals.{then-range-gt4-via-then-range-gt4, then-range-gt4-via-else-range-gt4+then-pow-gt16}
use Rattle.kept_sums.proofs.ranges.check_range.Goals as goal

pub pow-requires : goal.pow-requires
pow-requires c = grind (arith, pow-le-pow)

pub returns-then-range-gt4 : goal.returns-then-range-gt4
returns-then-range-gt4 c = grind (arith, few)
