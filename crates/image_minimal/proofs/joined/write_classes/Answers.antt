use Rattle.image_minimal.proofs.Common.{ap, arith, length, length-range_with_len, range-more}
use Rattle.image_minimal.proofs.joined.write_classes.Goals as goal

pub push_reserved-requires : goal.push_reserved-requires
push_reserved-requires c = omega (arith, ap length c.loop-number.invariant.numbers, length-range_with_len 0 c.loop-number.number, c.loop-number.invariant.capacity, c.requires)

pub loop-number-preserved : goal.loop-number-preserved
loop-number-preserved c = grind (arith, range-more)
