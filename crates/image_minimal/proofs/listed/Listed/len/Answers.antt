use Rattle.image_minimal.proofs.Common.{arith}
use Rattle.image_minimal.proofs.Indexes.{length-listed-le}
use Rattle.image_minimal.proofs.listed.Listed.len.Goals as goal

pub overflow_cast-result : goal.overflow_cast-result
overflow_cast-result c = omega (arith, length-listed-le c.self.invariant.0, c.len.ensures)

pub returns-clause-most : goal.returns-clause-most
returns-clause-most c = omega (arith, length-listed-le c.self.invariant.0, c.len.ensures)
