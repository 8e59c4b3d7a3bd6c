use Rattle.std.proofs.Common.{arith}
use Rattle.answer_laws.proofs.faults_are_seen.Goals as goal

pub returns : goal.returns
returns c before now rose same = omega (arith, rose.higher, rose.fits, same)
