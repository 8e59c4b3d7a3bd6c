use Rattle.c_structs.specs.Degrees.{SaysDegree}
use Rattle.c_structs.proofs.rule_degrees.degree_or_zeros.Goals as goal

pub returns-in-Some : goal.returns-in-Some
returns-in-Some c = SaysDegree.Degree _ _ _ c.in-Some.ensures.0 c.in-Some.ensures.1

pub returns-in-None : goal.returns-in-None
returns-in-None c = SaysDegree.NoDegree c.in-None.ensures
