use Rattle.c_structs.specs.Degrees.{IsDegreeCall}
use Rattle.ca_c.proofs.degree_exports.ca_degree.Goals as goal

pub returns-in-Err : goal.returns-in-Err
returns-in-Err c = IsDegreeCall.Memory
