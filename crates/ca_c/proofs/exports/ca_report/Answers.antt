use Rattle.c_structs.specs.Reports.{IsReportCall}
use Rattle.ca_c.proofs.exports.ca_report.Goals as goal

pub returns-in-Err : goal.returns-in-Err
returns-in-Err c = IsReportCall.Memory
