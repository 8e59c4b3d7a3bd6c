use Rattle.serde_json.specs.View.{view}
use Rattle.cert_format.specs.Readings.{members_in}
use Rattle.cert_values.specs.ShapeFaults.IsShapeFault.{NoRule, BadRule}
use Rattle.cert_format.proofs.reading.read_head.Goals as goal

pub returns-in_default-clause-fault : goal.returns-in_default-clause-fault
returns-in_default-clause-fault c bytes json = NoRule (members_in (view c.args.value.now)) c.in_ok-version.version json c.in_ok-version.ensures.version c.in_default.ensures.none

pub returns-in-Err-clause-fault : goal.returns-in-Err-clause-fault
returns-in-Err-clause-fault c bytes json =
    BadRule (members_in (view c.args.value.now)) c.in_ok-version.version c.in-Some.text.now json c.in_ok-version.ensures.version c.in-Some.ensures.some c.in-Err.fault
    (rw c.as_bytes.ensures.value at c.in-Err.ensures.fault)
