use Rattle.serde_json.specs.View.{view}
use Rattle.cert_format.specs.Readings.{members_in}
use Rattle.cert_values.specs.ShapeFaults.IsShapeFault.{NoVersion, OtherVersion}
use Rattle.cert_format.proofs.reading.read_version.Goals as goal

pub returns-in_default-clause-fault : goal.returns-in_default-clause-fault
returns-in_default-clause-fault c bytes json = NoVersion (members_in (view c.args.value.now)) json c.in_default.ensures.none

pub returns-in-None-clause-fault : goal.returns-in-None-clause-fault
returns-in-None-clause-fault c bytes json = OtherVersion (members_in (view c.args.value.now)) c.in-Some.number json c.in-Some.ensures.some c.in-None.ensures.none
