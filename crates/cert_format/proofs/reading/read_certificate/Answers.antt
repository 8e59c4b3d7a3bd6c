use Rattle.serde_json.specs.View.{view}
use Rattle.cert_format.specs.Readings.{members_in}
use Rattle.cert_format.proofs.laws.Steps.{IsCertFault-parts}
use Rattle.cert_format.proofs.reading.read_certificate.Goals as goal

pub returns-clause-fault : goal.returns-clause-fault
returns-clause-fault c = IsCertFault-parts c.args.bytes.now (members_in (view c.in_ok-value.value)) c.in-Ok.head.0 c.in-Ok.head.1 c.read_parts.result c.in_ok-value.ensures.object c.in-Ok.ensures.version c.in-Ok.ensures.rule c.read_parts.ensures.fault
