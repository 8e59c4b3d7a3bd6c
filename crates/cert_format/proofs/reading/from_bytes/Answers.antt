use Rattle.cert_format.proofs.laws.Answers.{every_cert, every_cert_fault}
use Rattle.cert_format.proofs.reading.from_bytes.Goals as goal

pub returns-clause-every_cert : goal.returns-clause-every_cert
returns-clause-every_cert c = every_cert c.args.bytes.now c.read_certificate.result c.read_certificate.ensures.cert c.read_certificate.ensures.fault

pub returns-clause-every_fault : goal.returns-clause-every_fault
returns-clause-every_fault c = every_cert_fault c.args.bytes.now c.read_certificate.result c.read_certificate.ensures.cert c.read_certificate.ensures.fault
