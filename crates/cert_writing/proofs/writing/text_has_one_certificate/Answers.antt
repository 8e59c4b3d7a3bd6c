use Rattle.cert_values.proofs.laws.Uniqueness.{IsCertificateText-unique}
use Rattle.cert_writing.proofs.writing.text_has_one_certificate.Goals as goal

pub returns : goal.returns
returns c bytes a b = IsCertificateText-unique
