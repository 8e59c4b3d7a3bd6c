use Rattle.cert_values.specs.declared.cert_version.CertVersion.TheVariants.{Two, Three}
use Rattle.cert_conditions.proofs.laws.Versions.{MeetsConditions-later}
use Rattle.cert_conditions.proofs.theorems.later_versions_ask_no_more.Goals as goal

pub returns-clause-two : goal.returns-clause-two
returns-clause-two c = MeetsConditions-later Two (λ sets set part. part)

pub returns-clause-three : goal.returns-clause-three
returns-clause-three c = MeetsConditions-later Three (λ sets set part. part)
