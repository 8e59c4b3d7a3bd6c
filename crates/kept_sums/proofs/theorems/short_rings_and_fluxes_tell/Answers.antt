use Rattle.kept_sums.proofs.laws.Flows.{IsFluxOf-short_rings, IsKept-flux, IsKept-short_rings}
use Rattle.kept_sums.proofs.laws.Windows.{IsFluxOf-one}
use Rattle.kept_sums.proofs.theorems.short_rings_and_fluxes_tell.Goals as goal

pub returns-clause-short : goal.returns-clause-short
returns-clause-short c = λ r range weight rule some keep. IsKept-short_rings rule range weight some keep

pub returns-clause-flux : goal.returns-clause-flux
returns-clause-flux c = λ r range weight rule some kept. IsFluxOf-short_rings rule range weight some (λ p ring _. kept p ring)

pub returns-clause-kept : goal.returns-clause-kept
returns-clause-kept c = λ r range weight phi rule some flux. IsKept-flux rule range weight phi some flux

pub returns-clause-one : goal.returns-clause-one
returns-clause-one c = λ r range weight phi psi rule some one other v l. IsFluxOf-one rule some one other v l
