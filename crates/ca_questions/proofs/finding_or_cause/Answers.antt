use Rattle.ca_questions.proofs.Fits.{IsFinding-fit}
use Rattle.ca_questions.proofs.finding_or_cause.Goals as goal

pub returns : goal.returns
returns c q f u = IsFinding-fit
