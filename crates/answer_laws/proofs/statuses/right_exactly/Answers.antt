use Rattle.answer_laws.proofs.RightAnswers.{right_exactly}
use Rattle.answer_laws.proofs.statuses.right_exactly.Goals as goal

pub returns : goal.returns
returns c words input command s out is = right_exactly is
