use Rattle.answer_laws.proofs.Certified.{certified_accepted}
use Rattle.answer_laws.proofs.statuses.certified_is_accepted.Goals as goal

pub returns : goal.returns
returns c input command version r weights out = certified_accepted
