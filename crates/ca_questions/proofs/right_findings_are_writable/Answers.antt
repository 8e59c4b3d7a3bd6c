use Rattle.ca_questions.proofs.Writable.{IsWritable-right, IsWritableCause-right}
use Rattle.ca_questions.proofs.right_findings_are_writable.Goals as goal

pub returns-clause-finding : goal.returns-clause-finding
returns-clause-finding c q f = IsWritable-right

pub returns-clause-cause : goal.returns-clause-cause
returns-clause-cause c q u = IsWritableCause-right
