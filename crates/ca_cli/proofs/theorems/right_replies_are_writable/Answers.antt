use Rattle.ca_cli.proofs.laws.Writable.{IsReplyTo-writable}
use Rattle.ca_cli.proofs.theorems.right_replies_are_writable.Goals as goal

pub returns : goal.returns
returns c words input reply = IsReplyTo-writable (c.right_findings_are_writable.ensures.finding, c.right_findings_are_writable.ensures.cause)
