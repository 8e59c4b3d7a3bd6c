use Rattle.std.proofs.Common.{subst}
use Rattle.ca_commands.specs.Asking.{IsWordFault}
use Rattle.ca_cli.specs.RightAnswers.{IsReply, IsReplyTo}
use Rattle.ca_cli.proofs.replies.given_up.Goals as goal

pub returns-in-Usage : goal.returns-in-Usage
returns-in-Usage c words input why = IsReplyTo.Usage (subst (IsWordFault words) c.in-Usage.is why)

pub returns-in-RuleFault : goal.returns-in-RuleFault
returns-in-RuleFault c words input why = let (d, is, fault) = subst (IsWordFault words) c.in-RuleFault.is why in IsReplyTo.Right d _ is (IsReply.RuleFault d _ _ fault)

pub returns-in-Tail : goal.returns-in-Tail
returns-in-Tail c words input why =
    let (q, ask, unfits) = subst (IsWordFault words) c.in-Tail.is why in IsReplyTo.Right ask.command _ ask.is (IsReply.NotFit ask.command q _ ask.asked unfits)
