use Rattle.ca_cli.proofs.laws.Fitting.{IsReplyTo-fits}
use Rattle.ca_cli.proofs.theorems.right_replies_fit.Goals as goal

pub returns : goal.returns
returns c words input reply = IsReplyTo-fits c.few_classes.ensures
