use Rattle.std.proofs.Common.{arith}
use Rattle.std.proofs.lemmas.Grind.{common_steps}
use Rattle.ca_text.proofs.output.Output.push_head.Goals as goal

pub returns-in_err-push_offset-clause-appended : goal.returns-in_err-push_offset-clause-appended
returns-in_err-push_offset-clause-appended c = grind (arith, common_steps)

pub returns-clause-appended : goal.returns-clause-appended
returns-clause-appended c = grind (arith, common_steps)
