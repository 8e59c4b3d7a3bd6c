use Rattle.std.proofs.Common.{arith}
use Rattle.std.proofs.lemmas.Grind.{common_steps}
use Rattle.ca_text.proofs.preimages.write_placed.Goals as goal

pub returns-in_err-push_offset-clause-appended : goal.returns-in_err-push_offset-clause-appended
returns-in_err-push_offset-clause-appended c = grind (arith, common_steps)

pub returns-in_err-push-2-clause-appended : goal.returns-in_err-push-2-clause-appended
returns-in_err-push-2-clause-appended c = grind (arith, common_steps)

pub returns-in_err-push_parts-clause-appended : goal.returns-in_err-push_parts-clause-appended
returns-in_err-push_parts-clause-appended c = grind (arith, common_steps)

pub returns-in_err-push_parts-clause-few : goal.returns-in_err-push_parts-clause-few
returns-in_err-push_parts-clause-few c = grind (arith, common_steps)

pub returns-clause-appended : goal.returns-clause-appended
returns-clause-appended c = grind (arith, common_steps)

pub returns-clause-few : goal.returns-clause-few
returns-clause-few c = grind (arith, common_steps)
