use Rattle.rule_lists.proofs.Flows.{GainsWith-conserving}
use Rattle.rule_lists.proofs.theorems.levels_give_letters_of_conserving.Goals as goal

pub returns : goal.returns
returns c r s letters trees levels w rule known h keep within one = GainsWith-conserving r s letters trees levels w rule known h keep within one
