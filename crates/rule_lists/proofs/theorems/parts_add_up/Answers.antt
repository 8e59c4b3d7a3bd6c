use Rattle.rule_lists.proofs.laws.Parts.{IsListed-parts, IsListed-one_part}
use Rattle.rule_lists.proofs.theorems.parts_add_up.Goals as goal

pub returns-clause-every : goal.returns-clause-every
returns-clause-every c property k m fixed w r inside room open_ = IsListed-parts property k m fixed w r inside room open_

pub returns-clause-once : goal.returns-clause-once
returns-clause-once c property k m fixed w a b r inside room ha hb first second = IsListed-one_part property k m fixed w a b r inside room ha hb first second
