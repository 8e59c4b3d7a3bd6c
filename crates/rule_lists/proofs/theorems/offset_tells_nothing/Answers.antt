use Rattle.rule_lists.proofs.laws.Offsets.{Has-at_offset}
use Rattle.rule_lists.proofs.theorems.offset_tells_nothing.Goals as goal

pub returns : goal.returns
returns c property r o rule moved = Has-at_offset property r o rule moved
