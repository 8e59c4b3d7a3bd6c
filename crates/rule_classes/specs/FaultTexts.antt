-- How the program prints why a rule has no second-order lift, which would be a rule on pairs of letters: one word for
-- each reason.
use Rattle.std.specs.Prelude.{ℕ, List, codes}
use Rattle.rule_classes.specs.declared.lifts.LiftFault.{LiftFault}
use Rattle.rule_classes.specs.declared.lifts.LiftFault.TheVariants as lift

-- the word for the reason why a rule has no lift
abbrev pub lift_text : LiftFault → List ℕ
lift_text lift.States = codes "states"
lift_text lift.Nodes = codes "nodes"
lift_text lift.Centre = codes "centre"
