use Rattle.std.proofs.Common.{ℤ, w8, sym, subst, ◌∙◌}
use Rattle.std.proofs.lemmas.Int.{to_z-of_z}
use Rattle.c_structs.specs.MovedConfigs.{AreMoved, IsMovedCall}
use Rattle.c_structs.proofs.moved.write_moved.Goals as goal

pub returns-in-Some : goal.returns-in-Some
returns-in-Some c =
    let by = sym (to_z-of_z w8 c.args.by c.ranges.by) ∙ c.in-Some.ensures.by in
    IsMovedCall.Found c.in-Some.place c.of.result c.keeps_limits.ensures c.in-Some.ensures.place by (subst (λ (s : ℤ). AreMoved c.args.rule.now s c.of.result) (sym by) c.of.ensures)

pub returns-in-None : goal.returns-in-None
returns-in-None c =
    IsMovedCall.NoPlace c.keeps_limits.ensures (λ p l by. c.in-None.ensures.none p l (to_z-of_z w8 c.args.by c.ranges.by ∙ by))
