use Rattle.std.proofs.Common.{◌+◌, ◌*◌, ℕ, ap₂, ◌∙◌}
use Rattle.least_walk.proofs.MarkedRows.{HasPair-add}
use Rattle.least_walk.proofs.marks.Rows.add.Goals as goal

pub returns : goal.returns
returns c r rule at s small =
    let row = ap₂ (λ (m n : ℕ). 16 * m + n) (c.from.ensures ∙ at.parts.mark) (c.from-2.ensures ∙ at.parts.first) in
    rw (← c.self.view_is) (HasPair-add rule c.self.inside.rows c.args.at.pair _ _ c.self.told at.below row at.parts.second s small)
