use Rattle.std.proofs.Common.{◌+◌, ◌*◌, ℕ, ap₂, ◌∙◌}
use Rattle.pair_laws.proofs.Common.{IsBitSet-test}
use Rattle.least_walk.proofs.marks.Rows.has.Goals as goal

pub returns : goal.returns
returns c r at =
    let row = ap₂ (λ (m n : ℕ). 16 * m + n) (c.from.ensures ∙ at.parts.mark) (c.from-2.ensures ∙ at.parts.first) in
    rw (← c.self.view_is, ← row, ← at.parts.second) (IsBitSet-test _ _)
