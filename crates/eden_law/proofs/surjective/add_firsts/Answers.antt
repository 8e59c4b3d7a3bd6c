use Rattle.std.proofs.Common.{ℕ, ◌-◌, ◌*◌, ◌%◌, ◌^◌, ◌<◌, bit_and, ◌∙◌, arith}
use Rattle.word_image.proofs.Common.{and_le_l, LocalRule, IsRule}
use Rattle.eden_law.proofs.ReachedRows.{AreAdded-step, LeadsApart-set}
use Rattle.eden_law.proofs.surjective.add_firsts.Goals as goal

pub loop-a-preserved : goal.loop-a-preserved
loop-a-preserved c =
    let r : LocalRule = c.args.graph.now in
    let rule : IsRule r = c.k-a-end.ensures.rule in
    let ha : c.loop-a.a < r.states = omega (arith, c.loop-a-test.true, c.k-a-end.ensures.states) in
    let ends : ℕ = c.ends.result in
    let to : ℕ = c.next-next.result in
    let rest : ℕ = 65535 - 1 * 2 ^ to % 2 ^ 16 in
    AreAdded-step rule c.from.result (bit_and ends rest) c.loop-a.invariant (c.from.ensures ∙ c.next-next.ensures.node) (omega (arith, and_le_l ends rest, c.ends.ensures.within))
    (LeadsApart-set rule c.args.node c.loop-a.a c.label.result to ends ha c.label.ensures.label c.next-next.ensures.node c.ends.ensures)
