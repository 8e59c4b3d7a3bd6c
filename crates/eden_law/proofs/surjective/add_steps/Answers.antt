use Rattle.std.proofs.Common.{◌≡◌, ℕ, IsBitSet, ◌∙◌, arith, below_more}
use Rattle.word_image.proofs.Common.{LocalRule, IsRule, next, bit_set_by_shift, next-below}
use Rattle.eden_law.specs.ReachedRows.{LeadsBeside}
use Rattle.eden_law.proofs.ReachedRows.{AreAdded-step, LeadsBeside-set}
use Rattle.eden_law.proofs.surjective.add_steps.Goals as goal

pub returns-then-others-next-eq1-clause-meets : goal.returns-then-others-next-eq1-clause-meets
returns-then-others-next-eq1-clause-meets c wrong =
    let r : LocalRule = c.args.graph.now in
    let a : ℕ = c.loop-a.a in
    let exact = LeadsBeside-set r c.args.node c.args.set a c.label.result c.step-others.result c.label.ensures.label c.step-others.ensures.step in
    let present : IsBitSet c.step-others.result c.next-next.result =
    (bit_set_by_shift c.step-others.result c.next-next.result).0 c.if-others-next-eq1.true in
    let here = (exact (next r c.args.node a) (next-below c.k-a-end.ensures.rule c.args.node a)).0 (rw c.next-next.ensures.node at present) in
    (a, omega (arith, c.loop-a-test.true, c.k-a-end.ensures.states), here)

pub loop-a-preserved : goal.loop-a-preserved
loop-a-preserved c =
    let r : LocalRule = c.args.graph.now in
    let rule : IsRule r = c.k-a-end.ensures.rule in
    let node : ℕ = c.args.node in
    let set : ℕ = c.args.set in
    let others : ℕ = c.step-others.result in
    let to : ℕ = c.next-next.result in
    let at : to ≡ next r node c.loop-a.a = c.next-next.ensures.node in
    let exact = LeadsBeside-set r node set c.loop-a.a c.label.result others c.label.ensures.label c.step-others.ensures.step in
    record {
      added = AreAdded-step rule c.from.result others c.loop-a.invariant.added (c.from.ensures ∙ at) c.step-others.ensures.step.within exact;
      apart = below_more (λ a. ¬ LeadsBeside r node set a (next r node a)) c.loop-a.a c.loop-a.invariant.apart (λ leads.
          let present = (exact (next r node c.loop-a.a) (next-below rule node c.loop-a.a)).1 leads in
          c.if-others-next-eq1.false ((bit_set_by_shift others to).1 (rw at present)));
    }
