use Rattle.std.proofs.Common.{◌≡◌, ◌+◌, ◌*◌, ◌<◌, refl, ap, ◌∙◌, subst, arith, slice_get, suc-mul}
use Rattle.word_image.proofs.Common.{slice_get_within, LocalRule, IsBitSet-zero, slice_get-unique}
use Rattle.pair_laws.proofs.Common.{next-digits}
use Rattle.least_walk.specs.Marks.{ArePartsOf}
use Rattle.least_walk.specs.declared.queue.Reached.{Reached}
use Rattle.least_walk.specs.Queues.{step_count}
use Rattle.least_walk.proofs.Walking.{queued-below, IsWalkSearch-skip}
use Rattle.least_walk.proofs.breadth_first.follow_steps.Goals as goal
use Rattle.least_walk.proofs.breadth_first.follow_steps.Goals.{then-letters-ne0+in_default, else-letters-ne0}

pub parts_of-from-requires : goal.parts_of-from-requires
parts_of-from-requires c = queued-below c.requires.search.walking c.args.head c.at-t.result c.at-t.ensures

pub loop-a-init : goal.loop-a-init
loop-a-init c =
    let start : c.args.head * step_count c.args.pairs.now + 0 ≡ c.args.head * step_count c.args.pairs.now = omega arith in
    record { search = rw start c.requires.search; same = refl }

pub follow_letter-requires-clause-head : goal.follow_letter-requires-clause-head
follow_letter-requires-clause-head c = slice_get_within c.loop-a.queue c.args.head c.at-t.result (c.loop-a.invariant.same ∙ c.at-t.ensures)

pub follow_letter-requires-clause-old : goal.follow_letter-requires-clause-old
follow_letter-requires-clause-old c x b q at letter absent step =
    let here = c.loop-a.invariant.same ∙ c.at-t.ensures in
    let same : c.at-t.result ≡ x = slice_get-unique c.loop-a.queue c.args.head c.at-t.result x here at in
    c.fresh-letters.ensures x.pair b q (subst (λ (y : Reached). ArePartsOf c.args.pairs.now c.parts_of-from.result y.pair) same c.parts_of-from.ensures.parts) letter absent step

pub loop-a-preserved : goal.loop-a-preserved
loop-a-preserved c =
    let inv = c.loop-a.invariant in
    let at = inv.same ∙ c.at-t.ensures in
    elim c.if-letters-ne0.branch [
      | then-letters-ne0+in_default w ↦
          record {
            search = rw (w.queue-is, w.rows-is) w.in_default.ensures.none;
            same = ap (λ q. slice_get q c.args.head) w.queue-is ∙ w.in_default.ensures.same ∙ inv.same;
          }
      | else-letters-ne0 w ↦
          let letter : c.loop-a.a < c.args.pairs.now.states = omega (arith, ap (λ (z : LocalRule). z.states) c.rule.ensures) in
          let start : c.loop-a.a * 16 + 0 ≡ c.loop-a.a * 16 = omega arith in
          record {
            search = rw (w.queue-is, w.rows-is)
                (IsWalkSearch-skip c.args.head c.loop-a.a 0 16 _ (rw start inv.search) c.at-t.result at letter (omega arith) (omega arith)
                (λ b q _ _ below leads. c.fresh-letters.ensures c.at-t.result.pair b q c.parts_of-from.ensures.parts below (λ some. IsBitSet-zero b (rw w.if-letters-ne0.false at some)) leads));
            same = ap (λ q. slice_get q c.args.head) w.queue-is ∙ inv.same;
          }
    ]

pub returns-clause-none : goal.returns-clause-none
returns-clause-none c =
    let k = step_count c.args.pairs.now in
    let all : (c.args.head + 1) * k ≡ c.args.head * k + c.loop-a.a * 16 = omega (arith, suc-mul c.args.head k, ap (λ (z : LocalRule). z.states) c.rule.ensures) in
    rw all c.loop-a.invariant.search

-- the letter a leads to the node that is a nodes past the node to which 0 leads
pub fresh-letters-requires-clause-node : goal.fresh-letters-requires-clause-node
fresh-letters-requires-clause-node c =
    let rule = c.parts_of-from.ensures.rule in
    let u = c.parts_of-from.result.first in
    let first = rw c.graph-graph.ensures at c.next-node.ensures.node in
    let letter : c.loop-a.a < c.args.pairs.now.states = omega (arith, ap (λ (z : LocalRule). z.states) c.rule.ensures) in
    omega (arith, first, next-digits rule u 0 (omega (arith, letter)), next-digits rule u c.loop-a.a letter)
