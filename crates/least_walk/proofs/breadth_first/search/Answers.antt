use Rattle.std.proofs.Common.{◌*◌, inl, refl, ap, ◌∙◌, arith, ⊎_elim, not}
use Rattle.std.proofs.Math.Bool.{not-not}
use Rattle.word_image.proofs.Common.{slice_get_within}
use Rattle.least_walk.specs.Queues.{step_count}
use Rattle.least_walk.proofs.Walking.{IsWalkSearch-start, deeper, goal-tells, near-all}
use Rattle.least_walk.proofs.breadth_first.search.Goals as goal
use Rattle.least_walk.proofs.breadth_first.search.Goals.{then-ne, else-ne}

pub loop-head-init : goal.loop-head-init
loop-head-init c =
    let rule = c.parts_of-parts.ensures.rule in
    let none = c.new-rows.ensures c.args.pairs.now in
    let told = goal-tells c.args.ends.goal c.args.ends.start (not c.ne.result) (ap not c.ne.ensures ∙ not-not _) in
    record {
      search = rw (c.push.ensures, c.clear.ensures) (IsWalkSearch-start rule c.requires _ refl refl c.if-ne.rows (elim c.if-ne.branch [
        | then-ne w ↦ rw w.rows-is (λ t inside.
            let added = rw c.parts_of-parts.ensures.pair at (w.add.ensures c.args.pairs.now rule c.parts_of-parts.ensures.marked t inside) in (
              (λ some. ⊎_elim (λ same. (same, told.1 (ap not w.if-ne.true))) (λ old. absurd (none t old)) (added.0 some)),
              (λ both. added.1 (inl both.0)),
            ))
        | else-ne w ↦ rw w.rows-is (λ t inside. ((λ some. absurd (none t some)), (λ both. absurd (both.1 (told.0 (ap not w.if-ne.false))))))
      ]));
      near = λ i y less at. absurd (omega (arith, less));
    }

pub loop-head-preserved : goal.loop-head-preserved
loop-head-preserved c =
    let search = c.in_default.ensures.none in
    let stands = c.in_default.ensures.same ∙ c.at.ensures in
    record {
      search = search;
      near = λ i y less at. omega (arith, deeper search.walking i c.loop-head.head y c.at.result (omega (arith, less)) at stands, c.from.ensures, c.if-from-most.false);
    }

pub returns-then-from-most-clause-none : goal.returns-then-from-most-clause-none
returns-then-from-most-clause-none c =
    let search = c.loop-head.invariant.search in
    record {
      edges = c.loop-head.head * step_count c.args.pairs.now;
      head = c.loop-head.head;
      followed = omega arith;
      deep = λ i x past at. omega (arith, deeper search.walking c.loop-head.head i c.at.result x past c.at.ensures at, c.from.ensures);
      near = near-all c.loop-head.head search.walking c.loop-head.invariant.near;
      walking = search.walking;
    }

pub returns-clause-none : goal.returns-clause-none
returns-clause-none c =
    record {
      edges = c.loop-head.head * step_count c.args.pairs.now;
      head = c.loop-head.head;
      followed = omega arith;
      deep = λ i x past at. absurd (omega (arith, slice_get_within c.loop-head.queue i x at));
      near = near-all c.loop-head.head c.loop-head.invariant.search.walking c.loop-head.invariant.near;
      walking = c.loop-head.invariant.search.walking;
    }
