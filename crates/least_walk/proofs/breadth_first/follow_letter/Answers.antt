use Rattle.std.proofs.Common.{◌≡◌, ℕ, List, Some, ◌+◌, ◌-◌, ◌*◌, ◌<◌, inr, [], ◌∷◌, ◌++◌, refl, sym, ap, ◌∙◌, arith, slice_get}
use Rattle.word_image.proofs.Common.{length_push, LocalRule, slice_get-append}
use Rattle.pair_laws.proofs.Common.{marked-below}
use Rattle.search_laws.proofs.Common.{CodeStep-some}
use Rattle.least_walk.specs.declared.queue.Reached.{Reached}
use Rattle.least_walk.specs.declared.breadth_first.Ends.{Ends}
use Rattle.least_walk.specs.Queues.{IsWalkSearch, IsOldBut, step_count}
use Rattle.least_walk.proofs.Walking.{length-walking-le, IsWalkSearch-skip, IsWalkSearch-new, depth-below, goal-tells}
use Rattle.least_walk.proofs.breadth_first.follow_letter.Goals as goal
use Rattle.least_walk.proofs.breadth_first.follow_letter.Goals.{in-Some+else-eq, in_default}

-- the step on the letters a and b has been followed
record Followed (r : LocalRule) (ends : Ends) (queue : List Reached) (rows : List ℕ) (place a b letters : ℕ) (x : Reached) : Type 0 where
  search : IsWalkSearch r ends queue rows (place * step_count r + (a * 16 + (b + 1)))
  old : IsOldBut r queue rows place a letters
  at : slice_get queue place ≡ Some x

pub loop-b-init : goal.loop-b-init
loop-b-init c =
    let start : c.args.a * 16 + 0 ≡ c.args.a * 16 = omega arith in
    let x = c.at-from.result in
    let at = c.at-from.ensures in
    let first = c.next_letter-b.ensures in
    record {
      search = IsWalkSearch-skip c.args.head.place c.args.a 0 c.next_letter-b.result _ (rw start c.requires.search) x at c.requires.letter (omega (arith, first.most)) (omega arith)
          (λ d q _ less letter leads. c.requires.old x d q at letter (first.none d (omega arith) (omega (arith, less))) leads);
      small = first.most;
      old = c.requires.old;
      same = refl;
    }

pub returns-then-eq-clause-found : goal.returns-then-eq-clause-found
returns-then-eq-clause-found c =
    let search = c.loop-b.invariant.search in
    let x = c.at-from.result in
    let code : 16 * c.args.a + c.loop-b.b ≡ c.args.a * 16 + c.loop-b.b = omega arith in
    let letter : c.loop-b.b < c.args.pairs.now.states = omega (arith, ap (λ (z : LocalRule). z.states) c.rule.ensures) in
    record {
      from = x;
      stands = c.loop-b.invariant.same ∙ c.at-from.ensures;
      letters = omega (arith, search.walking.rule.shape.most_states, letter);
      walking = rw code search.walking;
      goal = c.in-Some.q.pair;
      sought = (goal-tells c.args.ends.goal c.in-Some.q.pair c.eq.result c.eq.ensures).0 c.if-eq.true;
      arrives = rw code (CodeStep-some _ _ 16 x.pair c.args.a c.loop-b.b c.in-Some.q.pair search.walking.rule.shape.most_states c.requires.letter letter (rw (c.requires.at x c.at-from.ensures) c.in-Some.ensures.step));
    }

-- the head fits
pub overflow_cast-reached : goal.overflow_cast-reached
overflow_cast-reached c = omega (arith, length-walking-le c.requires.search.walking)

-- the depth of one step more fits
pub overflow_add-reached : goal.overflow_add-reached
overflow_add-reached c = omega (arith, depth-below c.loop-b.invariant.search.walking c.args.head.place c.at-from.result (c.loop-b.invariant.same ∙ c.at-from.ensures))

pub push-requires : goal.push-requires
push-requires c =
    let x = c.at-from.result in
    let inv = c.loop-b.invariant in
    let letter : c.loop-b.b < c.args.pairs.now.states = omega (arith, ap (λ (z : LocalRule). z.states) c.rule.ensures) in
    let y : Reached = record { pair = c.in-Some.q.pair; parent = c.args.head.place; step = 16 * c.args.a + c.loop-b.b; depth = x.depth + 1 } in
    let longer = IsWalkSearch-new c.args.head.place c.args.a c.loop-b.b inv.search x y
    (inv.same ∙ c.at-from.ensures) c.requires.letter letter refl (omega arith) refl (rw (c.requires.at x c.at-from.ensures) c.in-Some.ensures.step)
    ((goal-tells c.args.ends.goal c.in-Some.q.pair c.eq.result c.eq.ensures).1 c.if-eq.false) c.in-Some.ensures.new c.add.new.self (c.add.ensures c.args.pairs.now inv.search.walking.rule c.in-Some.ensures.marked) in
    omega (arith, length-walking-le longer.walking, length_push c.loop-b.queue y)

pub loop-b-preserved : goal.loop-b-preserved
loop-b-preserved c =
    let x = c.at-from.result in
    let inv = c.loop-b.invariant in
    let old = c.loop-b.queue in
    let letter : c.loop-b.b < c.args.pairs.now.states = omega (arith, ap (λ (z : LocalRule). z.states) c.rule.ensures) in
    let at = inv.same ∙ c.at-from.ensures in
    let here = c.requires.at x c.at-from.ensures in
    let next = c.next_letter-b-in-loop-b.ensures in
    let done : Followed c.args.pairs.now c.args.ends c.match-new_step.queue c.match-new_step.rows c.args.head.place c.args.a c.loop-b.b c.args.letters x =
    elim c.match-new_step.branch [
      | in-Some+else-eq w ↦
          let y : Reached = record { pair = w.in-Some.q.pair; parent = c.args.head.place; step = 16 * c.args.a + c.loop-b.b; depth = x.depth + 1 } in
          let longer : c.match-new_step.queue ≡ old ++ y ∷ [] = w.queue-is ∙ w.push.ensures in
          let stays = slice_get-append old (y ∷ []) c.args.head.place x at in
          let added = w.add.ensures c.args.pairs.now inv.search.walking.rule w.in-Some.ensures.marked in
          record {
            search = rw (longer, w.rows-is)
                (IsWalkSearch-new c.args.head.place c.args.a c.loop-b.b inv.search x y at c.requires.letter letter refl (omega arith) refl (rw here w.in-Some.ensures.step)
                ((goal-tells c.args.ends.goal w.in-Some.q.pair w.eq.result w.eq.ensures).1 w.if-eq.false) w.in-Some.ensures.new w.add.new.self added);
            old = rw (longer, w.rows-is)
                (λ z b q there letter absent leads. (added q (marked-below inv.search.walking.rule z.pair c.args.a b q leads)).1 (inr (inv.old z b q (at ∙ sym stays ∙ there) letter absent leads)));
            at = rw longer stays;
          }
      | in_default w ↦
          record {
            search = rw (w.queue-is, w.rows-is)
                (IsWalkSearch-skip c.args.head.place c.args.a c.loop-b.b 1 _ inv.search x at c.requires.letter (omega (arith, inv.search.walking.rule.shape.most_states, letter)) (omega arith)
                (λ d q least less _ step.
                let one : d ≡ c.loop-b.b = omega (arith, least, less) in
                w.in_default.ensures.none q (rw (← here, ← one) step)));
            old = rw (w.queue-is, w.rows-is) inv.old;
            at = rw w.queue-is at;
          }
    ] in
    record {
      search = IsWalkSearch-skip c.args.head.place c.args.a (c.loop-b.b + 1) (c.next_letter-b-in-loop-b.result - (c.loop-b.b + 1)) _ done.search x done.at c.requires.letter (omega (arith, next.most, next.least)) (omega (arith, next.least))
          (λ d q past less below leads. done.old x d q done.at below (next.none d past (omega (arith, less, next.least))) leads);
      small = next.most;
      old = done.old;
      same = done.at ∙ sym c.at-from.ensures;
    }

pub returns-clause-none : goal.returns-clause-none
returns-clause-none c =
    let most = c.loop-b.invariant.search.walking.rule.shape.most_states in
    let states = ap (λ (z : LocalRule). z.states) c.rule.ensures in
    let small = c.loop-b.invariant.small in
    IsWalkSearch-skip c.args.head.place c.args.a c.loop-b.b (16 - c.loop-b.b) _ c.loop-b.invariant.search c.at-from.result (c.loop-b.invariant.same ∙ c.at-from.ensures)
    c.requires.letter (omega (arith, small)) (omega (arith, small)) (λ d t past _ below leads. absurd (omega (arith, past, below, states)))
