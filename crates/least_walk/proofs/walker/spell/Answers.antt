use Rattle.std.proofs.Common.{◌≡◌, [], ◌∷◌, ◌++◌, length, get_or, sym, ap, subst, arith}
use Rattle.word_image.proofs.Common.{length_push, slice_get-get_or}
use Rattle.search_laws.proofs.Common.{TreeSpells, Root, Branch, letter_before}
use Rattle.least_walk.specs.declared.queue.Reached.{Reached}
use Rattle.least_walk.specs.Queues.{place_of, places_of, SpellsBefore}
use Rattle.least_walk.proofs.Walking.{place_at}
use Rattle.least_walk.proofs.walker.spell.Goals as goal

pub loop-place-preserved : goal.loop-place-preserved
loop-place-preserved c =
    let queue = c.args.queue.now in
    let i = c.loop-place.place in
    let x : Reached = get_or queue i (record { pair = 0; parent = 0; step = 0; depth = 0 }) in
    let here = slice_get-get_or queue i (record { pair = 0; parent = 0; step = 0; depth = 0 }) c.loop-place.invariant.within in
    let earlier = c.requires.backward i x c.loop-place-test.true here in
    let place : c.from-place-in-loop-place.result ≡ x.parent = c.from-place-in-loop-place.ensures in
    let longer = c.push.ensures in
    let inv = c.loop-place.invariant in
    record {
      within = omega (arith, earlier, place, inv.within);
      few = omega (arith, earlier, place, inv.few, ap length longer, length_push c.loop-place.steps x.step);
      completes = λ w spells. rw (← letter_before w c.loop-place.steps c.push.new.self x.step longer)
          (inv.completes (w ++ x.step ∷ []) (Branch i (place_of x) w c.loop-place-test.true (place_at queue i x here) (rw place at spells)));
    }

pub returns-clause-spelled : goal.returns-clause-spelled
returns-clause-spelled c =
    let queue = c.args.queue.now in
    let root : c.loop-place.place ≡ 0 = omega arith in
    let back = c.reverse.ensures in
    subst (SpellsBefore queue c.args.place c.args.steps.now) (sym back) (c.loop-place.invariant.completes [] (subst (λ i. TreeSpells (places_of queue) i []) (sym root) Root))
