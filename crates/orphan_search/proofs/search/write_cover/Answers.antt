use Rattle.std.proofs.Common.{◌≡◌, [], ◌∷◌, ◌++◌, true, false, length, take, slice_index, refl, sym, ap, ◌∙◌, append-nil, arith, filter, take_all}
use Rattle.word_image.proofs.Common.{length_push, is_cover}
use Rattle.orphan_search.proofs.Covers.{no_cover-first, covers_more}
use Rattle.orphan_search.proofs.search.write_cover.Goals as goal

pub loop-place-init : goal.loop-place-init
loop-place-init c =
    let sets = c.args.family.now.sets in
    let first = c.push_reserved.ensures.items ∙ ap (λ l. l ++ c.set.result ∷ []) c.requires.empty in
    record {
      covers = first ∙ ap (λ s. s ∷ []) c.set.ensures ∙ ap (λ l. slice_index sets 0 ∷ l) (sym (no_cover-first sets c.requires.some));
      few = omega (arith, ap length first);
      capacity = refl;
    }

pub loop-place-preserved-then-not-minimal : goal.loop-place-preserved-then-not-minimal
loop-place-preserved-then-not-minimal c =
    let sets = c.args.family.now.sets in
    let i = c.loop-place.place in
    let inv = c.loop-place.invariant in
    let more = covers_more sets c.len-place-end.ensures.apart i (omega arith) (omega (arith, c.len-place-end.ensures.len, c.loop-place-test.true)) false (sym c.if-not-minimal.true ∙ c.minimal.ensures) in
    record {
      covers = inv.covers ∙ ap (λ l. slice_index sets 0 ∷ l) (sym (more ∙ append-nil _));
      few = omega (arith, inv.few);
      capacity = inv.capacity;
    }

pub loop-place-preserved : goal.loop-place-preserved
loop-place-preserved c =
    let sets = c.args.family.now.sets in
    let i = c.loop-place.place in
    let inv = c.loop-place.invariant in
    let more = covers_more sets c.len-place-end.ensures.apart i (omega arith) (omega (arith, c.len-place-end.ensures.len, c.loop-place-test.true)) true (sym c.if-not-minimal.false ∙ c.minimal.ensures) in
    let next = c.push_reserved-in-loop-place.ensures.items in
    record {
      covers = next ∙ ap (λ l. l ++ c.set-in-loop-place.result ∷ []) inv.covers ∙ ap (λ s. slice_index sets 0 ∷ (filter (is_cover (slice_index sets 0) sets) (take i sets) ++ s ∷ [])) c.set-in-loop-place.ensures
          ∙ ap (λ l. slice_index sets 0 ∷ l) (sym more);
      few = omega (arith, inv.few, ap length next, length_push c.loop-place.cover.items c.set-in-loop-place.result);
      capacity = c.push_reserved-in-loop-place.ensures.capacity ∙ inv.capacity;
    }

pub returns-clause-cover : goal.returns-clause-cover
returns-clause-cover c =
    let sets = c.args.family.now.sets in
    let all : take c.loop-place.place sets ≡ sets = take_all c.loop-place.place sets (omega (arith, c.len-place-end.ensures.len, c.loop-place-test.false)) in
    c.loop-place.invariant.covers ∙ ap (λ l. slice_index sets 0 ∷ filter (is_cover (slice_index sets 0) sets) l) all
