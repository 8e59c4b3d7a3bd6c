use Rattle.std.proofs.Common.{◌*◌, ◌≤◌, ◌<◌, [], ◌∷◌, ◌++◌, None, length, slice_index, count_ones, refl, ap, ◌∙◌, arith, mul-le-mul_right}
use Rattle.word_image.proofs.Common.{full_set}
use Rattle.image_subsets.proofs.MaskLists.{first_set}
use Rattle.image_subsets.proofs.Searches.{IsExpanded-start, length-search-most, earlier_of}
use Rattle.image_subsets.proofs.SmallestSets.{IsLastSet-place, first_word, fewest_of_all, IsFirstSmallest-one}
use Rattle.image_subsets.proofs.smallest.Smallest.find.Goals as goal
use Rattle.image_subsets.proofs.smallest.Smallest.find.Goals.{then-loop-place-test+else-at-enough, else-loop-place-test}

pub loop-place-init : goal.loop-place-init
loop-place-init c =
    let r = c.args.graph.now in
    let sets = first_set _ _ _ _ c.clear.ensures c.insert.ensures ∙ ap (λ s. s ∷ []) c.full.ensures.set in
    let parents = c.push_reserved.ensures.items ∙ ap (λ l. l ++ None ∷ []) c.clear-2.ensures.items in
    record {
      tables = c.fill.ensures;
      search = rw (sets, parents) (record {
        edges = 0 * r.states;
        search = (IsExpanded-start c.full.ensures.rule).0;
        smallest = IsFirstSmallest-one (full_set r);
        all = λ more. refl;
      });
      capacity = omega (arith, c.push_reserved.ensures.capacity, c.clear-2.ensures.capacity, c.self.invariant);
    }

pub loop-place-smaller : goal.loop-place-smaller
loop-place-smaller c = omega (arith, length-search-most c.full.ensures.rule c.loop-place.invariant.search.search, c.loop-place-test.true, c.len.ensures.len)

pub write_letters-requires-clause-earlier : goal.write_letters-requires-clause-earlier
write_letters-requires-clause-earlier c = rw c.deref.ensures.value (earlier_of c.loop-place.invariant.search.search)

pub write_letters-requires-clause-room : goal.write_letters-requires-clause-room
write_letters-requires-clause-room c =
    let d = c.loop-place.invariant.search in
    omega (arith, length-search-most c.full.ensures.rule d.search, d.smallest.inside, c.requires.room)

pub returns-clause-set : goal.returns-clause-set
returns-clause-set c =
    let d = c.loop-place.invariant.search in
    rw c.at-2.ensures (IsLastSet-place c.full.ensures.rule d.search d.smallest.inside (c.write_letters.ensures.spelled d.search.search.tree (rw c.deref.ensures.value d.search.ways)))

pub returns-clause-fewest : goal.returns-clause-fewest
returns-clause-fewest c more v set last =
    let r = c.args.graph.now in
    let d = c.loop-place.invariant.search in
    let many : c.args.enough < count_ones (slice_index c.loop-place.self-inside.sets c.loop-place.smallest) = omega (arith, more, ap count_ones c.at-2.ensures) in
    let all : length c.loop-place.self-inside.sets ≤ c.loop-place.place = elim c.loop-place-test.branch [
      | then-loop-place-test+else-at-enough w ↦ absurd (omega (arith, w.if-at-enough.false, ap count_ones w.at.ensures, many))
      | else-loop-place-test w ↦ omega (arith, w.loop-place-test.false, c.len.ensures.len)
    ] in
    let edges = mul-le-mul_right r.states all in
    omega (arith, ap count_ones c.at-2.ensures, fewest_of_all c.full.ensures.rule d.search (omega (arith, edges, d.all many)) d.smallest v set last)

pub returns-clause-first : goal.returns-clause-first
returns-clause-first c v set last few =
    let d = c.loop-place.invariant.search in
    first_word c.full.ensures.rule d.search d.smallest (c.write_letters.ensures.spelled d.search.search.tree (rw c.deref.ensures.value d.search.ways)) v set last (omega (arith, few, ap count_ones c.at-2.ensures))

pub returns-clause-short : goal.returns-clause-short
returns-clause-short c =
    let d = c.loop-place.invariant.search in
    omega (arith, length-search-most c.full.ensures.rule d.search, d.smallest.inside, c.write_letters.ensures.short)
