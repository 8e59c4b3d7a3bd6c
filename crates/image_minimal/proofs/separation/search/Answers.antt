use Rattle.image_minimal.proofs.Common.{◌≡◌, ◌+◌, ◌*◌, ◌^◌, [], ◌∷◌, ◌++◌, slice_index, nat_eq, Some, refl, sym, ap, ◌∙◌, subst, arith, slice_get, mul-le-mul_right, suc-mul, range_with_len, slice_get_read, slice_get_within, length, node_count, TreeSpells-some, mapped_at, Link, link_place, IsLinkSearch, SpellsLink, set_count, vec_capacity, HasRows-tables, ◌<◌}
use Rattle.image_minimal.proofs.laws.LinkWords.{link-below}
use Rattle.image_minimal.proofs.laws.Separations.{HaveSameOrphans-closed, Separates-conflict}
use Rattle.image_minimal.proofs.Joins.{IsFalling-numbers}
use Rattle.image_minimal.proofs.LinkSearches.{IsLinkSearch-start, IsLinkSearchAt-there, IsLinkSearchAt-new, uneven, even}
use Rattle.image_minimal.proofs.separation.search.Goals as goal
use Rattle.image_minimal.proofs.separation.search.Goals.{After-index-link, then-join, else-join}

pub loop-place-init : goal.loop-place-init
loop-place-init c =
    let r = c.args.first.now in
    let q = c.args.second.now in
    let root : Link = record { first = c.full.result; second = c.full-2.result; parent = 0; letter = 0 } in
    let links : c.push_reserved.new.self.items ≡ root ∷ [] = c.push_reserved.ensures.items ∙ ap (λ l. l ++ root ∷ []) c.clear.ensures.items in
    let start = IsLinkSearch-start c.full.ensures.rule c.full-2.ensures.rule root c.full.ensures.set c.full-2.ensures.set in
    record {
      search = rw (links, c.requires.classes) (subst (IsLinkSearch r q (root ∷ []) (range_with_len 0 (set_count r q))) (omega arith) start);
      falling = rw c.requires.classes (IsFalling-numbers (set_count r q));
      capacity = c.push_reserved.ensures.capacity ∙ c.clear.ensures.capacity;
    }

-- the link at the place
here : (c : After-index-link) → slice_get c.loop-place.links.items c.loop-place.place ≡ Some c.index-link.result.now
here c = slice_get_read c.loop-place.links.items _ c.loop-place.place c.index-link.result.now refl (omega arith) c.index-link.ensures

-- the two sets of the link at the place
below : (c : After-index-link)
    → (c.index-link.result.now.first < 2 ^ node_count c.args.first.now) × (c.index-link.result.now.second < 2 ^ node_count c.args.second.now)
below c = link-below c.loop-place.invariant.search c.loop-place.place c.index-link.result.now (here c)

pub steps-firsts-requires : goal.steps-firsts-requires
steps-firsts-requires c = HasRows-tables c.requires.first c.index-link.result.now.first (below (goal.at.steps-firsts-requires c).After-index-link).0

pub steps-seconds-requires : goal.steps-seconds-requires
steps-seconds-requires c = HasRows-tables c.requires.second c.index-link.result.now.second (below (goal.at.steps-seconds-requires c).After-index-link).1

pub loop-letter-init : goal.loop-letter-init
loop-letter-init c =
    let inside = below (goal.at.loop-letter-init c).After-index-link in
    record {
      search = record {
        link = c.index-link.result.now;
        here = here (goal.at.loop-letter-init c).After-index-link;
        first = λ a letter. c.steps-firsts.ensures c.args.first.now a c.requires.first inside.0 letter;
        second = λ a letter. c.steps-seconds.ensures c.args.second.now a c.requires.second inside.1 (omega (arith, letter, c.requires.states));
        search = subst (IsLinkSearch c.args.first.now c.args.second.now c.loop-place.links.items c.loop-place.parents) (omega arith) c.loop-place.invariant.search;
      };
      falling = c.loop-place.invariant.falling;
      capacity = c.loop-place.invariant.capacity;
    }

pub write_word-requires-clause-at : goal.write_word-requires-clause-at
write_word-requires-clause-at c = let h = c.loop-letter.invariant.search in omega (arith, slice_get_within c.loop-letter.links.items c.loop-place.place h.link h.here, ap length c.deref.ensures.value)

pub write_word-requires-clause-earlier : goal.write_word-requires-clause-earlier
write_word-requires-clause-earlier c i x positive at =
    (c.loop-letter.invariant.search.search.fills.branches i (link_place x) positive (mapped_at link_place c.loop-letter.links.items i x (subst (λ l. slice_get l i ≡ Some x) c.deref.ensures.value at))).earlier

pub returns-then-s-t-clause-found : goal.returns-then-s-t-clause-found
returns-then-s-t-clause-found c = λ _.
    let h = c.loop-letter.invariant.search in
    let links = c.loop-letter.links.items in
    let letter = c.loop-letter.letter in
    let way = TreeSpells-some h.search.fills c.loop-place.place (link_place h.link) (mapped_at link_place links c.loop-place.place h.link h.here) in
    let word = c.write_word.ensures.word way.0 (subst (λ l. SpellsLink l c.loop-place.place way.0) (sym c.deref.ensures.value) way.1) in
    rw word (Separates-conflict c.full.ensures.rule c.full-2.ensures.rule c.requires.states h.search way.1 h.here (omega arith) (h.first letter (omega arith)) (h.second letter (omega arith))
    (uneven (slice_index c.steps-firsts.result letter) (slice_index c.steps-seconds.result letter) c.if-s-t.true))

pub join-requires-clause-first : goal.join-requires-clause-first
join-requires-clause-first c = let h = c.loop-letter.invariant.search in omega (arith, h.search.long, (h.first c.loop-letter.letter (omega arith)).within, c.from.ensures)

pub join-requires-clause-second : goal.join-requires-clause-second
join-requires-clause-second c = grind arith

pub loop-letter-preserved : goal.loop-letter-preserved
loop-letter-preserved c =
    grind (arith, then-join, IsLinkSearchAt-new, even, nat_eq, vec_capacity, else-join, IsLinkSearchAt-there)

pub loop-place-preserved : goal.loop-place-preserved
loop-place-preserved c =
    let k = c.args.first.now.states in
    let all : c.loop-place.place * k + c.loop-letter.letter ≡ (c.loop-place.place + 1) * k = omega (arith, suc-mul c.loop-place.place k) in
    record { search = subst (IsLinkSearch c.args.first.now c.args.second.now c.loop-letter.links.items c.loop-letter.parents) all c.loop-letter.invariant.search.search; falling = c.loop-letter.invariant.falling; capacity = c.loop-letter.invariant.capacity }

pub returns-clause-none : goal.returns-clause-none
returns-clause-none c = λ _. HaveSameOrphans-closed c.full.ensures.rule c.full-2.ensures.rule c.requires.states c.loop-place.invariant.search (mul-le-mul_right c.args.first.now.states (omega arith))
