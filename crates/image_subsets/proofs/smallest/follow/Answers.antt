use Rattle.std.proofs.Common.{◌≡◌, ◌≢◌, ◌-◌, ◌<◌, [], ◌∷◌, length, slice_index, count_ones, refl, sym, ap, ◌∙◌, subst, arith, vec_capacity}
use Rattle.std.proofs.lemmas.Nat.{ones_le_self}
use Rattle.word_image.proofs.Common.{length_push, get_or_append_left, IsStep}
use Rattle.image_subsets.specs.Searches.{IsTreeSearch}
use Rattle.image_subsets.proofs.Steps.{HasRows-tables}
use Rattle.image_subsets.proofs.Searches.{IsTreeSearch-expanding, IsExpanding-there, IsExpanding-new, set-below, length-search-most}
use Rattle.image_subsets.proofs.SmallestSets.{IsFirstSmallest-kept, IsFirstSmallest-new, last_set, not_empty}
use Rattle.image_subsets.proofs.smallest.follow.Goals as goal
use Rattle.image_subsets.proofs.smallest.follow.Goals.{then-insert+then-count-fewest+else-count-enough, then-insert+else-count-fewest, else-insert}

pub steps-steps-requires : goal.steps-steps-requires
steps-steps-requires c =
    HasRows-tables c.requires.tables c.at.result (rw c.at.ensures (set-below c.requires.search.search c.args.place c.requires.place))

pub overflow_cast-place : goal.overflow_cast-place
overflow_cast-place c = record { fits = omega (arith, length-search-most c.requires.tables.rule c.requires.search.search, c.requires.place) }

pub loop-letter-init : goal.loop-letter-init
loop-letter-init c =
    let d = c.requires.search in
    record {
      steps = λ a letter. rw (← c.at.ensures)
          (c.steps-steps.ensures _ a c.requires.tables (rw c.at.ensures (set-below d.search c.args.place c.requires.place)) letter);
      search = record {
        so_far = subst (IsTreeSearch c.args.graph.now c.args.sets.now c.args.parents.now.items) (omega (arith, d.all c.requires.more)) d.search;
        nonempty = not_empty d.smallest (omega (arith, c.requires.more));
        within = c.requires.place;
        here = refl;
      };
      smallest = d.smallest;
      count = ap count_ones c.at-fewest.ensures;
      more = omega (arith, c.requires.more, ap count_ones c.at-fewest.ensures);
      capacity = refl;
    }

pub push_reserved-requires : goal.push_reserved-requires
push_reserved-requires c =
    let h = c.loop-letter.invariant in
    let below : c.loop-letter.letter < c.args.graph.now.states = grind arith in
    let new = rw c.if-insert.true at c.insert.ensures in
    let longer = IsTreeSearch-expanding h.search _ below (rw c.from.ensures (h.steps c.loop-letter.letter below)) new.0 in
    omega (arith, length-search-most c.requires.tables.rule longer, length_push c.loop-letter.sets (slice_index c.steps-steps.result c.from.result))

pub returns-then-count-enough-clause-search : goal.returns-then-count-enough-clause-search
returns-then-count-enough-clause-search c =
    let h = c.loop-letter.invariant in
    let after = slice_index c.steps-steps.result c.from.result in
    let below : c.loop-letter.letter < c.args.graph.now.states = grind arith in
    let new = rw c.if-insert.true at c.insert.ensures in
    let longer = IsTreeSearch-expanding h.search _ below (rw c.from.ensures (h.steps c.loop-letter.letter below)) new.0 in
    let place : c.len-smallest.result - 1 ≡ length c.loop-letter.sets = omega (arith, c.len-smallest.ensures.len, ap length new.1, length_push c.loop-letter.sets after) in
    let here = last_set c.loop-letter.sets after in
    rw (new.1, c.push_reserved.ensures.items, place) (record {
      edges = _;
      search = longer;
      smallest = IsFirstSmallest-new after h.smallest (omega (arith, c.if-count-fewest.true, h.count));
      all = λ more. absurd (omega (arith, more, ap count_ones here, c.if-count-enough.true));
    })

pub loop-letter-preserved : goal.loop-letter-preserved
loop-letter-preserved c =
    let h = c.loop-letter.invariant in
    let after = slice_index c.steps-steps.result c.from.result in
    let below : c.loop-letter.letter < c.args.graph.now.states = grind arith in
    let step : IsStep c.args.graph.now _ c.loop-letter.letter after = grind arith in
    let here = ap count_ones (last_set c.loop-letter.sets after) in
    elim c.if-insert.branch [
      | then-insert+then-count-fewest+else-count-enough w ↦
          let new = rw w.if-insert.true at c.insert.ensures in
          let place : w.len-smallest.result - 1 ≡ length c.loop-letter.sets = omega (arith, w.len-smallest.ensures.len, ap length new.1, length_push c.loop-letter.sets after) in
          let some : after ≢ 0 = λ empty. omega (arith, w.if-count-enough.false, ap count_ones empty, ones_le_self 0) in
          record {
            steps = h.steps;
            search = rw (new.1, ap (λ v. v.items) w.parents-is ∙ w.push_reserved.ensures.items) (IsExpanding-new h.search _ below step new.0 some);
            smallest = rw (new.1, w.smallest-is ∙ place) (IsFirstSmallest-new after h.smallest (omega (arith, w.if-count-fewest.true, h.count)));
            count = rw (new.1, w.smallest-is ∙ place) (w.fewest-is ∙ sym here);
            more = omega (arith, w.fewest-is, w.if-count-enough.false);
            capacity = ap vec_capacity w.parents-is ∙ w.push_reserved.ensures.capacity ∙ h.capacity;
          }
      | then-insert+else-count-fewest w ↦
          let new = rw w.if-insert.true at c.insert.ensures in
          let some : after ≢ 0 = λ empty. omega (arith, w.if-count-fewest.false, h.more, ap count_ones empty, ones_le_self 0) in
          record {
            steps = h.steps;
            search = rw (new.1, ap (λ v. v.items) w.parents-is ∙ w.push_reserved.ensures.items) (IsExpanding-new h.search _ below step new.0 some);
            smallest = rw (new.1, w.smallest-is) (IsFirstSmallest-kept after h.smallest (omega (arith, w.if-count-fewest.false, h.count)));
            count = rw (new.1, w.smallest-is) (w.fewest-is ∙ h.count ∙ sym (ap count_ones (get_or_append_left c.loop-letter.sets (after ∷ []) 0 c.loop-letter.smallest h.smallest.inside)));
            more = omega (arith, w.fewest-is, h.more);
            capacity = ap vec_capacity w.parents-is ∙ w.push_reserved.ensures.capacity ∙ h.capacity;
          }
      | else-insert w ↦
          let there = rw w.if-insert.false at c.insert.ensures in
          record {
            steps = h.steps;
            search = rw (there.1, ap (λ v. v.items) w.parents-is) (IsExpanding-there h.search _ below step there.0);
            smallest = rw (there.1, w.smallest-is) h.smallest;
            count = rw (there.1, w.smallest-is) (w.fewest-is ∙ h.count);
            more = omega (arith, w.fewest-is, h.more);
            capacity = ap vec_capacity w.parents-is ∙ h.capacity;
          }
    ]

pub returns-clause-search : goal.returns-clause-search
returns-clause-search c =
    let k = c.args.graph.now.states in
    let h = c.loop-letter.invariant in
    record {
      edges = _;
      search = h.search.so_far;
      smallest = h.smallest;
      all = λ more. grind arith;
    }
