use Rattle.std.proofs.Common.{◌≡◌, ◌+◌, ◌*◌, ◌<◌, slice_index, refl, ap, ◌∙◌, subst, arith, vec_capacity}
use Rattle.word_image.proofs.Common.{length_push, IsStep}
use Rattle.image_subsets.specs.Searches.{IsTreeSearch}
use Rattle.image_subsets.proofs.Steps.{HasRows-tables}
use Rattle.image_subsets.proofs.Searches.{IsTreeSearch-expanding, IsExpanding-there, IsExpanding-new, EndsEmpty-push, set-below, length-search-most}
use Rattle.image_subsets.proofs.family.expand.Goals as goal
use Rattle.image_subsets.proofs.family.expand.Goals.{then-insert+else-after-eq0, else-insert}

pub steps-steps-requires : goal.steps-steps-requires
steps-steps-requires c =
    HasRows-tables c.requires.tables c.at.result (rw c.at.ensures (set-below c.requires.search.0 c.args.place c.requires.place))

pub overflow_cast-place : goal.overflow_cast-place
overflow_cast-place c = record { fits = omega (arith, length-search-most c.requires.tables.rule c.requires.search.0, c.requires.place) }

pub loop-letter-init : goal.loop-letter-init
loop-letter-init c = record {
  steps = λ a letter. rw (← c.at.ensures)
      (c.steps-steps.ensures _ a c.requires.tables (rw c.at.ensures (set-below c.requires.search.0 c.args.place c.requires.place)) letter);
  search = record {
    so_far = subst (IsTreeSearch c.args.graph.now c.args.sets.now c.args.parents.now.items) (omega arith) c.requires.search.0;
    nonempty = c.requires.search.1;
    within = c.requires.place;
    here = refl;
  };
  capacity = refl;
}

pub push_reserved-requires : goal.push_reserved-requires
push_reserved-requires c =
    let h = c.loop-letter.invariant in
    let below : c.loop-letter.letter < c.args.graph.now.states = grind arith in
    let new = rw c.if-insert.true at c.insert.ensures in
    let longer = IsTreeSearch-expanding h.search _ below (rw c.from.ensures (h.steps c.loop-letter.letter below)) new.0 in
    omega (arith, length-search-most c.requires.tables.rule longer, length_push c.loop-letter.sets (slice_index c.steps-steps.result c.from.result))

pub returns-then-after-eq0-clause-search : goal.returns-then-after-eq0-clause-search
returns-then-after-eq0-clause-search c =
    let h = c.loop-letter.invariant in
    let below : c.loop-letter.letter < c.args.graph.now.states = grind arith in
    let new = rw c.if-insert.true at c.insert.ensures in
    let longer = IsTreeSearch-expanding h.search _ below (rw c.from.ensures (h.steps c.loop-letter.letter below)) new.0 in
    rw (new.1, c.push_reserved.ensures.items) ((_, longer), EndsEmpty-push c.loop-letter.sets _ c.if-after-eq0.true)

pub loop-letter-preserved : goal.loop-letter-preserved
loop-letter-preserved c =
    let h = c.loop-letter.invariant in
    let below : c.loop-letter.letter < c.args.graph.now.states = grind arith in
    let step : IsStep c.args.graph.now _ c.loop-letter.letter (slice_index c.steps-steps.result c.from.result) = grind arith in
    elim c.if-insert.branch [
      | then-insert+else-after-eq0 w ↦
          let new = rw w.if-insert.true at c.insert.ensures in
          record {
            steps = h.steps;
            search = rw (new.1, ap (λ v. v.items) w.parents-is ∙ w.push_reserved.ensures.items)
                (IsExpanding-new h.search _ below step new.0 w.if-after-eq0.false);
            capacity = ap vec_capacity w.parents-is ∙ w.push_reserved.ensures.capacity ∙ h.capacity;
          }
      | else-insert w ↦
          let there = rw w.if-insert.false at c.insert.ensures in
          record {
            steps = h.steps;
            search = rw (there.1, ap (λ v. v.items) w.parents-is) (IsExpanding-there h.search _ below step there.0);
            capacity = ap vec_capacity w.parents-is ∙ h.capacity;
          }
    ]

pub returns-clause-search : goal.returns-clause-search
returns-clause-search c =
    let k = c.args.graph.now.states in
    let x = c.loop-letter.invariant.search in
    let all : c.args.place * k + c.loop-letter.letter ≡ (c.args.place + 1) * k = grind arith in
    (rw all at x.so_far, x.nonempty)
