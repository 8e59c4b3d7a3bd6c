use Rattle.std.proofs.Common.{[], ◌∷◌, ◌++◌, None, ap, ◌∙◌, subst, arith, mul-le-mul_right}
use Rattle.word_image.proofs.Common.{Contains-slice_get}
use Rattle.image_subsets.proofs.MaskLists.{first_set}
use Rattle.image_subsets.specs.Searches.{IsExpanded}
use Rattle.image_subsets.proofs.Searches.{set-below, IsExpanded-start, IsFamilyTree-closed, IsFamilyTree-stopped, length-search-most, IsTree-search}
use Rattle.image_subsets.proofs.family.Family.explore.Goals as goal

pub loop-place-init : goal.loop-place-init
loop-place-init c =
    let r = c.args.graph.now in
    let sets = first_set _ _ _ _ c.clear.ensures c.insert.ensures ∙ ap (λ s. s ∷ []) c.full.ensures.set in
    let parents = c.push_reserved.ensures.items ∙ ap (λ l. l ++ None ∷ []) c.clear-2.ensures.items in
    record {
      tables = c.fill.ensures;
      search = rw (sets, parents) (IsExpanded-start c.full.ensures.rule);
      capacity = omega (arith, c.push_reserved.ensures.capacity, c.clear-2.ensures.capacity, c.self.invariant.0);
    }

pub loop-place-smaller : goal.loop-place-smaller
loop-place-smaller c = omega (arith, length-search-most c.full.ensures.rule c.loop-place.invariant.search.0, c.loop-place-test.true, c.len.ensures.len)

pub invariant_of-self : goal.invariant_of-self
invariant_of-self c =
    let stopped = subst (IsExpanded c.args.graph.now c.expand.new.sets c.expand.new.parents.items _) c.if-expand.true c.expand.ensures.search in (
      omega (arith, c.expand.ensures.capacity, c.loop-place.invariant.capacity),
      IsTree-search c.full.ensures.rule stopped.0.1,
      (λ some none. absurd (none (Contains-slice_get c.expand.new.sets _ 0 stopped.1))),
    )

pub returns-then-expand : goal.returns-then-expand
returns-then-expand c =
    let stopped = subst (IsExpanded c.args.graph.now c.expand.new.sets c.expand.new.parents.items _) c.if-expand.true c.expand.ensures.search in
    IsFamilyTree-stopped c.full.ensures.rule stopped.0.1 stopped.1

pub mark-requires-clause-sets : goal.mark-requires-clause-sets
mark-requires-clause-sets c i inside = rw c.nodes.ensures.nodes (set-below c.loop-place.invariant.search.0 i inside)

pub invariant_of-self-2 : goal.invariant_of-self-2
invariant_of-self-2 c = (
  c.loop-place.invariant.capacity,
  IsTree-search c.full.ensures.rule c.loop-place.invariant.search.0,
  (λ some none. record {
    nodes = c.nodes.result;
    few = omega (arith, c.nodes.ensures.rule.shape.most_nodes, c.nodes.ensures.nodes);
    room = c.mark.ensures.room;
    within = λ i inside. rw c.nodes.ensures.nodes (set-below c.loop-place.invariant.search.0 i inside);
    marked = c.mark.ensures.marks;
  }),
)

pub returns : goal.returns
returns c =
    let search = c.loop-place.invariant.search in
    IsFamilyTree-closed c.full.ensures.rule search.0 (mul-le-mul_right c.args.graph.now.states (omega (arith, c.loop-place-test.false, c.len.ensures.len))) search.1
