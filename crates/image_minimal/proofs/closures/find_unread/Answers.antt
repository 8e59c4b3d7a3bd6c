use Rattle.image_minimal.proofs.Common.{◌^◌, ◌∙◌, arith, mul-le-mul_right, pow_pos, node_count, IsSetOf-unique, length-search-le}
use Rattle.image_minimal.proofs.Searches.{IsSearch-first, IsSearchAt-start, IsSearchAt-insert, AreUnreadSets-closed}
use Rattle.image_minimal.proofs.closures.find_unread.Goals as goal

pub loop-place-init : goal.loop-place-init
loop-place-init c = grind (arith, IsSearch-first, pow_pos)

pub loop-a-init : goal.loop-a-init
loop-a-init c = record { search = IsSearchAt-start c.loop-place.invariant.search (omega (arith, c.len.ensures.len)) c.at-set.ensures; limit = c.loop-place.invariant.limit }

pub loop-a-preserved : goal.loop-a-preserved
loop-a-preserved c = record {
  search = IsSearchAt-insert c.loop-a.invariant.search (omega arith) c.back.ensures (λ t other. IsSetOf-unique c.back.ensures.of other.of) c.insert-in-loop-a.ensures.sets;
  limit = c.insert-in-loop-a.ensures.limit ∙ c.loop-a.invariant.limit;
}

pub loop-place-smaller : goal.loop-place-smaller
loop-place-smaller c =
    let n = node_count c.args.graph.now in
    omega (arith, length-search-le c.loop-place.invariant.search (2 ^ n) (pow_pos n) (λ s a t back. back.of.within), c.len.ensures.len)

pub returns-clause-sets : goal.returns-clause-sets
returns-clause-sets c = AreUnreadSets-closed c.loop-place.invariant.search (mul-le-mul_right c.args.graph.now.states (omega (arith, c.len.ensures.len)))
