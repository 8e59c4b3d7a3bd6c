use Rattle.std.proofs.Common.{◌≡◌, ◌∙◌, slice_index, arith}
use Rattle.word_image.proofs.Common.{get_or_default}
use Rattle.tail_preimage.proofs.OpenSets.{AreOpen-start, AreOpen-more}
use Rattle.tail_preimage.proofs.walks.write_open_sets.Goals as goal

pub loop-n-init : goal.loop-n-init
loop-n-init c = record {
  sets = rw c.push_reserved.ensures.items (rw c.clear.ensures.items (AreOpen-start c.args.word.now c.requires.goal));
  capacity = c.push_reserved.ensures.capacity ∙ c.clear.ensures.capacity;
}

pub loop-n-preserved : goal.loop-n-preserved
loop-n-preserved c =
    let h = c.loop-n.invariant.sets in
    let last : c.index.result.now ≡ slice_index c.loop-n.sets.items c.loop-n.n = grind (arith, get_or_default) in
    record {
      sets = rw c.push_reserved-in-loop-n.ensures.items (AreOpen-more c.edges.ensures.rule h (omega arith) c.edges.ensures.relation (rw last at c.sources-set.ensures));
      capacity = c.push_reserved-in-loop-n.ensures.capacity ∙ c.loop-n.invariant.capacity;
    }
