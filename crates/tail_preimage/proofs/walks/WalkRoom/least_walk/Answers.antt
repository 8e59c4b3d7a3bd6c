use Rattle.std.proofs.Common.{◌≡◌, length, ◌∙◌, arith}
use Rattle.pair_laws.proofs.Common.{IsBitSet-below, IsBitSet-and}
use Rattle.tail_preimage.specs.FirstWalks.{AreOpen}
use Rattle.tail_preimage.proofs.laws.LeastWalks.{IsLeastBegun-start, IsLeastBegun-node, IsLeastBegun-end}
use Rattle.tail_preimage.proofs.OpenSets.{open-after, some_edge_on}
use Rattle.tail_preimage.proofs.walks.WalkRoom.least_walk.Goals as goal
use Rattle.tail_preimage.proofs.walks.WalkRoom.least_walk.Goals.{After-write_node}

-- the slice has the letters of the room's word
word_is : (c : After-write_node) → c.as_slice-word.result.now ≡ c.args.self.now
word_is c = c.as_slice-word.ensures.value ∙ c.self.view_is

-- the sets of the word, as slices
sets : (c : After-write_node)
    → AreOpen c.args.graph.now c.as_slice-word.result.now c.args.goal (length c.as_slice-word.result.now) c.as_slice-sets.result.now
sets c = rw (c.as_slice-sets.ensures.value, c.as_slice-word.ensures.value, ← c.deref.ensures.value) c.write_open_sets.ensures.sets

pub loop-n-init : goal.loop-n-init
loop-n-init c = grind (arith, IsLeastBegun-start)

pub least_node-node-requires : goal.least_node-node-requires
least_node-node-requires c =
    some_edge_on (rw c.rule-rule.ensures at c.m-last.ensures.rule) c.loop-n-test.true c.loop-n.invariant.begun c.ends.ensures (open-after (sets (goal.at.least_node-node-requires c).After-write_node) c.loop-n-test.true)

pub node_letter-requires-clause-node : goal.node_letter-requires-clause-node
node_letter-requires-clause-node c = grind (arith, IsBitSet-and, IsBitSet-below)

pub loop-n-preserved : goal.loop-n-preserved
loop-n-preserved c = grind (arith, IsLeastBegun-node)

pub returns : goal.returns
returns c = record {
  walk = rw (word_is (goal.at.returns c).After-write_node) at (IsLeastBegun-end (omega arith) c.loop-n.invariant.begun);
  word = c.self.view_is;
  capacity = c.loop-n.invariant.capacity;
}
