use Rattle.std.proofs.Common.{ℕ, List, ◌∙◌, rules, w64}
use Rattle.std.proofs.lemmas.Int.{to_z-of_z}
use Rattle.word_image.proofs.Common.{repeat, LocalRule, node_count, IsNodeSet, HasBit, IsSetOf-same}
use Rattle.pair_laws.proofs.Common.{IsBitSet-below}
use Rattle.tail_config.proofs.Common.{TailConfig, IsTail}
use Rattle.tail_preimage.specs.Walks.{HasWalk}
use Rattle.tail_preimage.specs.Preimages.{Shape}
use Rattle.tail_preimage.specs.Relations.{Steps}
use Rattle.tail_preimage.specs.Parts.{AreTailParts, shape_of}
use Rattle.tail_preimage.specs.FirstWalks.{AreLoopWalks, AreFirstWalks}
use Rattle.tail_preimage.specs.declared.shapes.PartRelations.{PartRelations}
use Rattle.tail_preimage.proofs.laws.Walks.{IsWalk-first, IsWalk-last}
use Rattle.tail_preimage.proofs.laws.Stretches.{IsWord-stretch}
use Rattle.tail_preimage.proofs.laws.Parts.{Steps-repeat, Starts-walks, walks-Starts}
use Rattle.tail_preimage.proofs.laws.LeastPreimages.{IsFrom-first}
use Rattle.tail_preimage.proofs.laws.Answers.{Starts-least}
use Rattle.tail_preimage.proofs.room.PreimageRoom.first_placed.Goals as goal
use Rattle.tail_preimage.proofs.room.PreimageRoom.first_placed.Goals.{After-left, After-least_node-start}

-- the nodes with a loop of right periods
loop_nodes : {r : LocalRule} {t : TailConfig} {parts : PartRelations} {set : ℕ} → AreTailParts r t parts → (on : ℕ)
    → IsNodeSet r (λ u. Steps (HasBit parts.right.period) on u u) set → IsNodeSet r (λ u. HasWalk r (repeat on t.right) u u) set
loop_nodes h on = IsSetOf-same (λ u. Steps-repeat h.rule h.right on u u)

-- the configuration is one over the letters of the rule
is_tail : (c : After-left) → IsTail c.args.graph.now.states c.args.tail.now.config
is_tail c = rw c.requires.one_k c.left.ensures.tail.short.tail

-- three walks of the shape lead from the node at which the middle begins
start : (c : After-least_node-start)
    → (w : ℕ) × (x : List ℕ) × (y : List ℕ) × (z : List ℕ) × AreLoopWalks c.args.graph.now c.args.tail.now.config (shape_of c.args.spans) c.least_node-start.result w x y z
start c =
    let found = c.least_node-start.ensures.holds in
    let below = IsBitSet-below (node_count c.args.graph.now) c.starts.result c.least_node-start.result c.starts.ensures.within found in
    let possible = c.requires.shape.possible in
    Starts-walks c.requires.parts possible.back_some possible.on_some below ((c.starts.ensures.nodes c.least_node-start.result below).0 found)

pub first_loop-requires-clause-turn : goal.first_loop-requires-clause-turn
first_loop-requires-clause-turn c = let (w, x, y, z, walks) = start (goal.at.first_loop-requires-clause-turn c).After-least_node-start in rw c.left.ensures.left (x, walks.left)

pub least_walk-end-requires-clause-start : goal.least_walk-end-requires-clause-start
least_walk-end-requires-clause-start c = IsWalk-first (start (goal.at.least_walk-end-requires-clause-start c).After-least_node-start).4.left

pub least_walk-end-requires-clause-word : goal.least_walk-end-requires-clause-word
least_walk-end-requires-clause-word c = rw c.set_stretch.ensures.word (IsWord-stretch (is_tail (goal.at.least_walk-end-requires-clause-word c).After-left) c.args.spans.before c.args.spans.after)

pub least_walk-end-requires-clause-reach : goal.least_walk-end-requires-clause-reach
least_walk-end-requires-clause-reach c =
    let (w, x, y, z, walks) = start (goal.at.least_walk-end-requires-clause-reach c).After-least_node-start in
    (w, ((loop_nodes c.requires.parts c.args.spans.on c.loops-turns.ensures).nodes w (IsWalk-last walks.middle)).1 (z, walks.right), rw c.set_stretch.ensures.word (y, walks.middle))

pub first_loop-requires-2-clause-word : goal.first_loop-requires-2-clause-word
first_loop-requires-2-clause-word c = rw c.right.ensures.right (is_tail (goal.at.first_loop-requires-2-clause-word c).After-left).right_word

pub first_loop-requires-2-clause-node : goal.first_loop-requires-2-clause-node
first_loop-requires-2-clause-node c = IsWalk-last c.least_walk-end.ensures.walk.walk

pub first_loop-requires-2-clause-turn : goal.first_loop-requires-2-clause-turn
first_loop-requires-2-clause-turn c =
    let found = c.least_walk-end.ensures.walk in
    rw c.right.ensures.right (((loop_nodes c.requires.parts c.args.spans.on c.loops-turns.ensures).nodes c.least_walk-end.result (IsWalk-last found.walk)).0 found.within)

pub returns : goal.returns
returns c =
    let r = c.args.graph.now in
    let t = c.args.tail.now.config in
    let s : Shape = shape_of c.args.spans in
    let h = c.requires.parts in
    let x = c.first_loop.new.walk.items in
    let y = c.least_walk-end.new.walk.items in
    let z = c.first_loop-2.new.walk.items in
    let possible = c.requires.shape.possible in
    let walks : AreFirstWalks r t s c.least_node-start.result c.least_walk-end.result x y z = record {
      back_some = possible.back_some;
      on_some = possible.on_some;
      start = Starts-least h c.starts.ensures c.least_node-start.ensures;
      left = rw c.left.ensures.left at c.first_loop.ensures.walk;
      turns = c.loops-turns.result;
      turning = loop_nodes h s.on c.loops-turns.ensures;
      middle = rw c.set_stretch.ensures.word at c.least_walk-end.ensures.walk;
      right = rw c.right.ensures.right at c.first_loop-2.ensures.walk;
    } in
    let first = IsFrom-first h.rule (is_tail (goal.at.returns c).After-left) c.requires.shape.small (λ v n q a b d other.
    c.requires.shape.least v (record { back_some = other.back_some; on_some = other.on_some; node = n; below = IsWalk-first other.left; starts = walks-Starts h other })) walks in
    rw ((to_z-of_z w64 c.place_of.result (search rules) ∙ c.place_of.ensures), c.without_node.ensures, c.without_node-2.ensures, c.without_node-3.ensures, c.deref.ensures.value, c.deref-2.ensures.value, c.deref-3.ensures.value) first
