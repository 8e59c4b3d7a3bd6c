use Rattle.std.proofs.Common.{◌≡◌, ℕ, ◌+◌, ◌*◌, ◌<◌, List, map, refl, ap, ◌∙◌, arith, add-mul, one-mul}
use Rattle.word_image.proofs.Common.{div_below, LocalRule, IsRule, node_count, first_of, second_of, pair_count, marked}
use Rattle.search_laws.proofs.Common.{IsLeastWalkTo, uncode}
use Rattle.pair_laws.proofs.Common.{first_of-pair_of, second_of-pair_of, pair_of-below}
use Rattle.tail_laws.proofs.Common.{IsFirstFound-next}
use Rattle.eden_law.proofs.LeastErasures.{start_of, goal_of, erasure_letters, IsLeastOf-walk, IsFirstFound-within}
use Rattle.eden_law.proofs.FoundErasures.{uncode-node}
use Rattle.eden_law.proofs.erased.earlier_from.Goals as goal
use Rattle.eden_law.proofs.erased.earlier_from.Goals.{in-Some, in_default}

pub loop-to-init : goal.loop-to-init
loop-to-init c =
    let none : c.args.node * node_count c.args.pairs.now + 0 ≡ c.args.node * node_count c.args.pairs.now = omega arith in
    rw none c.requires.before

pub loop-to-preserved : goal.loop-to-preserved
loop-to-preserved c =
    let r : LocalRule = c.args.pairs.now in
    let rule : IsRule r = c.count-count.ensures.rule in
    let same = c.rule-rule.ensures in
    let u : ℕ = c.args.node in
    let v : ℕ = c.loop-to.to in
    let p : ℕ = u * node_count r + v in
    let nodes = c.nodes-to-end.ensures.nodes ∙ ap node_count same in
    let hv : v < node_count r = omega (arith, c.loop-to-test.true, nodes, c.loop-to.auto.to-end) in
    let below : p < pair_count r = pair_of-below r u v c.requires.node hv in
    let first : first_of r p ≡ u = first_of-pair_of r u v hv in
    let second : second_of r p ≡ v = second_of-pair_of r u v hv in
    let start : c.pair_of.result ≡ start_of r p = rw first (rw same at c.pair_of.ensures.pair) in
    let end : c.pair_of-in-loop-to.result + c.count-count.result ≡ goal_of r p =
    rw (second, rw same at c.pair_of-in-loop-to.ensures.pair, c.count-count.ensures.count) refl in
    let more : u * node_count r + (v + 1) ≡ p + 1 = omega arith in
    rw more (elim c.match-walk_to.branch [
      | in-Some w ↦
          let walk : List ℕ = w.in-Some.walk in
          let least : IsLeastWalkTo (marked r) r.states (start_of r p) (goal_of r p) (map (uncode 16) walk) =
          rw (c.limited-walks.ensures, start, end) at w.in-Some.ensures.walk in
          let bytes : map (uncode 16) w.behind_node-steps.result ≡ erasure_letters r p (map (uncode 16) walk) =
          rw (w.behind_node-steps.ensures, w.as_slice.ensures.letters, same, first) (uncode-node rule u c.requires.node walk) in
          rw w.first-is (IsFirstFound-next c.loop-to.first w.behind_node-steps.result w.earlier.result w.earlier.ensures c.loop-to.invariant (rw bytes (IsLeastOf-walk least)))
      | in_default w ↦
          let earlier : (q : ℕ) → q < u * node_count r → first_of r q < first_of r p =
          λ q less. rw first (div_below q (node_count r) u (omega (arith, hv)) less) in
          rw w.first-is (IsFirstFound-within c.args.before c.loop-to.first rule below (omega arith) earlier (rw same at c.most_steps-most.ensures) c.requires.before c.loop-to.invariant
          (rw (c.limited-walks.ensures, start, end) at w.in_default.ensures.walk) (rw (c.limited-walks.ensures, start, end) at w.in_default.ensures.all))
    ])

pub returns : goal.returns
returns c =
    let nodes = c.nodes-to-end.ensures.nodes ∙ ap node_count c.rule-rule.ensures in
    let all : c.args.node * node_count c.args.pairs.now + c.loop-to.to ≡ (c.args.node + 1) * node_count c.args.pairs.now = grind (arith, add-mul, one-mul, nodes) in
    rw all at c.loop-to.invariant
