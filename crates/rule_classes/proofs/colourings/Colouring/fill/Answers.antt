use Rattle.std.proofs.Common.{◌≡◌, ℕ, ◌*◌, ◌^◌, ◌<◌, ◌≤◌, List, slice_index, ap, ◌∙◌, ⊎_elim, arith, mul-le-mul_left}
use Rattle.word_image.proofs.Common.{one-le-pow, cases_eq, LocalRule, IsRule, node_count, some_letter, windows-nodes}
use Rattle.rule_classes.specs.Colourings.{IsColouring, old_value}
use Rattle.rule_classes.specs.Tables.{AreFilled}
use Rattle.rule_classes.specs.declared.colourings.Colouring.{Colouring}
use Rattle.rule_classes.proofs.laws.Readings.{IsRow-made, old_value-below, window-below}
use Rattle.rule_classes.proofs.laws.Tables.{AreFilled-all}
use Rattle.rule_classes.proofs.colourings.Colouring.fill.Goals as goal

-- the window of the node itself is filled
node_filled : {r : LocalRule} {c : Colouring} {windows entries : List ℕ} (u : ℕ) {i : ℕ} → IsRule r → IsColouring r.states c → u < node_count r
    → AreFilled r c (u * r.states) windows entries → i ≡ u
    → (slice_index windows i ≡ old_value r c u) × (slice_index windows i < r.states ^ r.width)
node_filled {r} {c} {windows} u rule colouring node h same =
    let grows : u * 2 ≤ u * r.states = mul-le-mul_left u rule.shape.least_states in
    let value = ap (slice_index windows) same ∙ ⊎_elim (λ (none : u ≡ 0). rw none h.first) (λ some. h.values u (omega arith)) (cases_eq u 0) in
    (value, omega (arith, value, old_value-below r c u colouring (omega (arith, window-below rule u 0 node (some_letter rule)))))

pub old_window-requires-clause-window : goal.old_window-requires-clause-window
old_window-requires-clause-window c = omega (arith, one-le-pow c.args.rule.now.width c.args.rule.now.states (some_letter c.requires.rule))

pub row-row-requires-clause-back : goal.row-row-requires-clause-back
row-row-requires-clause-back c = (node_filled c.loop-node.node c.requires.rule c.requires.colouring (omega arith) c.loop-node.invariant c.from.ensures).1

pub fill_row-requires-clause-row : goal.fill_row-requires-clause-row
fill_row-requires-clause-row c =
    IsRow-made c.loop-node.node c.row-row.result c.requires.rule c.requires.colouring (omega arith) (node_filled c.loop-node.node c.requires.rule c.requires.colouring (omega arith) c.loop-node.invariant c.from.ensures).0 c.row-row.ensures

pub returns : goal.returns
returns c = grind (arith, windows-nodes, AreFilled-all)
