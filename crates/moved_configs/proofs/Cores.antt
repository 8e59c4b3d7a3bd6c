-- Endless walks stay in a trimmed set.
use Rattle.std.proofs.Common.{◌≡◌, ℕ, ◌^◌, ◌<◌, ℤ, pos, ◌+ℤ◌, ◌-ℤ◌, IsBitSet, sym, ap, ◌∙◌, subst, arith, mod-lt}
use Rattle.std.proofs.lemmas.Nat.{div-add-mod'}
use Rattle.word_image.proofs.Common.{ints, LocalRule, IsRule, node_count, node_count_pos, end_node, window_with, end_node-below, some_letter, windows-nodes, div_below}
use Rattle.word_image.specs.Ends.{end_letter}
use Rattle.word_image.specs.Sides.{other}
use Rattle.word_image.specs.declared.side.Side.{Side}
use Rattle.word_image.specs.declared.side.Side.TheVariants.{Right, Left}
use Rattle.moved_configs.specs.Trims.{IsKept, GoesOn, IsTrimmed, IsEndlessWalk}

-- a window is the node at one end and the letter at the other end
pub window-split : (side : Side) (r : LocalRule) (w : ℕ) → window_with side r (end_node (other side) r w) (end_letter side r w) ≡ w
window-split Right r w = div-add-mod' w r.states
window-split Left r w = div-add-mod' w (node_count r)

-- the letter at an end of a window is a letter
pub end_letter-below : (side : Side) {r : LocalRule} → IsRule r → (w : ℕ) → w < r.states ^ r.width → end_letter side r w < r.states
end_letter-below Right rule w within = mod-lt w (some_letter rule)
end_letter-below Left {r} rule w within = div_below w (node_count r) r.states (node_count_pos rule) (omega (arith, windows-nodes rule))

-- a kept window goes on from one of its ends if the other end is in the set
pub GoesOn-window : (side : Side) (r : LocalRule) (p set w : ℕ) → IsRule r → w < r.states ^ r.width → IsKept r p w → IsBitSet set (end_node side r w)
    → GoesOn side r p set (end_node (other side) r w)
GoesOn-window side r p set w rule within kept bit =
    let split = window-split side r w in
    (end_letter side r w, end_letter-below side rule w within, (subst (IsKept r p) (sym split) kept, subst (λ v. IsBitSet set (end_node side r v)) (sym split) bit))

-- endless walks stay in a trimmed set
pub IsTrimmed-walks : (r : LocalRule) (p set after : ℕ) → IsRule r → IsTrimmed r p set after
    → ((v : ℤ → ℕ) → IsEndlessWalk r p v → (i : ℤ) → IsBitSet set (v i))
    → (v : ℤ → ℕ) → IsEndlessWalk r p v → (i : ℤ) → IsBitSet after (v i)
IsTrimmed-walks r p set after rule h all v walk i =
    let (w, within, (kept, (from, to))) = walk i in
    let (w', within', (kept', (from', to'))) = walk (i -ℤ pos 1) in
    let back : i -ℤ pos 1 +ℤ pos 1 ≡ i = omega (arith, ints) in
    let node : v i < node_count r = subst (λ u. u < node_count r) from (end_node-below Left rule w within) in
    (h.nodes (v i) node).1 (
      all v walk i,
      (
        subst (GoesOn Right r p set) from (GoesOn-window Right r p set w rule within kept (subst (IsBitSet set) (sym to) (all v walk (i +ℤ pos 1)))),
        subst (GoesOn Left r p set) (to' ∙ ap v back) (GoesOn-window Left r p set w' rule within' kept' (subst (IsBitSet set) (sym from') (all v walk (i -ℤ pos 1)))),
      ),
    )

-- an endless walk stays in the set of all nodes
pub full-walks : (r : LocalRule) (p set : ℕ) → IsRule r → ((u : ℕ) → u < node_count r → IsBitSet set u)
    → (v : ℤ → ℕ) → IsEndlessWalk r p v → (i : ℤ) → IsBitSet set (v i)
full-walks r p set rule full v walk i =
    let (w, within, (kept, (from, to))) = walk i in
    full (v i) (subst (λ u. u < node_count r) from (end_node-below Left rule w within))
