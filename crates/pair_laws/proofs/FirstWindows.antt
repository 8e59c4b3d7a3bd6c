-- The first pairs of a side are the ends of two windows that differ in their last letter on that side alone and have one label.
use Rattle.std.proofs.Common.{◌≡◌, ℕ, ◌+◌, ◌*◌, ◌/◌, ◌%◌, ◌^◌, ◌<◌, slice_index, sym, ap, ap₂, ◌∙◌, subst, mod-lt, div-add-mod', arith}
use Rattle.word_image.proofs.Common.{div_below, div-mul-add, mod-mul-add, LocalRule, IsRule, node_count, pair_of, IsFirstOf, node_count_pos, some_letter, windows-nodes, window_with, window_with-within, end_node, end_node-below, other}
use Rattle.word_image.specs.Ends.{end_letter}
use Rattle.pair_laws.proofs.Walks.{LeadTogether, LeadTogether-first, LeadTogether-one}
use Rattle.pair_laws.proofs.Pairs.{pair_of-first_of}
use Rattle.pair_laws.proofs.BackSteps.{window_edges}
use Rattle.pair_laws.proofs.Aheads.{Fork, same_next, IsFirstOf-fork, fork_of}
use Rattle.word_image.specs.declared.side.Side.{Side}
use Rattle.word_image.specs.declared.side.Side.TheVariants.{Right, Left}
use Rattle.pair_laws.specs.FirstWindows.{with_end, end_pair, AreFirst}

-- a window is known by its first and its last node
same_ends : {r : LocalRule} → IsRule r → (w z : ℕ) → w / r.states ≡ z / r.states → w % node_count r ≡ z % node_count r → w ≡ z
same_ends {r} rule w z first last =
    let k : ℕ = r.states in
    let split = λ (x : ℕ). div-add-mod' x k in
    let some = λ (x : ℕ). mod-lt x (some_letter rule) in
    let ends = ap (λ x. x % node_count r) (split w) ∙ last ∙ ap (λ x. x % node_count r) (sym (split z)) in
    sym (split w) ∙ ap₂ (λ (x y : ℕ). x * k + y) first (same_next rule (w / k) (z / k) (w % k) (z % k) (some w) (some z) ends).1 ∙ split z

-- the ends of two first windows of a side are a first pair of the side
pub IsFirst-ends : (side : Side) {r : LocalRule} → IsRule r → (w a : ℕ) → AreFirst side r w a → IsFirstOf side r (end_pair side r w a)
IsFirst-ends Right {r} rule w a h =
    let z : ℕ = with_end Right r w a in
    let first : z / r.states ≡ w / r.states = div-mul-add (w / r.states) r.states a h.letter in
    let edges = window_edges rule w z h.window (window_with-within Right rule (w / r.states) a (end_node-below Left rule w h.window) h.letter) h.one_label in
    IsFirstOf-fork Right rule _ _ _ (subst (λ u. LeadTogether r (w / r.states) u 1 (w % node_count r) (z % node_count r)) first edges) (λ last. h.different (same_ends rule w z (sym first) last))
IsFirst-ends Left {r} rule w a h =
    let z : ℕ = with_end Left r w a in
    let inside = mod-lt w (node_count_pos rule) in
    let last : z % node_count r ≡ w % node_count r = mod-mul-add a (node_count r) (w % node_count r) inside in
    let edges = window_edges rule w z h.window (window_with-within Left rule (w % node_count r) a inside h.letter) h.one_label in
    IsFirstOf-fork Left rule _ _ _ (subst (LeadTogether r (w / r.states) (z / r.states) 1 (w % node_count r)) last edges) (λ first. h.different (same_ends rule w z first (sym last)))

-- a fork of a side consists of two windows with one label, which end with its nodes on this side and with one node on the other
fork_windows : (side : Side) {r : LocalRule} → IsRule r → (s u v : ℕ) → Fork side r s u v
    → (w : ℕ) × (z : ℕ) × (w < r.states ^ r.width) × (z < r.states ^ r.width)
    × (slice_index r.table w ≡ slice_index r.table z) × (end_node side r w ≡ u) × (end_node side r z ≡ v) × (end_node (other side) r w ≡ end_node (other side) r z)
fork_windows Right {r} rule s u v fork =
    let (a, b, in_a, in_b, one_label, to_u, to_v) = LeadTogether-one rule fork in
    let node = (LeadTogether-first fork).0 in
    (s * r.states + a, s * r.states + b, window_with-within Right rule s a node in_a, window_with-within Right rule s b node in_b, one_label, to_u, to_v, div-mul-add s r.states a in_a ∙ sym (div-mul-add s r.states b in_b))
fork_windows Left {r} rule s u v fork =
    let (a, b, in_a, in_b, one_label, to_s, also) = LeadTogether-one rule fork in
    let (hu, hv) = LeadTogether-first fork in
    (u * r.states + a, v * r.states + b, window_with-within Right rule u a hu in_a, window_with-within Right rule v b hv in_b, one_label, div-mul-add u r.states a in_a, div-mul-add v r.states b in_b, to_s ∙ sym also)

-- a window consists of its node on the other side and its end letter
window-end : (side : Side) {r : LocalRule} → IsRule r → (z : ℕ) → z < r.states ^ r.width
    → (end_letter side r z < r.states) × (window_with side r (end_node (other side) r z) (end_letter side r z) ≡ z)
window-end Right {r} rule z below = (mod-lt z (some_letter rule), div-add-mod' z r.states)
window-end Left {r} rule z below = grind (arith, div_below, windows-nodes)

-- each first pair of a side has the ends of two windows that differ in one letter at the other side
pub first_ends : (side : Side) {r : LocalRule} {p : ℕ} → IsRule r → IsFirstOf side r p
    → (w : ℕ) × (a : ℕ) × AreFirst side r w a × (p ≡ end_pair side r w a)
first_ends side {r} {p} rule f =
    let (s, fork, different) = fork_of side rule p f in
    let (w, z, below_w, below_z, one_label, first, second, seam) = fork_windows side rule s _ _ fork in
    let (letter, whole) = window-end side rule z below_z in
    let same : with_end side r w (end_letter side r z) ≡ z = ap (λ u. window_with side r u (end_letter side r z)) seam ∙ whole in (
      w,
      end_letter side r z,
      record {
        window = below_w;
        letter = letter;
        different = λ e. different (sym first ∙ ap (end_node side r) (e ∙ same) ∙ second);
        one_label = one_label ∙ ap (slice_index r.table) (sym same);
      },
      sym (pair_of-first_of r p) ∙ ap₂ (pair_of r) (sym first) (sym (ap (end_node side r) same ∙ second)),
    )
