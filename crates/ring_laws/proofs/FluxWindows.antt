-- A flux by the values of the windows: what a decider computes and a checker tests.
use Rattle.std.proofs.Common.{◌≡◌, ℕ, zero, suc, ◌+◌, ◌-◌, ◌*◌, ◌/◌, ◌%◌, ◌^◌, ◌<◌, List, [], ◌∷◌, ◌++◌, length, take, drop, get_or, slice_index, replicate, ℤ, pos, ◌+ℤ◌, ◌-ℤ◌, sym, ap, ap₂, subst, ◌∙◌, arith, length-drop, length-append, append_assoc, take_at}
use Rattle.word_image.proofs.Common.{drop-append-le, length_push, All-push, All-drop, get_or_from_slice_get, LocalRule, IsRule, IsWord, local_map, value, word_of, node_count, IsFlux, value-snoc, value-take, value-take_more, by_ends, value-front, length-word_of, IsWord-word_of, value-word_of, value-tail}
use Rattle.ring_laws.proofs.Gains.{gain, gain_of, gain-short, IsWindowSum-gain}
use Rattle.ring_laws.proofs.Fluxes.{window-flux}
use Rattle.ring_laws.proofs.FluxWalks.{walk_gain}

-- what the window of this value gains: the weight of its new letter, less that of its first letter
abbrev pub window_gain : (ℕ → ℕ) → LocalRule → ℕ → ℤ
window_gain weight r v = pos (weight (slice_index r.table v)) -ℤ pos (weight (v / node_count r))

-- what n windows gain that read letters 0 from node u on
abbrev pub walk_sum : (ℕ → ℕ) → LocalRule → ℕ → ℕ → ℤ
walk_sum weight r u zero = pos 0
walk_sum weight r u (suc n) = window_gain weight r (u * r.states) +ℤ walk_sum weight r (u * r.states % node_count r) n

-- what a window gains is what its value tells
window_gain-value : {r : LocalRule} → IsRule r → (weight : ℕ → ℕ) (w : List ℕ) → IsWord r.states w → length w ≡ r.width
    → (pos (weight (local_map r w)) -ℤ pos (weight (slice_index w 0))) ≡ window_gain weight r (value r.states w)
window_gain-value {r} rule weight w word e =
    let begins : slice_index w 0 ≡ value r.states w / node_count r =
    omega (arith, value-take_more r.states w 0 (omega arith), value-take r.states 1 w word (omega arith), ap (λ n. value r.states w / r.states ^ (n - 1)) e) in
    ap (λ a. pos (weight (local_map r w)) -ℤ pos (weight a)) begins

-- the first node of a window, by the window's value
pub value-first_node : {r : LocalRule} → IsRule r → (w : List ℕ) → IsWord r.states w → length w ≡ r.width
    → value r.states (take (r.width - 1) w) ≡ value r.states w / r.states
value-first_node {r} rule w word e = let wide = rule.shape.least_width in value-front r.states (r.width - 1) w word (omega arith)

-- a window's last node, by its value
pub value-last : {r : LocalRule} → IsRule r → (w : List ℕ) → IsWord r.states w → length w ≡ r.width
    → value r.states (drop 1 w) ≡ value r.states w % node_count r
value-last {r} rule w word e = let wide = rule.shape.least_width in value-tail r.states (r.width - 1) w word (omega arith)

-- the walk from a word of m - 1 letters that reads n letters 0
gain-walk_sum : {r : LocalRule} → IsRule r → (weight : ℕ → ℕ) (n : ℕ) (z : List ℕ) → IsWord r.states z → length z ≡ r.width - 1
    → gain weight r (z ++ replicate n 0) ≡ walk_sum weight r (value r.states z) n
gain-walk_sum {r} rule weight zero z word e = gain-short weight r (z ++ []) (omega (arith, length-append z []))
gain-walk_sum {r} rule weight (suc n) z word e =
    let states = rule.shape.least_states in
    let window : List ℕ = z ++ 0 ∷ [] in
    let after : List ℕ = drop 1 window in
    let letters : IsWord r.states window = All-push (λ a. a < r.states) z 0 word (omega arith) in
    let long : length window ≡ r.width = omega (arith, length_push z 0) in
    let after_long : length after ≡ r.width - 1 = omega (arith, length-drop 1 window) in
    let both : gain weight r (z ++ replicate (suc n) 0) ≡ gain_of weight r window +ℤ gain weight r (after ++ replicate n 0) =
    ap (gain weight r) (sym (append_assoc z (0 ∷ []) (replicate n 0)))
    ∙ (IsWindowSum-gain rule weight).more (window ++ replicate n 0) (omega (arith, length-append window (replicate n 0)))
    ∙ ap₂ (λ (x y : List ℕ). gain_of weight r x +ℤ gain weight r y)
    (take_at window (replicate n 0) (r.width - 1 + 1) (omega arith)) (drop-append-le 1 window (replicate n 0) (omega arith)) in
    let number : value r.states window ≡ value r.states z * r.states = omega (arith, value-snoc r.states z 0) in
    let one = window_gain-value rule weight window letters long ∙ ap (window_gain weight r) number in
    let node : value r.states after ≡ value r.states z * r.states % node_count r = value-last rule window letters long ∙ ap (λ v. v % node_count r) number in
    let rest : gain weight r (after ++ replicate n 0) ≡ walk_sum weight r (value r.states z * r.states % node_count r) n =
    gain-walk_sum rule weight n after (All-drop (λ a. a < r.states) 1 window letters) after_long ∙ ap (λ u. walk_sum weight r u n) node in
    both ∙ ap₂ (λ (i j : ℤ). i +ℤ j) one rest

-- the walk's gain of a node is what m - 1 windows gain
pub walk_gain-sum : {r : LocalRule} → IsRule r → (weight : ℕ → ℕ) (u : ℕ) → u < node_count r
    → walk_gain weight r u ≡ walk_sum weight r u (r.width - 1)
walk_gain-sum rule weight u l = grind (arith, gain-walk_sum, length-word_of, value-word_of, IsWord-word_of)

-- the window of this value gains the difference of a list at its two nodes
abbrev pub FlowsAt : (ℕ → ℕ) → LocalRule → List ℤ → ℕ → Type 0
FlowsAt weight r phi v = window_gain weight r v ≡ get_or phi (v / r.states) (pos 0) -ℤ get_or phi (v % node_count r) (pos 0)

-- the window of this value gains what its letters say
window_gain-word_of : {r : LocalRule} → IsRule r → (weight : ℕ → ℕ) (v : ℕ) → v < r.states ^ (r.width - 1 + 1)
    → gain_of weight r (word_of r.states (r.width - 1 + 1) v) ≡ window_gain weight r v
window_gain-word_of rule weight v l = grind (arith, value-word_of)

-- a list is a flux if each window does
pub IsFlux-windows : {weight : ℕ → ℕ} {r : LocalRule} {phi : List ℤ} → IsRule r → length phi ≡ node_count r
    → ((v : ℕ) → v < r.states ^ r.width → FlowsAt weight r phi v)
    → IsFlux weight r phi
IsFlux-windows {weight} {r} {phi} rule entries each = record {
  entries = entries;
  flows = λ w first last word e at_first at_last.
      let wide : r.width ≡ r.width - 1 + 1 = omega (arith, rule.shape.least_width) in
      (by_ends r.states (r.width - 1) (gain_of weight r) (λ u. get_or phi u (pos 0))).1
      (λ v l. window_gain-word_of rule weight v l ∙ each v (subst (λ n. v < r.states ^ n) (sym wide) l)) w word (e ∙ wide)
      ∙ ap₂ (λ (i j : ℤ). i -ℤ j) (get_or_from_slice_get phi _ first (pos 0) at_first) (get_or_from_slice_get phi _ last (pos 0) at_last);
}

-- under a flux the flow of each window is right
pub FlowsAt-flux : {weight : ℕ → ℕ} {r : LocalRule} {phi : List ℤ} → IsRule r → IsFlux weight r phi → (v : ℕ) → v < r.states ^ r.width
    → FlowsAt weight r phi v
FlowsAt-flux {weight} {r} {phi} rule flux v l =
    let wide : r.width ≡ r.width - 1 + 1 = omega (arith, rule.shape.least_width) in
    let below : v < r.states ^ (r.width - 1 + 1) = subst (λ n. v < r.states ^ n) wide l in
    sym (window_gain-word_of rule weight v below)
    ∙ (by_ends r.states (r.width - 1) (gain_of weight r) (λ u. get_or phi u (pos 0))).0 (λ w word long. window-flux rule flux w word (long ∙ sym wide)) v below
