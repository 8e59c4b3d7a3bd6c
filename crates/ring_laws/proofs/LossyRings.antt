-- A weight is conserved exactly where it has a flux; else a ring of at most 2 m - 1 letters doesn't keep its sum (Hattori and Takesue 1991).
use Rattle.std.proofs.Common.{◌≡◌, ℕ, ◌-◌, ◌*◌, ◌<◌, ◌↔◌, ◌≤◌, List, ◌++◌, length, take, drop, ℤ, pos, Some, slice_get, sym, ap, ◌∙◌, arith, length-drop, length-take-le}
use Rattle.word_image.proofs.Common.{ints, All-take, All-drop, length-map-range_with_len, get_or-map-range_with_len, get_or_from_slice_get, LocalRule, IsRule, IsWord, IsRing, value, word_of, node_count, KeepsSum, IsConserving, IsFlux, word_of-value, value-node}
use Rattle.ring_laws.proofs.Walks.{window-short_rings}
use Rattle.ring_laws.proofs.Gains.{gain, gain-ring, IsWindowSum-gain}
use Rattle.ring_laws.proofs.Fluxes.{IsConserving-flux}
use Rattle.ring_laws.proofs.FluxWalks.{zeros, walk_gain, walk_gains}

-- each ring of at most 2 m - 1 letters keeps its sum
abbrev pub ShortRingsKeepSum : (ℕ → ℕ) → LocalRule → Type 0
ShortRingsKeepSum weight r = (p : List ℕ) → IsRing r.states p → length p ≤ 2 * r.width - 1 → KeepsSum weight r p

-- the entry of a node that is a word
walk_gains-at : (weight : ℕ → ℕ) (r : LocalRule) (z : List ℕ) (flow : ℤ) → IsWord r.states z → length z ≡ r.width - 1
    → slice_get (walk_gains weight r) (value r.states z) ≡ Some flow → flow ≡ gain weight r (z ++ zeros r)
walk_gains-at weight r z flow word e at =
    let v : ℕ = value r.states z in
    let back : word_of r.states (r.width - 1) v ≡ z = ap (λ n. word_of r.states n v) (sym e) ∙ word_of-value r.states z word in
    sym (get_or_from_slice_get (walk_gains weight r) v flow (pos 0) at)
    ∙ get_or-map-range_with_len (walk_gain weight r) 0 (node_count r) v v (pos 0) (value-node r z word e) (omega arith)
    ∙ ap (λ y. gain weight r (y ++ zeros r)) back

-- where the short rings keep their sum, the walks' gains are a flux
pub IsFlux-short_rings : {r : LocalRule} → IsRule r → (weight : ℕ → ℕ) → ShortRingsKeepSum weight r → IsFlux weight r (walk_gains weight r)
IsFlux-short_rings {r} rule weight keep = record {
  entries = length-map-range_with_len (walk_gain weight r) 0 (node_count r);
  flows = λ w first last word e at_first at_last.
      let one = window-short_rings r.states (omega (arith, rule.shape.least_states)) (omega arith) (IsWindowSum-gain rule weight)
      (λ p ring short. let around = gain-ring rule weight p (pos 0) ring.some in let kept = keep p ring (omega arith) in omega (arith, ints)) w word (omega arith) in
      let begins = walk_gains-at weight r (take (r.width - 1) w) first (All-take (λ a. a < r.states) (r.width - 1) w word) (length-take-le (r.width - 1) w (omega arith)) at_first in
      let ends = walk_gains-at weight r (drop 1 w) last (All-drop (λ a. a < r.states) 1 w word) (omega (arith, length-drop 1 w)) at_last in
      omega (arith, ints, one, begins, ends);
}

-- a weight is conserved exactly where the walks' gains are a flux
pub IsConserving-walk_gains : {r : LocalRule} → IsRule r → (weight : ℕ → ℕ) → IsConserving weight r ↔ IsFlux weight r (walk_gains weight r)
IsConserving-walk_gains rule weight = (λ keep. IsFlux-short_rings rule weight (λ p ring short. keep p ring), λ flux. IsConserving-flux rule flux)
