-- A weight that has a flux is conserved: round a ring its terms cancel (Hattori and Takesue 1991).
use Rattle.std.proofs.Common.{◌≡◌, ℕ, ◌+◌, ◌-◌, ◌<◌, List, length, take, drop, get_or, slice_index, ℤ, pos, ◌+ℤ◌, ◌-ℤ◌, arith, length-drop, length-take-le}
use Rattle.word_image.proofs.Common.{ints, All-take, All-drop, slice_get-get_or, LocalRule, IsRule, IsWord, local_map, value, node_count, IsConserving, IsFlux, value-node}
use Rattle.ring_laws.proofs.Walks.{sum-steps, ring-steps}
use Rattle.ring_laws.proofs.Gains.{gain, gain_of, gain-ring, IsWindowSum-gain}

-- what flows over the node that a word is
abbrev pub flow_at : LocalRule → List ℤ → List ℕ → ℤ
flow_at r phi z = get_or phi (value r.states z) (pos 0)

-- what a flux says of a window, at its two nodes
pub window-flux : {weight : ℕ → ℕ} {r : LocalRule} {phi : List ℤ} → IsRule r → IsFlux weight r phi → (w : List ℕ) → IsWord r.states w
    → length w ≡ r.width
    → (pos (weight (local_map r w)) -ℤ pos (weight (slice_index w 0))) ≡ flow_at r phi (take (r.width - 1) w) -ℤ flow_at r phi (drop 1 w)
window-flux {weight} {r} {phi} rule flux w word e =
    let first : value r.states (take (r.width - 1) w) < node_count r =
    value-node r (take (r.width - 1) w) (All-take (λ b. b < r.states) (r.width - 1) w word) (length-take-le (r.width - 1) w (omega arith)) in
    let last : value r.states (drop 1 w) < node_count r =
    value-node r (drop 1 w) (All-drop (λ b. b < r.states) 1 w word) (omega (arith, length-drop 1 w)) in
    flux.flows w _ _ word e
    (slice_get-get_or phi (value r.states (take (r.width - 1) w)) (pos 0) (omega arith))
    (slice_get-get_or phi (value r.states (drop 1 w)) (pos 0) (omega arith))

-- under a flux each window gains the difference of its two nodes
flux-steps : {weight : ℕ → ℕ} {r : LocalRule} {phi : List ℤ} → IsRule r → IsFlux weight r phi → (w : List ℕ) → IsWord r.states w
    → length w ≡ r.width - 1 + 1
    → gain_of weight r w ≡ pos 0 +ℤ (flow_at r phi (take (r.width - 1) w) -ℤ flow_at r phi (drop 1 w))
flux-steps rule flux w word e = omega (arith, ints, window-flux rule flux w word (omega arith))

-- along a word the flux of the windows cancels, but for the first and the last node
pub gain-flux : {weight : ℕ → ℕ} {r : LocalRule} {phi : List ℤ} → IsRule r → IsFlux weight r phi → (n : ℕ) (x : List ℕ) → IsWord r.states x
    → length x ≡ n + (r.width - 1)
    → gain weight r x ≡ flow_at r phi (take (r.width - 1) x) -ℤ flow_at r phi (drop n x)
gain-flux {weight} {r} {phi} rule flux n x word e =
    omega (arith, ints, sum-steps r.states (flow_at r phi) (pos 0) (IsWindowSum-gain rule weight) (flux-steps rule flux) n x word e)

-- where a flux exists each ring keeps its sum
pub IsConserving-flux : {weight : ℕ → ℕ} {r : LocalRule} {phi : List ℤ} → IsRule r → IsFlux weight r phi → IsConserving weight r
IsConserving-flux {weight} {r} {phi} rule flux p ring =
    omega (arith, ints, gain-ring rule weight p (pos 0) ring.some, ring-steps (flow_at r phi) (pos 0) (IsWindowSum-gain rule weight) (flux-steps rule flux) p ring)
