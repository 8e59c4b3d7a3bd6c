-- What flows on a window, by the window's value.
use Rattle.std.proofs.Common.{◌≡◌, ℕ, suc, ◌-◌, ◌/◌, ◌%◌, ◌^◌, ◌<◌, ◌≤◌, List, slice_index, ℤ, pos, ◌-ℤ◌, sym, ap, ap₂, ◌∙◌, arith, ◌↔◌}
use Rattle.word_image.proofs.Common.{LocalRule, IsRule, value, word_of, node_count, length-word_of, IsWord-word_of, value-word_of}
use Rattle.ring_laws.proofs.FluxWindows.{FlowsAt, value-first_node, value-last}
use Rattle.cert_conditions.specs.Sums.{Flows, flux_at}

-- what flows on the word of a number flows at the number
pub Flows-value : {r : LocalRule} → IsRule r → (weight : ℕ → ℕ) (phi : List ℤ) (v : ℕ) → v < r.states ^ r.width
    → FlowsAt weight r phi v ↔ Flows weight r phi (word_of r.states r.width v)
Flows-value {r} rule weight phi v l =
    let k : ℕ = r.states in
    let w : List ℕ = word_of k r.width v in
    let wide : 2 ≤ r.width = rule.shape.least_width in
    let word = IsWord-word_of k r.width v l in
    let long = length-word_of k r.width v in
    let number : value k w ≡ v = value-word_of k r.width v l in
    let begins : slice_index w 0 ≡ v / node_count r = ap (λ n. slice_index (word_of k n v) 0) (let e : r.width ≡ suc (r.width - 1) = omega arith in e) in
    let gain = ap₂ (λ (i j : ℕ). pos (weight (slice_index r.table i)) -ℤ pos (weight j)) number begins in
    let first = value-first_node rule w word long ∙ ap (λ n. n / k) number in
    let last = value-last rule w word long ∙ ap (λ n. n % node_count r) number in
    let flow = ap₂ (λ (i j : ℕ). flux_at phi i -ℤ flux_at phi j) first last in
    (λ h. gain ∙ h ∙ sym flow, λ h. sym gain ∙ h ∙ flow)
