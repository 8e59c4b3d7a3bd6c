-- Weights are kept exactly where they have a flux; and weights of letters from 0 on exactly where the rule conserves them.
use Rattle.std.proofs.Common.{◌≡◌, ℕ, ◌+◌, ◌-◌, ◌*◌, ◌<◌, ◌≤◌, ◌↔◌, List, length, take, drop, ℤ, pos, ◌-ℤ◌, refl, sym, ap, ap₂, ◌∙◌, arith, length-drop, mod-eq_of_lt, length-take-le}
use Rattle.word_image.proofs.Common.{pow-zero, ints, All-take, All-drop, fill_by_all, LocalRule, IsRule, IsWord, IsRing, value, word_of, ring_letters, IsConserving, word_of-value}
use Rattle.kept_sums.specs.Sums.{blocks, KeepsSumOf, IsKept}
use Rattle.kept_sums.specs.Fluxes.{IsFluxOf, window_gain}
use Rattle.kept_sums.proofs.laws.Sums.{sum_at-pos}
use Rattle.kept_sums.proofs.laws.Locals.{potential, window-potential, turn_sum-steps}
use Rattle.kept_sums.proofs.laws.Densities.{gain-windows, KeepsSumOf-gain}

-- weights whose sum each ring of at most 2 (m + range - 1) - 1 letters keeps have a flux
pub IsFluxOf-short_rings : {r : LocalRule} → IsRule r → (range : ℕ) (weight : ℕ → ℤ) → 1 ≤ range
    → ((p : List ℕ) → IsRing r.states p → length p + 3 ≤ 2 * (r.width + range) → KeepsSumOf range weight r p)
    → (phi : ℕ → ℤ) × IsFluxOf range weight r phi
IsFluxOf-short_rings {r} rule range weight some keep =
    let k : ℕ = r.states in
    let d : ℕ = range + (r.width - 1) - 1 in
    let h : List ℕ → ℤ = window_gain r range weight in
    let phi : ℕ → ℤ = λ v. potential h d (word_of k d v) in
    let back : (u : List ℕ) → IsWord k u → length u ≡ d → phi (value k u) ≡ potential h d u = λ u word long. ap (potential h d) (ap (λ n. word_of k n (value k u)) (sym long) ∙ word_of-value k u word) in
    let vanish = λ (p : List ℕ) (ring : IsRing k p) (short : length p ≤ 2 * d + 1). sym (gain-windows rule range d weight p (omega arith) ring.some) ∙ (KeepsSumOf-gain range weight r p).0 (keep p ring (omega arith)) in (
      phi,
      record {
        flows = λ w word long.
            let one : length w - 1 ≡ d = omega arith in
            let first = back (take (length w - 1) w) (All-take (λ a. a < k) (length w - 1) w word) (length-take-le (length w - 1) w (omega arith) ∙ one) in
            let last = back (drop 1 w) (All-drop (λ a. a < k) 1 w word) (omega (arith, length-drop 1 w)) in
            window-potential k h d (omega arith) (omega arith) vanish w word (omega arith) ∙ ap₂ (λ (x y : ℤ). x -ℤ y) (ap (λ n. potential h d (take n w)) (sym one) ∙ sym first) (sym last);
      },
    )

-- weights that have a flux are kept
pub IsKept-flux : {r : LocalRule} → IsRule r → (range : ℕ) (weight : ℕ → ℤ) (phi : ℕ → ℤ) → 1 ≤ range → IsFluxOf range weight r phi
    → IsKept range weight r
IsKept-flux {r} rule range weight phi some flux p ring =
    let d : ℕ = range + (r.width - 1) - 1 in
    let steps = turn_sum-steps (window_gain r range weight) (λ w. phi (value r.states w)) (pos 0) d p ring (λ w word long.
    let less : length w - 1 ≡ d = omega arith in
    omega (arith, ints, flux.flows w word (omega arith), ap (λ n. phi (value r.states (take n w))) less)) in
    (KeepsSumOf-gain range weight r p).1 (gain-windows rule range d weight p (omega arith) ring.some ∙ steps ∙ omega (arith, ints))

-- where each ring of at most 2 (m + range - 1) - 1 letters keeps the sum, each ring does
pub IsKept-short_rings : {r : LocalRule} → IsRule r → (range : ℕ) (weight : ℕ → ℤ) → 1 ≤ range
    → ((p : List ℕ) → IsRing r.states p → length p + 3 ≤ 2 * (r.width + range) → KeepsSumOf range weight r p) → IsKept range weight r
IsKept-short_rings rule range weight some keep = let flux = IsFluxOf-short_rings rule range weight some keep in IsKept-flux rule range weight flux.0 some flux.1

-- the words of one letter round a ring are its letters
blocks-one : (k : ℕ) (p : List ℕ) → blocks k 1 p ≡ p
blocks-one k p =
    sym (fill_by_all (λ i. value k (ring_letters p (pos i) 1)) p (length p) 0 refl (grind (arith, pow-zero, mod-eq_of_lt)))

-- weights of letters from 0 on are kept exactly where the rule conserves them
pub IsKept-conserving : (weight : ℕ → ℕ) (r : LocalRule) → IsKept 1 (λ a. pos (weight a)) r ↔ IsConserving weight r
IsKept-conserving weight r = grind (arith, blocks-one, sum_at-pos)

-- a sum that a rule keeps is kept at another offset, since a flux doesn't know it
pub IsKept-at_offset : (r : LocalRule) (range : ℕ) (weight : ℕ → ℤ) (o : ℤ) → IsRule r → IsRule (record { states = r.states; width = r.width; offset = o; table = r.table }) → 1 ≤ range
    → IsKept range weight r → IsKept range weight (record { states = r.states; width = r.width; offset = o; table = r.table })
IsKept-at_offset r range weight o rule moved some kept =
    let found = IsFluxOf-short_rings rule range weight some (λ p ring _. kept p ring) in
    IsKept-flux moved range weight found.0 some (record { flows = found.1.flows })
