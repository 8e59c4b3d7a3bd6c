-- The least lossy ring has few letters.
use Rattle.std.proofs.Common.{ℕ, ◌-◌, ◌*◌, ◌≤◌, List, length, ⊎_elim, arith, sum_by}
use Rattle.word_image.proofs.Common.{cases_lt, cases_eq, LocalRule, IsRule, IsLeastLossyRing, ring_image, key_not_greater}
use Rattle.ring_laws.proofs.Fluxes.{IsConserving-flux}
use Rattle.ring_laws.proofs.LossyRings.{ShortRingsKeepSum, IsFlux-short_rings}

-- the least lossy ring has at most 2 m - 1 letters, since else each shorter ring keeps its sum
pub length-IsLeastLossyRing : {weight : ℕ → ℕ} {r : LocalRule} {p : List ℕ} → IsRule r → IsLeastLossyRing weight r p → length p ≤ 2 * r.width - 1
length-IsLeastLossyRing {weight} {r} {p} rule least =
    ⊎_elim
    (λ long.
    let keep : ShortRingsKeepSum weight r = λ q ring short.
    ⊎_elim (λ same. same) (λ other. absurd (omega (arith, ((key_not_greater (length p) (length q) _).0 (least.least q (record { ring = ring; loses = other }))).0))) (cases_eq (sum_by weight q) (sum_by weight (ring_image r q))) in
    absurd (least.lossy.loses (IsConserving-flux rule (IsFlux-short_rings rule weight keep) p least.lossy.ring)))
    (λ short. short)
    (cases_lt (2 * r.width - 1) (length p))
