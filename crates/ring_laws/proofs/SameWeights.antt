-- Weights that agree on the letters of a rule say the same of its rings, so own weights say what the letters themselves say.
use Rattle.std.proofs.Common.{◌≡◌, ℕ, ◌+◌, ◌<◌, List, [], ◌∷◌, slice_index, sum_by, ℤ, refl, sym, ap₂, ◌∙◌, arith, ◌↔◌}
use Rattle.word_image.proofs.Common.{sum_by-cons, All-tail, LocalRule, IsRule, IsWord, ring_image, KeepsSum, IsConserving, IsFlux, IsLossyRing, IsLeastLossyRing, own_weights, entry-below}
use Rattle.word_image.proofs.laws.Weights.{own_weights-letter}
use Rattle.ring_laws.proofs.Rings.{IsWord-ring_image}

-- each letter below k has the same weight by two weights
abbrev pub AgreeOn : ℕ → (ℕ → ℕ) → (ℕ → ℕ) → Type 0
AgreeOn k weight other = (a : ℕ) → a < k → weight a ≡ other a

-- two weights agree the other way round too
pub AgreeOn-sym : {k : ℕ} {weight other : ℕ → ℕ} → AgreeOn k weight other → AgreeOn k other weight
AgreeOn-sym agree a l = sym (agree a l)

-- a word weighs the same by two weights that agree on its letters
sum_by-agree : {k : ℕ} {weight other : ℕ → ℕ} → AgreeOn k weight other → (w : List ℕ) → IsWord k w → sum_by weight w ≡ sum_by other w
sum_by-agree agree [] word = refl
sum_by-agree {k} {weight} {other} agree (a ∷ w) word =
    sum_by-cons weight a w
    ∙ ap₂ (λ (m n : ℕ). m + n) (agree a (word 0 0 (omega arith))) (sum_by-agree agree w (All-tail (λ b. b < k) a w word))
    ∙ sym (sum_by-cons other a w)

-- where two weights agree on the letters, a ring that keeps its sum by the one keeps it by the other
pub KeepsSum-agree : {weight other : ℕ → ℕ} {r : LocalRule} → IsRule r → AgreeOn r.states weight other → (p : List ℕ) → IsWord r.states p
    → KeepsSum weight r p → KeepsSum other r p
KeepsSum-agree {r = r} rule agree p word keeps = sym (sum_by-agree agree p word) ∙ keeps ∙ sum_by-agree agree (ring_image r p) (IsWord-ring_image rule p)

-- where two weights agree on the letters, a rule that is conserving by the one is so by the other
IsConserving-agreed : {weight other : ℕ → ℕ} {r : LocalRule} → IsRule r → AgreeOn r.states weight other → IsConserving weight r → IsConserving other r
IsConserving-agreed rule agree keep p ring = KeepsSum-agree rule agree p ring.word (keep p ring)

pub IsConserving-agree : {weight other : ℕ → ℕ} {r : LocalRule} → IsRule r → AgreeOn r.states weight other
    → IsConserving weight r ↔ IsConserving other r
IsConserving-agree rule agree = (IsConserving-agreed rule agree, IsConserving-agreed rule (AgreeOn-sym agree))

-- where two weights agree on the letters, a flux by the one is a flux by the other
pub IsFlux-agree : {weight other : ℕ → ℕ} {r : LocalRule} {phi : List ℤ} → IsRule r → AgreeOn r.states weight other → IsFlux weight r phi
    → IsFlux other r phi
IsFlux-agree {r = r} rule agree flux = grind (arith, entry-below)

-- where two weights agree on the letters, a ring that is lossy by the one is lossy by the other
pub IsLossyRing-agree : {weight other : ℕ → ℕ} {r : LocalRule} {p : List ℕ} → IsRule r → AgreeOn r.states weight other → IsLossyRing weight r p
    → IsLossyRing other r p
IsLossyRing-agree {p = p} rule agree lossy = record { ring = lossy.ring; loses = λ keeps. lossy.loses (KeepsSum-agree rule (AgreeOn-sym agree) p lossy.ring.word keeps) }

-- the first lossy ring by some weights is the first by others that agree on the letters
pub IsLeastLossyRing-agree : {weight other : ℕ → ℕ} {r : LocalRule} {p : List ℕ} → IsRule r → AgreeOn r.states weight other
    → IsLeastLossyRing weight r p → IsLeastLossyRing other r p
IsLeastLossyRing-agree rule agree least = grind (arith, IsLossyRing-agree)

-- own weights agree with the letters
pub AgreeOn-own : (k : ℕ) → AgreeOn k (slice_index (own_weights k)) (λ a. a)
AgreeOn-own k a l = own_weights-letter k a l

-- by own weights a rule is conserving exactly where each ring keeps the sum of its letters
pub IsConserving-own : {r : LocalRule} → IsRule r → IsConserving (slice_index (own_weights r.states)) r ↔ IsConserving (λ a. a) r
IsConserving-own {r} rule = IsConserving-agree rule (AgreeOn-own r.states)
