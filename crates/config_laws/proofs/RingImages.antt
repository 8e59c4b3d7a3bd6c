-- A ring as a configuration: its image is the image of the configuration, so rules do with rings what they do with configurations.
use Rattle.std.proofs.Common.{◌≡◌, ℕ, ◌≤◌, List, length, pos, ◌-ℤ◌, sym, ap, ap₂, ◌∙◌, subst, arith, mod-eq_of_lt}
use Rattle.std.proofs.Math.Path.{fun_ext}
use Rattle.word_image.proofs.Common.{ints, length-map-range_with_len, LocalRule, IsRule, IsRing, IsConserving, ring_letter, ring_image, ring_letter-below}
use Rattle.ring_laws.proofs.Rings.{IsWord-ring_image}
use Rattle.tail_config.proofs.Common.{Config, run, image_of, length-run, run-by_letters, same-run}
use Rattle.config_laws.specs.Composed.{IsOneAfter, IsUndoneBy}
use Rattle.config_laws.specs.Periodic.{HasPeriod}
use Rattle.config_laws.proofs.Periods.{rounds-period, HasPeriod-image, HasPeriod-ring, same_periodic}

-- a ring has as many letters as its image
pub length-ring_image : (r : LocalRule) (p : List ℕ) → length (ring_image r p) ≡ length p
length-ring_image r p = length-map-range_with_len _ 0 (length p)

-- the image of a ring is a ring
pub IsRing-ring_image : {r : LocalRule} {p : List ℕ} → IsRule r → IsRing r.states p → IsRing r.states (ring_image r p)
IsRing-ring_image {r} {p} rule ring = record { word = IsWord-ring_image rule p; some = subst (λ n. 1 ≤ n) (sym (length-ring_image r p)) ring.some }

-- a ring by the letters of its configuration
pub run-ring : (q : List ℕ) → run (ring_letter q) (pos 0) (length q) ≡ q
run-ring q = grind (arith, run-by_letters, mod-eq_of_lt)

-- the image of a ring by the image of its configuration
pub run-ring_image : (r : LocalRule) (p : List ℕ) → run (image_of r (ring_letter p)) (pos 0) (length p) ≡ ring_image r p
run-ring_image r p = grind arith

-- one period of a periodic configuration is a ring with that configuration
pub ring_letter-run : {p : ℕ} {x : Config} → HasPeriod p x → ring_letter (run x (pos 0) p) ≡ x
ring_letter-run {p} {x} h = fun_ext (λ i. let place : i ≡ i -ℤ pos 0 = omega (arith, ints) in ap (ring_letter (run x (pos 0) p)) place) ∙ rounds-period h (pos 0)

-- the image of one period, closed to a ring, is one period of the image
pub ring_image-run : {p : ℕ} {x : Config} → (r : LocalRule) → HasPeriod p x → ring_image r (run x (pos 0) p) ≡ run (image_of r x) (pos 0) p
ring_image-run {p} {x} r h =
    sym (run-ring_image r (run x (pos 0) p)) ∙ ap₂ (λ (z : Config) (n : ℕ). run (image_of r z) (pos 0) n) (ring_letter-run h) (length-run x (pos 0) p)

-- the image of a ring's configuration is the configuration of the image
pub image_of-ring : (r : LocalRule) (p : List ℕ) → 1 ≤ length p → image_of r (ring_letter p) ≡ ring_letter (ring_image r p)
image_of-ring r p some =
    let n : ℕ = length p in
    let q : List ℕ = ring_image r p in
    let long : length q ≡ n = length-ring_image r p in
    let period : HasPeriod n (ring_letter q) = grind (arith, HasPeriod-ring) in
    same_periodic (HasPeriod-image r (HasPeriod-ring p some)) period (pos 0) (same-run (image_of r (ring_letter p)) (ring_letter q) (pos 0) (pos 0) n
    (run-ring_image r p ∙ sym (ap (run (ring_letter q) (pos 0)) (sym long) ∙ run-ring q)))

-- the image of the image of a ring, by configurations
twice : (r s : LocalRule) (p : List ℕ) → 1 ≤ length p
    → run (image_of s (image_of r (ring_letter p))) (pos 0) (length p) ≡ ring_image s (ring_image r p)
twice r s p some =
    ap₂ (λ (x : Config) (n : ℕ). run (image_of s x) (pos 0) n) (image_of-ring r p some) (sym (length-ring_image r p)) ∙ run-ring_image s (ring_image r p)

-- one after the other does so with rings
pub ring_image-after : {r s t : LocalRule} → IsOneAfter r s t → (p : List ℕ) → IsRing r.states p → ring_image t p ≡ ring_image s (ring_image r p)
ring_image-after {r} {s} {t} c p ring =
    sym (run-ring_image t p) ∙ ap (λ (x : Config). run x (pos 0) (length p)) (c.image (ring_letter p) (ring_letter-below ring)) ∙ twice r s p ring.some

-- what undoes a rule undoes it on rings
pub ring_image-undone : {r s : LocalRule} → IsUndoneBy r s → (p : List ℕ) → IsRing r.states p → ring_image s (ring_image r p) ≡ p
ring_image-undone {r} {s} u p ring =
    sym (twice r s p ring.some) ∙ ap (λ (x : Config). run x (pos 0) (length p)) (u.back (ring_letter p) (ring_letter-below ring)) ∙ run-ring p

-- one after the other conserves what both conserve
pub IsConserving-after : {r s t : LocalRule} → IsRule r → IsOneAfter r s t → (weight : ℕ → ℕ) → IsConserving weight r → IsConserving weight s
    → IsConserving weight t
IsConserving-after rule c weight first second p ring = grind (arith, ring_image-after, IsRing-ring_image)

-- what undoes a rule conserves only what the rule conserves
pub IsConserving-undone : {r s : LocalRule} → IsRule r → IsUndoneBy r s → (weight : ℕ → ℕ) → IsConserving weight s → IsConserving weight r
IsConserving-undone rule u weight keeps p ring = grind (arith, ring_image-undone, IsRing-ring_image)
