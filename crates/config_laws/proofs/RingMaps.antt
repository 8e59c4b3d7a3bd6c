-- An injective rule takes the rings of each length one to one onto all of them.
use Rattle.std.proofs.Common.{◌≡◌, ℕ, ◌↔◌, List, length, pos, refl, sym, ap, ap₂, ◌∙◌, subst}
use Rattle.word_image.proofs.Common.{LocalRule, IsRule, IsRing, ring_letter, ring_image, ring_letter-below}
use Rattle.tail_config.proofs.Common.{Config, IsInjective, run, length-run}
use Rattle.tail_laws.proofs.Certainty.{IsInjective-no_twins}
use Rattle.config_laws.specs.Periodic.{HasPeriod}
use Rattle.config_laws.specs.RingMaps.{IsBijectiveOnRings}
use Rattle.config_laws.proofs.Bijective.{IsInjective-bijective}
use Rattle.config_laws.proofs.Everywhere.{IsInjective-everywhere}
use Rattle.config_laws.proofs.Periods.{IsRing-run, HasPeriod-ring, HasPeriod-injective}
use Rattle.config_laws.proofs.RingImages.{ring_image-run, length-ring_image, IsRing-ring_image, run-ring, image_of-ring}

-- under an injective rule each ring is the image of a ring: of one period of the preimage of its configuration
some_ring : {r : LocalRule} → IsRule r → IsInjective r → (q : List ℕ) → IsRing r.states q
    → (p : List ℕ) × IsRing r.states p × (length p ≡ length q) × (ring_image r p ≡ q)
some_ring {r} rule injective q ring =
    let n : ℕ = length q in
    let (x, hx, image, only) = (IsInjective-bijective rule).0 injective (ring_letter q) (ring_letter-below ring) in
    let period : HasPeriod n x = HasPeriod-injective rule injective hx (subst (HasPeriod n) (sym image) (HasPeriod-ring q ring.some)) in
    (run x (pos 0) n, IsRing-run hx ring.some (pos 0), length-run x (pos 0) n, ring_image-run r period ∙ ap (λ (y : Config). run y (pos 0) n) image ∙ run-ring q)

-- rings with one image are one ring under an injective rule
one_ring : {r : LocalRule} → IsRule r → IsInjective r → (x y : List ℕ) → IsRing r.states x → IsRing r.states y → ring_image r x ≡ ring_image r y
    → x ≡ y
one_ring {r} rule injective x y hx hy same =
    let one : ring_letter x ≡ ring_letter y =
    (IsInjective-everywhere rule).0 injective (ring_letter x) (ring_letter y) (ring_letter-below hx) (ring_letter-below hy) (image_of-ring r x hx.some ∙ ap ring_letter same ∙ sym (image_of-ring r y hy.some)) in
    sym (run-ring x) ∙ ap₂ (λ (z : Config) (n : ℕ). run z (pos 0) n) one (sym (length-ring_image r x) ∙ ap length same ∙ length-ring_image r y) ∙ run-ring y

-- a rule is injective exactly if it takes the rings of each length one to one onto all of them
pub IsInjective-rings : {r : LocalRule} → IsRule r → IsInjective r ↔ IsBijectiveOnRings r
IsInjective-rings {r} rule = (
  λ injective q ring.
      let p = some_ring rule injective q ring in
      (p.0, p.1, p.2, p.3, λ s hs same. one_ring rule injective s p.0 hs p.1 (same ∙ sym p.3)),
  λ bijective. (IsInjective-no_twins rule).1 (λ x y twins.
      let found = bijective (ring_image r x) (IsRing-ring_image rule twins.first) in
      twins.different (found.4 x twins.first refl ∙ sym (found.4 y twins.second (sym twins.one_image)))),
)
