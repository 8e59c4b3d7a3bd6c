-- A rule is surjective exactly if each ring, written a number of times, is the image of a ring, and exactly if each periodic configuration is the image of a periodic one (Hedlund 1969).
use Rattle.std.proofs.Common.{◌≡◌, ℕ, zero, suc, ◌*◌, ◌≤◌, ◌↔◌, List, [], ◌∷◌, ◌++◌, length, ℤ, pos, ◌+ℤ◌, refl, sym, ap, ap₂, ◌∙◌, arith}
use Rattle.std.specs.List.{repeat}
use Rattle.word_image.proofs.Common.{ints, some_letter, LocalRule, IsRule, node_count, IsSurjective, IsRing, ring_letter, ring_image, ring_letter-turn, ring_letter-below}
use Rattle.tail_config.proofs.Common.{Config, IsConfig, run, image_of, zeros, length-run, run-same, same-run, run-append}
use Rattle.config_laws.specs.Periodic.{HasPeriod, IsOntoPeriodic}
use Rattle.config_laws.specs.RingMaps.{IsOntoRings}
use Rattle.config_laws.proofs.Dense.{Matches, matches, preimage_inside}
use Rattle.config_laws.proofs.RingImages.{ring_image-run, run-ring, image_of-ring}
use Rattle.config_laws.proofs.Periods.{rounds, IsRing-run, IsConfig-rounds, HasPeriod-rounds, HasPeriod-times, HasPeriod-ring, same_periodic}
use Rattle.config_laws.proofs.Loops.{SomeLoop, some_loop, image_of-rounds}

-- a ring written l times by the letters of its configuration
run-repeat : (q : List ℕ) → 1 ≤ length q → (l : ℕ) → run (ring_letter q) (pos 0) (l * length q) ≡ repeat l q
run-repeat q some zero = let none : zero * length q ≡ 0 = omega arith in ap (run (ring_letter q) (pos 0)) none
run-repeat q some (suc l) =
    let n : ℕ = length q in
    let y : Config = ring_letter q in
    ap (run y (pos 0)) (omega arith) ∙ run-append y (pos 0) (pos n) n (l * n) (omega (arith, ints))
    ∙ ap₂ (λ (u v : List ℕ). u ++ v) (run-ring q) (run-same y y (pos n) (pos 0) (l * n) (λ a h.
    let place : pos n +ℤ pos a ≡ (pos 0 +ℤ pos a) +ℤ pos n = omega (arith, ints) in
    ap y place ∙ ring_letter-turn q (pos 0 +ℤ pos a) some) ∙ run-repeat q some l)

-- a ring written l times has l times as many letters
length-repeat : (q : List ℕ) → 1 ≤ length q → (l : ℕ) → length (repeat l q) ≡ l * length q
length-repeat q some l = sym (ap length (run-repeat q some l)) ∙ length-run (ring_letter q) (pos 0) (l * length q)

-- a ring written l times has the configuration of the ring
ring_letter-repeat : (q : List ℕ) → 1 ≤ length q → (l : ℕ) → 1 ≤ l → ring_letter (repeat l q) ≡ ring_letter q
ring_letter-repeat q some l more =
    let n : ℕ = length q in
    let long : length (repeat l q) ≡ l * n = length-repeat q some l in
    let times : HasPeriod (l * n) (ring_letter q) = HasPeriod-times l more (HasPeriod-ring q some) in
    let first : HasPeriod (l * n) (ring_letter (repeat l q)) = grind (arith, HasPeriod-ring) in
    same_periodic first times (pos 0) (same-run (ring_letter (repeat l q)) (ring_letter q) (pos 0) (pos 0) (l * n)
    (ap (run (ring_letter (repeat l q)) (pos 0)) (sym long) ∙ run-ring (repeat l q) ∙ sym (run-repeat q some l)))

-- a periodic preimage, with a period of at most as many periods as there are nodes
pub record PeriodicPreimage (r : LocalRule) (y : Config) (p : ℕ) : Type 0 where
  pub turns : ℕ
  pub x : Config
  pub some : 1 ≤ turns
  pub few : turns ≤ node_count r
  pub config : IsConfig r.states x
  pub period : HasPeriod (turns * p) x
  pub image : image_of r x ≡ y

-- under a surjective rule a periodic configuration has a periodic preimage
pub periodic_preimage : {r : LocalRule} {y : Config} {p : ℕ} → IsRule r → IsSurjective r → IsConfig r.states y → HasPeriod p y
    → PeriodicPreimage r y p
periodic_preimage {r} {y} {p} rule every hy period =
    let m : Matches r y (pos 0) (node_count r * p) = matches rule every hy (pos 0) (node_count r * p) in
    let at : SomeLoop r m.x y (pos 0) p = grind (arith, some_loop) in
    let s : ℤ = at.place +ℤ r.offset in
    record {
      turns = at.turns;
      x = rounds m.x s (at.turns * p);
      some = at.some;
      few = at.few;
      config = IsConfig-rounds m.config at.loop.some s;
      period = HasPeriod-rounds m.x s at.loop.some;
      image = image_of-rounds at.loop (HasPeriod-times at.turns at.some period);
    }

-- under a surjective rule each ring, written a few times, is the image of a ring
pub ring_over : {r : LocalRule} {q : List ℕ} → IsRule r → IsSurjective r → IsRing r.states q
    → (l : ℕ) × (p : List ℕ) × (1 ≤ l) × (l ≤ node_count r) × IsRing r.states p × (length p ≡ l * length q) × (ring_image r p ≡ repeat l q)
ring_over {r} {q} rule every ring =
    let w : PeriodicPreimage r (ring_letter q) (length q) = periodic_preimage rule every (ring_letter-below ring) (HasPeriod-ring q ring.some) in
    let n : ℕ = w.turns * length q in (
      w.turns,
      run w.x (pos 0) n,
      w.some,
      w.few,
      IsRing-run w.config w.period.some (pos 0),
      length-run w.x (pos 0) n,
      ring_image-run r w.period ∙ ap (λ (y : Config). run y (pos 0) n) w.image ∙ run-repeat q ring.some w.turns,
    )

-- a rule is surjective if the configuration of each ring is an image
IsSurjective-ring_configs : {r : LocalRule} → IsRule r
    → ((q : List ℕ) → IsRing r.states q → (x : Config) × IsConfig r.states x × (image_of r x ≡ ring_letter q)) → IsSurjective r
IsSurjective-ring_configs {r} rule onto [] hw = preimage_inside {x = zeros} rule (λ i. some_letter rule) (pos 0) [] refl
IsSurjective-ring_configs {r} rule onto (a ∷ w) hw =
    let found = onto (a ∷ w) (record { word = hw; some = omega arith }) in
    preimage_inside rule found.1 (pos 0) (a ∷ w) (ap (λ (x : Config). run x (pos 0) (length (a ∷ w))) found.2 ∙ run-ring (a ∷ w))

-- a rule is surjective exactly if each ring, written a number of times, is the image of a ring
pub IsSurjective-rings : {r : LocalRule} → IsRule r → IsSurjective r ↔ IsOntoRings r
IsSurjective-rings {r} rule = (
  λ every q ring. let (l, p, some, few, over, long, image) = ring_over rule every ring in (l, p, some, over, image),
  λ onto. IsSurjective-ring_configs rule (λ q ring.
      let (l, p, some, over, image) = onto q ring in (
        ring_letter p,
        ring_letter-below over,
        image_of-ring r p over.some ∙ ap ring_letter image ∙ ring_letter-repeat q ring.some l some,
      )),
)

-- a rule is surjective exactly if each periodic configuration is the image of a periodic one
pub IsSurjective-periodic : {r : LocalRule} → IsRule r → IsSurjective r ↔ IsOntoPeriodic r
IsSurjective-periodic {r} rule = (
  λ every y hy (p, period). let h : PeriodicPreimage r y p = periodic_preimage rule every hy period in (h.x, h.config, (h.turns * p, h.period), h.image),
  λ onto. IsSurjective-ring_configs rule (λ q ring. let (x, hx, period, image) = onto (ring_letter q) (ring_letter-below ring) (length q, HasPeriod-ring q ring.some) in (x, hx, image)),
)
