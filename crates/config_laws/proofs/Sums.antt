-- A rule with a flux keeps the sum over every finite part up to the flux at the two ends, so finitely many new letters change the sum of the image by as much as their own (Hattori and Takesue 1991).
use Rattle.std.proofs.Common.{◌≡◌, ℕ, ◌+◌, ◌-◌, List, length, take, drop, sum_by, ℤ, pos, ◌+ℤ◌, ◌-ℤ◌, neg_ℤ, unsigned_abs, refl, ap, ◌∙◌, arith, ◌<ℤ◌, ◌≤ℤ◌}
use Rattle.word_image.proofs.Common.{ints, sum_by-append, LocalRule, IsRule, image, IsConserving, IsFlux, some_letter}
use Rattle.ring_laws.proofs.Gains.{gain}
use Rattle.ring_laws.proofs.Fluxes.{flow_at, gain-flux}
use Rattle.ring_laws.proofs.FluxWalks.{walk_gains}
use Rattle.ring_laws.proofs.LossyRings.{IsConserving-walk_gains}
use Rattle.tail_config.proofs.Common.{Config, IsConfig, run, image_of, zeros, length-run, IsWord-run, run-same, run-append, take-run, drop-run, image-run}
use Rattle.config_laws.specs.Sums.{weight_on, weight_within, flow_under, KeepsChanges}

-- the image of a run weighs more than the run's letters by the flux at its two ends
pub weight_on-flux : {weight : ℕ → ℕ} {r : LocalRule} {phi : List ℤ} {x : Config} → IsRule r → IsFlux weight r phi → IsConfig r.states x
    → (i : ℤ) (n : ℕ)
    → (pos (weight_on weight (image_of r x) i n) -ℤ pos (weight_on weight x (i +ℤ r.offset) n)) ≡ flow_under r phi x i -ℤ flow_under r phi x (i +ℤ pos n)
weight_on-flux {weight} {r} {phi} {x} rule flux hx i n =
    let d : ℕ = r.width - 1 in
    let s : ℤ = i +ℤ r.offset in
    let w : List ℕ = run x s (n + d) in
    let long : length w ≡ n + d = length-run x s (n + d) in
    let along : gain weight r w ≡ flow_at r phi (take d w) -ℤ flow_at r phi (drop n w) = gain-flux rule flux n w (IsWord-run hx s (n + d)) long in
    let values : sum_by weight (image r w) ≡ weight_on weight (image_of r x) i n = ap (sum_by weight) (image-run rule x i s n refl) in
    let letters : sum_by weight (take (length w - d) w) ≡ weight_on weight x s n = ap (λ j. sum_by weight (take j w)) (omega arith) ∙ ap (sum_by weight) (take-run x s (n + d) n (omega arith)) in
    let first : flow_at r phi (take d w) ≡ flow_under r phi x i = ap (flow_at r phi) (take-run x s (n + d) d (omega arith)) in
    let last : flow_at r phi (drop n w) ≡ flow_under r phi x (i +ℤ pos n) = ap (flow_at r phi) (drop-run x s (i +ℤ pos n +ℤ r.offset) n d (omega (arith, ints))) in
    omega (arith, ints)

-- the letters are equal before place p and from l places after it on
pub record AgreeOutside (x y : Config) (p : ℤ) (l : ℕ) : Type 0 where
  pub before : (j : ℤ) → j <ℤ p → x j ≡ y j
  pub after : (j : ℤ) → (p +ℤ pos l) ≤ℤ j → x j ≡ y j

-- the weight of two runs side by side is the sum of their weights
pub weight_on-append : (weight : ℕ → ℕ) (x : Config) (i j : ℤ) (a b : ℕ) → i +ℤ pos a ≡ j
    → weight_on weight x i (a + b) ≡ weight_on weight x i a + weight_on weight x j b
weight_on-append weight x i j a b e = ap (sum_by weight) (run-append x i j a b e) ∙ sum_by-append weight (run x i a) (run x j b)

-- runs that have all of the letters that may differ differ by their weight
pub weight_on-outside : (weight : ℕ → ℕ) (x y : Config) (p : ℤ) (l : ℕ) → AgreeOutside x y p l → (i : ℤ) (n : ℕ) → i ≤ℤ p
    → (p +ℤ pos l) ≤ℤ (i +ℤ pos n)
    → weight_on weight x i n + weight_on weight y p l ≡ weight_on weight y i n + weight_on weight x p l
weight_on-outside weight x y p l agree i n low high =
    let a : ℕ = unsigned_abs (p -ℤ i) in
    let b : ℕ = n - a - l in
    let e : ℤ = p +ℤ pos l in
    let all : n ≡ a + (l + b) = omega (arith, ints) in
    let cut : (z : Config) → weight_on weight z i n ≡ weight_on weight z i a + (weight_on weight z p l + weight_on weight z e b) = λ z.
    ap (weight_on weight z i) all ∙ weight_on-append weight z i p a (l + b) (omega (arith, ints)) ∙ ap (λ j. weight_on weight z i a + j) (weight_on-append weight z p e l b refl) in
    let first : weight_on weight x i a ≡ weight_on weight y i a = grind (arith, run-same, ints) in
    let last : weight_on weight x e b ≡ weight_on weight y e b = grind (arith, run-same, ints) in
    omega (arith, cut x, cut y)

-- a rule that keeps the sums of rings keeps changes
pub KeepsChanges-conserving : {r : LocalRule} → IsRule r → (weight : ℕ → ℕ) → IsConserving weight r → KeepsChanges weight r
KeepsChanges-conserving {r} rule weight keeps x y hx hy (p, left) (q, right) =
    let d : ℕ = r.width - 1 in
    let l : ℕ = unsigned_abs (q -ℤ p) + 1 in
    let phi : List ℤ = walk_gains weight r in
    let flux : IsFlux weight r phi = (IsConserving-walk_gains rule weight).0 keeps in
    let agree : AgreeOutside x y p l = grind (arith, ints) in
    let most : ℕ = unsigned_abs p + unsigned_abs q + unsigned_abs r.offset + l + r.width in (
      most,
      λ n enough.
          let i : ℤ = neg_ℤ (pos n) in
          let k : ℕ = n + n + 1 in
          let s : ℤ = i +ℤ r.offset in
          let e : ℤ = i +ℤ pos k in
          let of_x = weight_on-flux rule flux hx i k in
          let of_y = weight_on-flux rule flux hy i k in
          let first : flow_under r phi x i ≡ flow_under r phi y i = ap (flow_at r phi) (run-same x y s s d (λ a h. left (s +ℤ pos a) (omega (arith, ints)))) in
          let last : flow_under r phi x e ≡ flow_under r phi y e = ap (flow_at r phi) (run-same x y (e +ℤ r.offset) (e +ℤ r.offset) d (λ a h. right (e +ℤ r.offset +ℤ pos a) (omega (arith, ints)))) in
          let under = weight_on-outside weight x y p l agree s k (omega (arith, ints)) (omega (arith, ints)) in
          let here = weight_on-outside weight x y p l agree i k (omega (arith, ints)) (omega (arith, ints)) in
          omega (arith, ints),
    )

-- the image of zeros weighs as much as they
pub weight_within-zeros : {r : LocalRule} → IsRule r → (weight : ℕ → ℕ) → IsConserving weight r → (n : ℕ)
    → weight_within weight n (image_of r zeros) ≡ weight_within weight n zeros
weight_within-zeros rule weight keeps n =
    let i : ℤ = neg_ℤ (pos n) in
    let k : ℕ = n + n + 1 in
    let flux = weight_on-flux {x = zeros} rule ((IsConserving-walk_gains rule weight).0 keeps) (λ j. some_letter rule) i k in
    omega (arith, ints)
