-- Periodic configurations: their multiple periods, their images, when two are equal, and the letters of a run again and again.
use Rattle.std.proofs.Common.{◌≡◌, ℕ, ◌*◌, ◌<◌, ◌≤◌, List, length, ℤ, pos, ◌+ℤ◌, ◌-ℤ◌, unsigned_abs, sym, ap, ◌∙◌, subst, arith, mod-eq_of_lt}
use Rattle.std.proofs.Math.Path.{fun_ext}
use Rattle.word_image.proofs.Common.{ints, mul-le, LocalRule, IsRule, IsRing, ring_letter, ring_letter-turn, ring_letter-below}
use Rattle.tail_config.proofs.Common.{RepeatsLeft, RepeatsRight, RepeatsRight-times, same_right-period, Config, IsConfig, IsInjective, run, image_of, length-run, get_or-run, IsWord-run}
use Rattle.config_laws.specs.Periodic.{HasPeriod}
use Rattle.config_laws.proofs.Images.{image_of-moved}
use Rattle.config_laws.proofs.Everywhere.{IsInjective-everywhere}

-- a periodic configuration repeats on the right of any place
pub RepeatsRight-period : {p : ℕ} {x : Config} → HasPeriod p x → (a : ℤ) → RepeatsRight p x a
RepeatsRight-period h a i l = h.again i

-- a periodic configuration repeats on the left of any place
pub RepeatsLeft-period : {p : ℕ} {x : Config} → HasPeriod p x → (a : ℤ) → RepeatsLeft p x a
RepeatsLeft-period h a i l = grind arith

-- c periods are a period
pub HasPeriod-times : {p : ℕ} {x : Config} → (c : ℕ) → 1 ≤ c → HasPeriod p x → HasPeriod (c * p) x
HasPeriod-times {p} {x} c some h = record {
  some = let least : 1 * 1 ≤ c * p = mul-le 1 1 c p some h.some in omega (arith, least);
  again = λ i. RepeatsRight-times c p x i (RepeatsRight-period h i) i (omega (arith, ints));
}

-- the image has the periods of the configuration
pub HasPeriod-image : {p : ℕ} {x : Config} → (r : LocalRule) → HasPeriod p x → HasPeriod p (image_of r x)
HasPeriod-image {p} {x} r h = record { some = h.some; again = λ i. sym (image_of-moved r x (pos p) i) ∙ ap (λ (z : Config). image_of r z i) (fun_ext h.again) }

-- under an injective rule the configuration has the periods of the image
pub HasPeriod-injective : {r : LocalRule} {x : Config} {p : ℕ} → IsRule r → IsInjective r → IsConfig r.states x → HasPeriod p (image_of r x)
    → HasPeriod p x
HasPeriod-injective {r} {x} {p} rule injective hx h =
    let same : (λ j. x (j +ℤ pos p)) ≡ x = (IsInjective-everywhere rule).0 injective (λ j. x (j +ℤ pos p)) x (λ j. hx (j +ℤ pos p)) hx (fun_ext (λ i. image_of-moved r x (pos p) i ∙ h.again i)) in
    record { some = h.some; again = λ i. ap (λ (z : Config). z i) same }

-- the configuration of a ring has its length as a period
pub HasPeriod-ring : (q : List ℕ) → 1 ≤ length q → HasPeriod (length q) (ring_letter q)
HasPeriod-ring q some = record { some = some; again = λ i. ring_letter-turn q i some }

-- two configurations with one period are equal if they are over one period
pub same_periodic : {p : ℕ} {x y : Config} → HasPeriod p x → HasPeriod p y → (i : ℤ) → ((a : ℕ) → a < p → x (i +ℤ pos a) ≡ y (i +ℤ pos a)) → x ≡ y
same_periodic {p} {x} {y} hx hy i start = fun_ext (λ j.
    let k : ℕ = unsigned_abs (j -ℤ i) in
    sym (RepeatsRight-times k p x j (RepeatsRight-period hx j) j (omega (arith, ints)))
    ∙ same_right-period x y p i hx.some (RepeatsRight-period hx i) (RepeatsRight-period hy i) start (j +ℤ pos (k * p)) (omega (arith, ints, mul-le k 1 k p (omega arith) hx.some))
    ∙ RepeatsRight-times k p y j (RepeatsRight-period hy j) j (omega (arith, ints)))

-- the p letters from place s on, again and again
abbrev pub rounds : Config → ℤ → ℕ → Config
rounds x s p j = ring_letter (run x s p) (j -ℤ s)

-- the letters of a run are a ring
pub IsRing-run : {k p : ℕ} {x : Config} → IsConfig k x → 1 ≤ p → (s : ℤ) → IsRing k (run x s p)
IsRing-run {k} {p} {x} hx some s = record { word = IsWord-run hx s p; some = subst (λ n. 1 ≤ n) (sym (length-run x s p)) some }

-- letters of a configuration, again and again, are one over the same letters
pub IsConfig-rounds : {k p : ℕ} {x : Config} → IsConfig k x → 1 ≤ p → (s : ℤ) → IsConfig k (rounds x s p)
IsConfig-rounds hx some s j = ring_letter-below (IsRing-run hx some s) (j -ℤ s)

-- p letters again and again have the period p
pub HasPeriod-rounds : {p : ℕ} → (x : Config) (s : ℤ) → 1 ≤ p → HasPeriod p (rounds x s p)
HasPeriod-rounds {p} x s some = record {
  some = some;
  again = λ i.
      ap (ring_letter (run x s p)) (omega (arith, ints, length-run x s p)) ∙ ring_letter-turn (run x s p) (i -ℤ s) (omega (arith, length-run x s p));
}

-- p letters again and again are the letters that stand there on the first p places
pub rounds-first : (x : Config) (s : ℤ) (p a : ℕ) → a < p → rounds x s p (s +ℤ pos a) ≡ x (s +ℤ pos a)
rounds-first x s p a l = grind (arith, length-run, mod-eq_of_lt, get_or-run)

-- a periodic configuration is the letters of one period, again and again
pub rounds-period : {p : ℕ} {x : Config} → HasPeriod p x → (s : ℤ) → rounds x s p ≡ x
rounds-period {p} {x} h s = same_periodic (HasPeriod-rounds x s h.some) h s (rounds-first x s p)
