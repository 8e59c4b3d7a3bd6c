-- If every word has a preimage each configuration has one, if one of two tests passes: of the middles of configurations whose images agree with it further and further out, one goes on for ever (Hedlund 1969).
use Rattle.std.proofs.Common.{◌≡◌, ◌⊎◌, ℕ, zero, suc, ◌+◌, ◌-◌, ◌^◌, ◌<◌, refl, inl, inr, ⊎_elim, List, ℤ, pos, ◌+ℤ◌, ◌-ℤ◌, unsigned_abs, sym, ap, ◌∙◌, arith}
use Rattle.std.proofs.Math.Path.{fun_ext}
use Rattle.word_image.proofs.Common.{cases_eq, ints, LocalRule, IsRule, value, IsSurjective, value-injective, decide_both, some_letter}
use Rattle.tail_config.proofs.Common.{Config, IsConfig, run, image_of, zeros, length-run, IsWord-run, run-same, same-run, at_run, image_of-window}
use Rattle.config_laws.specs.Maps.{IsOntoMap}
use Rattle.config_laws.specs.OneOfTwo.{OneOfTwo}
use Rattle.config_laws.proofs.Dense.{IsSurjective-everywhere}
use Rattle.config_laws.proofs.GoesOn.{steady}
use Rattle.config_laws.proofs.Endless.{endless_one, same_word, value-run, decide_config}

-- two configurations are equal at each place less than n places from place 0
abbrev Near : ℕ → Config → Config → Type 0
Near n x y = (j : ℤ) → unsigned_abs j < n → x j ≡ y j

-- the letters at these places
abbrev middle : Config → ℕ → List ℕ
middle x n = run x (pos 1 -ℤ pos n) (n + n - 1)

-- configurations with equal middles are equal there
Near-middle : (x y : Config) (n : ℕ) → middle x n ≡ middle y n → Near n x y
Near-middle x y n e j l = at_run x y _ _ (same-run x y _ _ (n + n - 1) e) j (omega (arith, ints)) (omega (arith, ints))

-- configurations that are equal there have equal middles
middle-Near : (x y : Config) (n : ℕ) → Near n x y → middle x n ≡ middle y n
middle-Near x y n h = run-same x y _ _ (n + n - 1) (λ a l. h (pos 1 -ℤ pos n +ℤ pos a) (omega (arith, ints)))

-- whether two configurations are equal there
near_or_not : (n : ℕ) (x y : Config) → Near n x y ⊎ ¬ Near n x y
near_or_not n x y = ⊎_elim (λ e. inl (Near-middle x y n e)) (λ other. inr (λ h. other (middle-Near x y n h))) (same_word (middle x n) (middle y n))

-- a configuration that is equal near place 0 to configurations whose images agree with y as far out as is wanted
record Level (r : LocalRule) (y : Config) (n : ℕ) : Type 0 where
  x : Config
  config : IsConfig r.states x
  over : (m : ℕ) → (z : Config) × IsConfig r.states z × Near n x z × Near m (image_of r z) y

-- after each configuration of this kind there is one that is equal to it there, and is of this kind one place further out
next_level : {r : LocalRule} {y : Config} → IsRule r → OneOfTwo → (n : ℕ) (h : Level r y n) → (g : Level r y (suc n)) × Near n h.x g.x
next_level {r} {y} rule one n h =
    let (v, below, all) = endless_one one Holds decide (λ v m (z, hz, (is, (near, image))). (z, hz, (is, (near, λ j l. image j (omega arith))))) (r.states ^ (suc n + suc n - 1))
    (λ m. let (z, hz, near, image) = h.over m in (value r.states (middle z (suc n)), value-run hz _ _, (z, hz, (refl, (near, image))))) in
    let (x, hx, (is, (near, image))) = all 0 in (
      record {
        x = x;
        config = hx;
        over = λ m.
            let (z, hz, (same, (_, agree))) = all m in
            (z, hz, Near-middle x z (suc n) (value-injective r.states _ _ (IsWord-run hx _ _) (IsWord-run hz _ _) (length-run x _ _ ∙ sym (length-run z _ _)) (is ∙ sym same)), agree);
      },
      near,
    )
  where
    Holds : ℕ → ℕ → Type 0
    Holds v m = (z : Config) × IsConfig r.states z × ((value r.states (middle z (suc n)) ≡ v) × (Near n h.x z × Near m (image_of r z) y))

    decide : (v m : ℕ) → Holds v m ⊎ ¬ Holds v m
    decide v m =
        decide_config (some_letter rule) (suc n + m + unsigned_abs r.offset + r.width) (λ z. (value r.states (middle z (suc n)) ≡ v) × (Near n h.x z × Near m (image_of r z) y))
        (λ z. decide_both (cases_eq (value r.states (middle z (suc n))) v) (decide_both (near_or_not n h.x z) (near_or_not m (image_of r z) y)))
        (λ x z agree (is, (near, image)). (
          ap (value r.states) (middle-Near z x (suc n) (λ j l. sym (agree j (omega (arith, ints)) (omega (arith, ints))))) ∙ is,
          (
            (λ j l. near j l ∙ agree j (omega (arith, ints)) (omega (arith, ints))),
            (λ j l. image_of-window r z x j j (λ a k. sym (agree (j +ℤ r.offset +ℤ pos a) (omega (arith, ints)) (omega (arith, ints)))) ∙ image j l),
          ),
        ))

-- under a surjective rule each configuration is an image
pub IsOntoMap-surjective : {r : LocalRule} → IsRule r → OneOfTwo → IsSurjective r → IsOntoMap r
IsOntoMap-surjective {r} rule one every y hy = (
  limit,
  λ j. (at (suc (unsigned_abs j))).config j,
  fun_ext (λ i.
      let n : ℕ = unsigned_abs i + unsigned_abs r.offset + r.width in
      let (z, hz, near, image) = (at n).over (suc (unsigned_abs i)) in
      image_of-window r limit z i i (λ a l.
      let j : ℤ = i +ℤ r.offset +ℤ pos a in
      sym (steady (λ t. (at t).x j) (suc (unsigned_abs j)) (λ t h. sym ((next_level rule one t (at t)).1 j (omega arith))) n (omega (arith, ints))) ∙ near j (omega (arith, ints)))
      ∙ image i (omega arith)),
)
  where
    at : (n : ℕ) → Level r y n
    at zero = record {
      x = zeros;
      config = λ j. some_letter rule;
      over = λ m. let (z, hz, agree) = (IsSurjective-everywhere rule).0 every y m hy in (z, hz, λ j l. absurd (omega arith), λ j l. agree j (omega (arith, ints)) (omega (arith, ints)));
    }
    at (suc n) = (next_level rule one n (at n)).0

    limit : Config
    limit j = (at (suc (unsigned_abs j))).x j

-- if each configuration is an image, every word is
pub IsSurjective-onto : {r : LocalRule} → IsRule r → IsOntoMap r → IsSurjective r
IsSurjective-onto rule onto = (IsSurjective-everywhere rule).1 (λ y n hy. let found = onto y hy in (found.0, found.1, λ i low high. ap (λ (z : Config). z i) found.2))
