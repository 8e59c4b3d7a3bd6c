-- A configuration whose image is periodic makes many with one image if one of its letters breaks that period. If there is an erasable pair, there is such a configuration.
use Rattle.std.proofs.Common.{◌≡◌, ◌≢◌, ℕ, ◌+◌, ◌-◌, ◌*◌, ◌<◌, ◌≤◌, ⊎_elim, List, length, get_or, ℤ, pos, ◌+ℤ◌, ◌-ℤ◌, unsigned_abs, refl, sym, ap, ◌∙◌, subst, arith, add-mul, ◌<ℤ◌}
use Rattle.std.proofs.Math.Path.{fun_ext}
use Rattle.word_image.proofs.Common.{cases_lt, ints, mul-le, get_or_past, get_or_default, LocalRule, IsRule, IsSurjective, IsRing, ring_letter, IsErasable, ring_letter-below}
use Rattle.tail_config.proofs.Common.{DifferAt, differ_at, Config, IsConfig, image_of, get_or-run, run-by_letters, RepeatsLeft-times, RepeatsRight-times}
use Rattle.garden_laws.proofs.Exchange.{IsErasable-long, image_of-exchange}
use Rattle.garden_laws.proofs.GardenOfEden.{garden_of_eden}
use Rattle.config_laws.specs.Maps.{AreMany}
use Rattle.config_laws.specs.Periodic.{HasPeriod}
use Rattle.config_laws.proofs.Images.{image_of-moved}
use Rattle.config_laws.proofs.Joined.{joined, joined-left, joined-right, IsConfig-joined}
use Rattle.config_laws.proofs.Periods.{RepeatsLeft-period, RepeatsRight-period, HasPeriod-image, HasPeriod-ring}
use Rattle.config_laws.proofs.RingImages.{run-ring}

-- at some place the configuration has another letter than p places before it, 2p places before it and so on
pub record Breaks (p : ℕ) (z : Config) : Type 0 where
  pub place : ℤ
  pub letter : ℕ
  pub other : z place ≢ letter
  pub before : (k : ℕ) → 1 ≤ k → z (place -ℤ pos (k * p)) ≡ letter

-- a configuration that breaks a period isn't periodic
pub not_periodic : {p q : ℕ} {z : Config} → Breaks p z → ¬ HasPeriod q z
not_periodic {p} {q} {z} h period =
    let e : ℤ = h.place -ℤ pos (q * p) in
    h.other (sym (ap z (omega (arith, ints))) ∙ RepeatsRight-times p q z e (RepeatsRight-period period e) e (omega (arith, ints)) ∙ h.before q period.some)

-- if a configuration breaks a period of its image, as many configurations as are wanted have one image: it is moved by one period, by two and so on
pub AreMany-moved : {r : LocalRule} {z : Config} {p : ℕ} → IsConfig r.states z → HasPeriod p (image_of r z) → Breaks p z → (n : ℕ)
    → AreMany r n (λ m j. z (j +ℤ pos (m * p)))
AreMany-moved {r} {z} {p} hz period h n = record {
  configs = λ m j. hz (j +ℤ pos (m * p));
  differ = λ l m less most. (
    h.place -ℤ pos (m * p),
    λ e.
        let turns : l * p + (m - l) * p ≡ m * p = sym (add-mul l (m - l) p) ∙ ap (λ a. a * p) (omega arith) in
        let here : h.place -ℤ pos (m * p) +ℤ pos (m * p) ≡ h.place = omega (arith, ints) in
        h.other (sym (ap z here) ∙ sym e ∙ ap z (omega (arith, ints)) ∙ h.before (m - l) (omega arith)),
  );
  one_image = λ m. fun_ext (λ j. moved m j ∙ sym (moved 0 j));
}
  where
    moved : (m : ℕ) (j : ℤ) → image_of r (λ k. z (k +ℤ pos (m * p))) j ≡ image_of r z j
    moved m j = image_of-moved r z (pos (m * p)) j ∙ RepeatsRight-times m p (image_of r z) j (RepeatsRight-period period j) j (omega (arith, ints))

-- if there is an erasable pair, some configuration breaks a period of its image: one word stands again and again, but for one block, where the other word stands
pub broken : {r : LocalRule} {x y : List ℕ} → IsRule r → IsErasable r x y
    → (z : Config) × IsConfig r.states z × HasPeriod (length x) (image_of r z) × Breaks (length x) z
broken {r} {x} {y} rule h = (
  z,
  IsConfig-joined (ring_letter-below ring) (pos 0) (λ a. ⊎_elim (h.second a (c (pos a))) (λ l. omega (arith, get_or_past y a (c (pos a)) l, ring_letter-below ring (pos a))) (cases_lt a (length y))),
  subst (HasPeriod n) (fun_ext (image_of-exchange rule h (pos 0) (run-ring x) (sym (run-by_letters z (pos 0) n y (sym h.one_length) (λ a l. sym (inside a l))))
      (λ j l. sym (left j l)) (λ j l.
      let a : ℕ = unsigned_abs j in
      let here : pos a ≡ j = omega (arith, ints) in
      sym (joined-right c (pos 0) f j a (omega (arith, ints)) ∙ get_or_past y a (c (pos a)) (omega (arith, ints, h.one_length)) ∙ ap c here)))) (HasPeriod-image r period),
  record {
    place = pos 0 +ℤ pos d.place;
    letter = get_or x d.place 0;
    other = λ e. d.other (sym e ∙ inside d.place d.within);
    before = λ k some.
        let far : 1 * n ≤ k * n = mul-le 1 n k n some (omega arith) in
        left _ (omega (arith, ints, far, d.within)) ∙ RepeatsLeft-times k n c (pos n) (RepeatsLeft-period period (pos n)) (pos 0 +ℤ pos d.place) (omega (arith, ints, d.within))
        ∙ sym (get_or-run c (pos 0) _ n d.place d.within refl) ∙ ap (λ w. get_or w d.place 0) (run-ring x);
  },
)
  where
    n : ℕ
    n = length x

    c : Config
    c = ring_letter x

    f : ℕ → ℕ
    f a = get_or y a (c (pos a))

    z : Config
    z = joined c (pos 0) f

    d : DifferAt x y
    d = differ_at x y h.one_length h.different

    ring : IsRing r.states x
    ring = record { word = h.first; some = omega (arith, IsErasable-long h) }

    period : HasPeriod n c
    period = HasPeriod-ring x ring.some

    left : (j : ℤ) → j <ℤ pos 0 → z j ≡ c j
    left = joined-left c (pos 0) f

    inside : (a : ℕ) → a < n → z (pos 0 +ℤ pos a) ≡ get_or y a 0
    inside a l = joined-right c (pos 0) f (pos 0 +ℤ pos a) a refl ∙ get_or_default y a (c (pos a)) 0 (omega (arith, h.one_length))

-- if no more configurations than some number have one image, a rule is surjective
pub IsSurjective-few : {r : LocalRule} → IsRule r → (n : ℕ) → ((xs : ℕ → Config) → ¬ AreMany r n xs) → IsSurjective r
IsSurjective-few rule n few = (garden_of_eden rule).1 (λ x y h. let (z, hz, period, breaks) = broken rule h in few _ (AreMany-moved hz period breaks n))
