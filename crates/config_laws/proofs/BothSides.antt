-- A rule that is closing on both sides: what agrees for long enough with the image of a configuration is the image of one that agrees with that configuration.
use Rattle.std.proofs.Common.{◌≡◌, ℕ, ◌+◌, ◌-◌, ◌<◌, ℤ, pos, ◌+ℤ◌, ◌-ℤ◌, neg_ℤ, unsigned_abs, sym, ap, ◌∙◌, subst, arith, ◌<ℤ◌, ◌≤ℤ◌}
use Rattle.std.proofs.Math.IntN.{neg_ℤ-neg_ℤ}
use Rattle.std.proofs.Math.Path.{fun_ext}
use Rattle.word_image.proofs.Common.{ints, by_lt_z, LocalRule, IsRule, mirrored, IsRightAhead, IsLeftAhead, IsRule-mirrored, mirrored-mirrored}
use Rattle.tail_config.proofs.Common.{IsRightClosing, IsLeftClosing, IsOpen, Config, IsConfig, image_of, image_of-window}
use Rattle.tail_laws.proofs.Common.{IsRightClosing-window, IsLeftClosing-window}
use Rattle.garden_laws.proofs.Preinjective.{IsSurjective-right_closing}
use Rattle.config_laws.specs.Maps.{IsEvenlyOpenMap, IsOntoMap, IsRightContinuingMap, IsLeftContinuingMap}
use Rattle.config_laws.proofs.Flips.{flip, image_of-flip}
use Rattle.config_laws.proofs.GoesOn.{enough, GoesOn, goes_on, image_of-before}
use Rattle.config_laws.proofs.Dense.{Matches, matches-at, matches}

-- a configuration that agrees with x behind the first letter under place i, and whose image agrees with y up to place i
pub record GoesBack (r : LocalRule) (x y : Config) (i : ℤ) : Type 0 where
  pub z : Config
  pub config : IsConfig r.states z
  pub after : (j : ℤ) → (i +ℤ r.offset) <ℤ j → z j ≡ x j
  pub before : (j : ℤ) → j ≤ℤ i → image_of r z j ≡ y j

-- what goes on under the mirrored rule goes back, read backwards
abbrev pub GoesBack-flip : {r : LocalRule} {x y : Config} {e : ℤ} → IsRule r → (i : ℤ) → i +ℤ e ≡ pos 0 → GoesOn (mirrored r) (flip x) (flip y) e → GoesBack r x y i
GoesBack-flip {r} {x} {y} {e} rule i across g =
    let same : image_of r (flip g.z) ≡ flip (image_of (mirrored r) g.z) =
    subst (λ q. image_of q (flip g.z) ≡ flip (image_of (mirrored r) g.z)) (mirrored-mirrored rule) (image_of-flip (IsRule-mirrored rule) g.config) in
    record {
      z = flip g.z;
      config = λ j. g.config (neg_ℤ j);
      after = λ j l. g.before (neg_ℤ j) (omega (arith, ints, rule.shape.least_width)) ∙ ap x (neg_ℤ-neg_ℤ j);
      before = λ j l. ap (λ (u : Config). u j) same ∙ g.after (neg_ℤ j) (omega (arith, ints)) ∙ ap y (neg_ℤ-neg_ℤ j);
    }

-- the mirrored rule makes of x read backwards what agrees with y read backwards where the image of x agrees with y
pub agree-flip : {r : LocalRule} {x : Config} → IsRule r → IsConfig r.states x → (y : Config) (i : ℤ) (a : ℕ)
    → image_of r x (i -ℤ pos a) ≡ y (i -ℤ pos a) → image_of (mirrored r) (flip x) (neg_ℤ i +ℤ pos a) ≡ flip y (neg_ℤ i +ℤ pos a)
agree-flip {r} {x} rule hx y i a e =
    let place : neg_ℤ (neg_ℤ i +ℤ pos a) ≡ i -ℤ pos a = omega (arith, ints) in
    ap (λ (u : Config). u (neg_ℤ i +ℤ pos a)) (image_of-flip rule hx) ∙ ap (image_of r x) place ∙ e ∙ sym (ap y place)

-- under a left look-ahead what goes back is there if the image of x agrees with y on enough places up to i
goes_back : {r : LocalRule} {n : ℕ} {x y : Config} → IsRule r → IsLeftAhead r n → IsConfig r.states x → IsConfig r.states y → (i : ℤ)
    → ((a : ℕ) → a < enough r n → image_of r x (i -ℤ pos a) ≡ y (i -ℤ pos a)) → GoesBack r x y i
goes_back {r} {n} {x} {y} rule ahead hx hy i agree =
    GoesBack-flip rule i (omega (arith, ints)) (goes_on {r = mirrored r} {n = n} {x = flip x} {y = flip y} (IsRule-mirrored rule) ahead (λ j. hx (neg_ℤ j)) (λ j. hy (neg_ℤ j)) (neg_ℤ i) (λ a l. agree-flip rule hx y i a (agree a l)))

-- if the image of x agrees with y behind place i, the whole image does then
pub image_of-back : {r : LocalRule} {x y : Config} {i : ℤ} → IsRule r → (h : GoesBack r x y i) → ((j : ℤ) → i <ℤ j → image_of r x j ≡ y j)
    → image_of r h.z ≡ y
image_of-back rule h far = grind (arith, image_of-window, ints)

-- a configuration whose image is y, and that agrees with x between p and q
pub record Between (r : LocalRule) (x y : Config) (p q : ℤ) : Type 0 where
  pub z : Config
  pub config : IsConfig r.states z
  pub inside : (j : ℤ) → (p +ℤ r.offset) <ℤ j → j <ℤ (q +ℤ r.offset +ℤ pos (r.width - 1)) → z j ≡ x j
  pub image : image_of r z ≡ y

-- a configuration between is there if the image of x agrees with y from enough places before p to enough places after q
pub between : {r : LocalRule} {n l : ℕ} {x y : Config} → IsRule r → IsRightAhead r n → IsLeftAhead r l → IsConfig r.states x → IsConfig r.states y
    → (p q : ℤ) → p ≤ℤ q
    → ((j : ℤ) → p <ℤ (j +ℤ pos (enough r l)) → j <ℤ (q +ℤ pos (enough r n)) → image_of r x j ≡ y j) → Between r x y p q
between {r} {n} {l} {x} {y} rule right left hx hy p q order agree =
    let g : GoesOn r x y q = goes_on rule right hx hy q (λ a h. agree (q +ℤ pos a) (omega (arith, ints, left.some)) (omega (arith, ints))) in
    let far : (j : ℤ) → p <ℤ (j +ℤ pos (enough r l)) → image_of r g.z j ≡ y j = λ j low.
    by_lt_z j q (λ h. image_of-before g j h ∙ agree j low (omega (arith, ints))) (g.after j) in
    let b : GoesBack r g.z y p = goes_back rule left g.config hy p (λ a h. far (p -ℤ pos a) (omega (arith, ints))) in
    record {
      z = b.z;
      config = b.config;
      inside = λ j low high. b.after j low ∙ g.before j high;
      image = image_of-back rule b (λ j h. far j (omega (arith, ints)));
    }

-- up to where the image has to agree for two look-aheads
abbrev most : LocalRule → ℕ → ℕ → ℕ → ℕ
most r n k l = n + unsigned_abs r.offset + r.width + enough r k + enough r l

-- a rule that is closing on both sides is open, evenly
pub IsEvenlyOpenMap-closing : {r : LocalRule} → IsRule r → IsOpen r → IsEvenlyOpenMap r
IsEvenlyOpenMap-closing {r} rule closing n =
    let (k, right) = (IsRightClosing-window rule).0 closing.0 in
    let (l, left) = (IsLeftClosing-window rule).0 closing.1 in (
      most r n k l,
      λ x hx y hy agree.
          let far : ℤ = pos (most r n k l) in
          let b = between rule right left hx hy (pos (enough r l) -ℤ far) (far -ℤ pos (enough r k)) (omega (arith, ints)) (λ j low high. agree j (omega (arith, ints)) (omega (arith, ints))) in
          (b.z, b.config, (λ j low high. sym (b.inside j (omega (arith, ints)) (omega (arith, ints)))), b.image),
    )

-- a rule that is closing on both sides takes some configuration to each
pub IsOntoMap-closing : {r : LocalRule} → IsRule r → IsOpen r → IsOntoMap r
IsOntoMap-closing {r} rule closing y hy =
    let (k, right) = (IsRightClosing-window rule).0 closing.0 in
    let (l, left) = (IsLeftClosing-window rule).0 closing.1 in
    let m : Matches r y (pos 0) (enough r l + enough r k) = grind (arith, matches, IsSurjective-right_closing) in
    let p : ℤ = pos (enough r l) in
    let b = between rule right left m.config hy p p (omega (arith, ints)) (λ j low high. matches-at m j (omega (arith, ints)) (omega (arith, ints))) in
    (b.z, b.config, b.image)

-- a rule that is right-closing is right-continuing
pub IsRightContinuingMap-closing : {r : LocalRule} → IsRule r → IsRightClosing r → IsRightContinuingMap r
IsRightContinuingMap-closing {r} rule closing x y hx hy (p, left) =
    let ahead = (IsRightClosing-window rule).0 closing in
    let i : ℤ = p -ℤ pos (enough r ahead.0) in
    let g = goes_on rule ahead.1 hx hy i (λ a l. left (i +ℤ pos a) (omega (arith, ints))) in (
      g.z,
      g.config,
      (i +ℤ r.offset, λ j l. sym (g.before j (omega (arith, ints)))),
      fun_ext (λ j. by_lt_z j i (λ l. image_of-before g j l ∙ left j (omega (arith, ints))) (g.after j)),
    )

-- a rule that is left-closing is left-continuing
pub IsLeftContinuingMap-closing : {r : LocalRule} → IsRule r → IsLeftClosing r → IsLeftContinuingMap r
IsLeftContinuingMap-closing {r} rule closing x y hx hy (p, right) =
    let ahead = (IsLeftClosing-window rule).0 closing in
    let i : ℤ = p +ℤ pos (enough r ahead.0) in
    let g = goes_back rule ahead.1 hx hy i (λ a l. right (i -ℤ pos a) (omega (arith, ints))) in
    (g.z, g.config, (i +ℤ r.offset, λ j l. sym (g.after j l)), image_of-back rule g (λ j l. right j (omega (arith, ints))))
