-- Which verdicts one rule after another has, from those of both.
use Rattle.std.proofs.Common.{◌≡◌, ℕ, ◌+◌, ◌-◌, ◌<◌, ◌≤◌, ◌↔◌, List, length, take, slice_index, ℤ, pos, ◌+ℤ◌, ◌-ℤ◌, unsigned_abs, refl, sym, ap, ap₂, ◌∙◌, subst, arith}
use Rattle.std.proofs.Math.Path.{fun_ext}
use Rattle.word_image.proofs.Common.{ints, by_lt_z, LocalRule, IsRule, IsWord, IsDetermined, image, local_map, IsSurjective, mirrored, IsRule-mirrored, some_letter}
use Rattle.tail_config.proofs.Common.{WindowMap, IsInverseMap, map_letter, Config, IsConfig, run, image_of, zeros, AgreeFarLeft, AgreeFarRight, IsInjective, IsRightClosing, IsLeftClosing, IsOpen, length-run, IsWord-run, get_or-run, image-run, same-run, take-run, image_of-window}
use Rattle.tail_laws.proofs.Common.{IsLeftClosing-mirrored}
use Rattle.config_laws.specs.Maps.{IsRightClosingMap}
use Rattle.config_laws.specs.Composed.{IsOneAfter, IsUndoneBy}
use Rattle.config_laws.proofs.Images.{IsConfig-image}
use Rattle.config_laws.proofs.Joined.{meeting, meeting-left, meeting-right, IsConfig-meeting, image_of-behind}
use Rattle.config_laws.proofs.Everywhere.{IsInjective-everywhere, IsRightClosing-everywhere, IsSurjective-preinjective_map}
use Rattle.config_laws.proofs.Flips.{flip, flip-flip, image_of-flip}
use Rattle.config_laws.proofs.Dense.{IsSurjective-everywhere}
use Rattle.config_laws.proofs.BothSides.{IsRightContinuingMap-closing}
use Rattle.config_laws.proofs.Inverses.{IsOntoMap-injective, mapped-image_of}

-- the letters are those of the other rule
over : {k l : ℕ} {x : Config} → k ≡ l → IsConfig k x → IsConfig l x
over {x = x} e h = subst (λ n. IsConfig n x) e h

-- the image of a configuration under the first rule is one over the letters of the second
IsConfig-between : {r s t : LocalRule} → IsRule r → IsOneAfter r s t → (x : Config) → IsConfig s.states (image_of r x)
IsConfig-between rule c x = over (sym c.second) (IsConfig-image rule x)

-- the images agree far to the left if the configurations do
agree_left_image : (r : LocalRule) {x y : Config} → AgreeFarLeft x y → AgreeFarLeft (image_of r x) (image_of r y)
agree_left_image r {x} {y} (p, left) = (p -ℤ r.offset -ℤ pos r.width, λ i l. image_of-window r x y i i (λ a h. left (i +ℤ r.offset +ℤ pos a) (omega (arith, ints))))

-- the images agree far to the right if the configurations do
agree_right_image : (r : LocalRule) {x y : Config} → AgreeFarRight x y → AgreeFarRight (image_of r x) (image_of r y)
agree_right_image r {x} {y} (p, right) = (p -ℤ r.offset, λ i l. image_of-window r x y i i (λ a h. right (i +ℤ r.offset +ℤ pos a) (omega (arith, ints))))

-- two configurations of some kind are equal if they have one image
abbrev Tells : (Config → Config → Type 0) → LocalRule → Type 0
Tells Kind r = (x y : Config) → IsConfig r.states x → IsConfig r.states y → image_of r x ≡ image_of r y → Kind x y → x ≡ y

-- one rule after another tells configurations of some kind apart exactly if both do, if images of this kind are of it, and if the second rule does where the first and both together do
Tells-after : {r s t : LocalRule} {Kind : Config → Config → Type 0} → IsRule r → IsOneAfter r s t
    → ((x y : Config) → Kind x y → Kind (image_of r x) (image_of r y))
    → (Tells Kind r → Tells Kind t → Tells Kind s) → Tells Kind t ↔ (Tells Kind r × Tells Kind s)
Tells-after {r} {s} {t} {Kind} rule c images second = (
  λ whole.
      let inner : Tells Kind r = grind arith in
      (inner, second inner whole),
  λ (inner, outer) x y hx hy same kind.
      let gx = over c.states hx in
      let gy = over c.states hy in
      inner x y gx gy (outer (image_of r x) (image_of r y) (IsConfig-between rule c x) (IsConfig-between rule c y) (sym (c.image x gx) ∙ same ∙ c.image y gy) (images x y kind)) kind,
)

-- what is said of a composition and of both rules may be said in other words
in_words : {A B C P Q R : Type 0} → A ↔ P → B ↔ Q → C ↔ R → P ↔ (Q × R) → A ↔ (B × C)
in_words a b c h = (λ whole. let (inner, outer) = h.0 (a.0 whole) in (b.1 inner, c.1 outer), λ (inner, outer). a.1 (h.1 (b.0 inner, c.0 outer)))

-- a rule is injective exactly if it tells all configurations apart
IsInjective-tells : {r : LocalRule} → IsRule r → IsInjective r ↔ Tells (λ x y. Unit {0}) r
IsInjective-tells rule = (λ injective x y hx hy same kind. (IsInjective-everywhere rule).0 injective x y hx hy same, λ tells. (IsInjective-everywhere rule).1 (λ x y hx hy same. tells x y hx hy same tt))

-- one after the other is injective exactly if both are
pub IsInjective-after : {r s t : LocalRule} → IsRule r → IsRule s → IsRule t → IsOneAfter r s t → IsInjective t ↔ (IsInjective r × IsInjective s)
IsInjective-after {r} {s} {t} first second both c =
    in_words (IsInjective-tells both) (IsInjective-tells first) (IsInjective-tells second) (Tells-after first c (λ x y kind. kind) (λ inner whole u v hu hv same kind.
    let onto = IsOntoMap-injective first ((IsInjective-tells first).1 inner) in
    let (x, hx, is_u) = onto u (over c.second hu) in
    let (y, hy, is_v) = onto v (over c.second hv) in
    sym is_u ∙ ap (image_of r) (whole x y (over (sym c.states) hx) (over (sym c.states) hy) (c.image x hx ∙ ap (image_of s) is_u ∙ same ∙ sym (c.image y hy ∙ ap (image_of s) is_v)) kind) ∙ is_v))

-- a rule is surjective exactly if it tells configurations apart that agree far to the left and far to the right
IsSurjective-tells : {r : LocalRule} → IsRule r → IsSurjective r ↔ Tells (λ x y. AgreeFarLeft x y × AgreeFarRight x y) r
IsSurjective-tells rule =
    let law = IsSurjective-preinjective_map rule in
    (λ every x y hx hy same kind. law.0 every x y hx hy same kind.0 kind.1, λ tells. law.1 (λ x y hx hy same left right. tells x y hx hy same (left, right)))

-- one after the other is surjective exactly if both are
pub IsSurjective-after : {r s t : LocalRule} → IsRule r → IsRule s → IsRule t → IsOneAfter r s t → IsSurjective t ↔ (IsSurjective r × IsSurjective s)
IsSurjective-after {r} {s} {t} first second both c =
    in_words (IsSurjective-tells both) (IsSurjective-tells first) (IsSurjective-tells second) (Tells-after first c (λ x y kind. (agree_left_image r kind.0, agree_right_image r kind.1)) (λ inner whole.
    (IsSurjective-tells second).0 ((IsSurjective-everywhere second).1 (λ y n hy.
    let (x, hx, agree) = (IsSurjective-everywhere both).0 ((IsSurjective-tells both).1 whole) y n (over (c.second ∙ sym c.states) hy) in
    (image_of r x, IsConfig-between first c x, λ i low high. sym (ap (λ (z : Config). z i) (c.image x (over c.states hx))) ∙ agree i low high)))))

-- if the first rule is right-closing and one after the other is, so is the second: two configurations that agree to the left come, but for what is far to the left, from two that do
second_closing : {r s t : LocalRule} → IsRule r → IsOneAfter r s t → IsRightClosing r → IsRightClosingMap t → IsRightClosingMap s
second_closing {r} {s} {t} rule c inner whole u v hu hv same (p, left) =
    let i : ℤ = p -ℤ pos s.width in
    let w : Config = image_of r zeros in
    let lift = λ (z : Config) (hz : IsConfig s.states z). IsRightContinuingMap-closing rule inner zeros (meeting w z i) (λ j. some_letter rule)
    (IsConfig-meeting (IsConfig-image rule zeros) (over c.second hz) i) (i, λ j l. sym (meeting-left w z i j l)) in
    let (x, hx, (a, before_x), is_u) = lift u hu in
    let (y, hy, (b, before_y), is_v) = lift v hv in
    let one : image_of s (image_of r x) ≡ image_of s (image_of r y) = ap (image_of s) is_u ∙ image_of-behind s w u v i (λ j l. left j (omega (arith, ints))) same ∙ sym (ap (image_of s) is_v) in
    let equal : x ≡ y = whole x y (over (sym c.states) hx) (over (sym c.states) hy) (c.image x hx ∙ one ∙ sym (c.image y hy))
    (a -ℤ pos (unsigned_abs (b -ℤ a)), λ j l. sym (before_x j (omega (arith, ints))) ∙ before_y j (omega (arith, ints))) in
    fun_ext (λ j. by_lt_z j i (λ l. left j (omega (arith, ints)))
    (λ l. sym (meeting-right w u i j l) ∙ ap (λ (z : Config). z j) (sym is_u ∙ ap (image_of r) equal ∙ is_v) ∙ meeting-right w v i j l))

-- one after the other is right-closing exactly if both are
pub IsRightClosing-after : {r s t : LocalRule} → IsRule r → IsRule s → IsRule t → IsOneAfter r s t
    → IsRightClosing t ↔ (IsRightClosing r × IsRightClosing s)
IsRightClosing-after {r} first second both c =
    in_words (IsRightClosing-everywhere both) (IsRightClosing-everywhere first) (IsRightClosing-everywhere second)
    (Tells-after first c (λ x y kind. agree_left_image r kind) (λ inner. second_closing first c ((IsRightClosing-everywhere first).1 inner)))

-- the mirrored rules are one after the other
IsOneAfter-mirrored : {r s t : LocalRule} → IsRule r → IsRule s → IsRule t → IsOneAfter r s t → IsOneAfter (mirrored r) (mirrored s) (mirrored t)
IsOneAfter-mirrored {r} {s} {t} first second both c = record {
  states = c.states;
  second = c.second;
  image = λ x hx.
      let y : Config = flip x in
      let hy : IsConfig r.states y = λ i. hx _ in
      let back : flip y ≡ x = flip-flip x in
      sym (ap (image_of (mirrored t)) back) ∙ image_of-flip both (over (sym c.states) hy) ∙ ap flip (c.image y hy)
      ∙ sym (image_of-flip second (IsConfig-between first c y)) ∙ ap (image_of (mirrored s)) (sym (image_of-flip first hy) ∙ ap (image_of (mirrored r)) back);
}

-- one after the other is left-closing exactly if both are
pub IsLeftClosing-after : {r s t : LocalRule} → IsRule r → IsRule s → IsRule t → IsOneAfter r s t
    → IsLeftClosing t ↔ (IsLeftClosing r × IsLeftClosing s)
IsLeftClosing-after {r} {s} {t} first second both c =
    in_words (IsLeftClosing-mirrored both) (IsLeftClosing-mirrored first) (IsLeftClosing-mirrored second)
    (IsRightClosing-after (IsRule-mirrored first) (IsRule-mirrored second) (IsRule-mirrored both) (IsOneAfter-mirrored first second both c))

-- one after the other is open exactly if both are
pub IsOpen-after : {r s t : LocalRule} → IsRule r → IsRule s → IsRule t → IsOneAfter r s t → IsOpen t ↔ (IsOpen r × IsOpen s)
IsOpen-after first second both c =
    let right = IsRightClosing-after first second both c in
    let left = IsLeftClosing-after first second both c in (
      λ (a, b). let u = right.0 a in let v = left.0 b in ((u.0, v.0), (u.1, v.1)),
      λ (u, v). (right.1 (u.0, v.0), left.1 (u.1, v.1)),
    )

-- what is undone is injective
pub IsInjective-undone : {r s : LocalRule} → IsRule r → IsUndoneBy r s → IsInjective r
IsInjective-undone {r} {s} rule u = (IsInjective-everywhere rule).1 (λ x y hx hy same. sym (u.back x hx) ∙ ap (image_of s) same ∙ u.back y hy)

-- if s undoes r, r undoes s
pub IsUndoneBy-turned : {r s : LocalRule} → IsRule r → IsUndoneBy r s → IsUndoneBy s r
IsUndoneBy-turned {r} {s} rule u = record {
  states = sym u.states;
  back = λ y hy.
      let x = IsOntoMap-injective rule (IsInjective-undone rule u) y (over u.states hy) in
      ap (image_of r) (sym (ap (image_of s) x.2) ∙ u.back x.0 x.1) ∙ x.2;
}

-- what one after the other does with words, it does with configurations
pub IsOneAfter-words : {r s t : LocalRule} → IsRule r → IsRule s → IsRule t → t.states ≡ r.states → s.states ≡ r.states
    → t.width ≡ r.width + s.width - 1 → t.offset ≡ r.offset +ℤ s.offset
    → ((x : List ℕ) → IsWord r.states x → t.width ≤ length x + 1 → image t x ≡ image s (image r x)) → IsOneAfter r s t
IsOneAfter-words {r} {s} {t} first second both states others width offset images = record {
  states = states;
  second = others;
  image = λ x hx. fun_ext (λ i.
      let j : ℤ = i +ℤ t.offset in
      let k : ℤ = i +ℤ s.offset in
      let m : ℕ = 1 + (s.width - 1) in
      let all : 1 + (t.width - 1) ≡ m + (r.width - 1) = grind arith in
      let w : List ℕ = run x j (1 + (t.width - 1)) in
      let through : image t w ≡ image s (image r w) = images w (IsWord-run hx j (1 + (t.width - 1))) (omega (arith, length-run x j (1 + (t.width - 1)))) in
      let inner : image r w ≡ run (image_of r x) k m = ap (λ n. image r (run x j n)) all ∙ image-run first x k j m (omega (arith, ints)) in
      let one : run (image_of t x) i 1 ≡ run (image_of s (image_of r x)) i 1 =
      sym (image-run both x i j 1 refl) ∙ through ∙ ap (image s) inner ∙ image-run second (image_of r x) i k 1 refl in
      let here : i +ℤ pos 0 ≡ i = omega (arith, ints) in
      sym (ap (image_of t x) here) ∙ same-run (image_of t x) (image_of s (image_of r x)) i i 1 one 0 (omega arith) ∙ ap (image_of s (image_of r x)) here);
}

-- a rule that gives back the letters of words under their images undoes the rule that made the images
pub IsUndoneBy-words : {r s : LocalRule} → IsRule r → IsRule s → s.states ≡ r.states
    → ((n : ℕ) (x : List ℕ) → IsWord r.states x → length x ≡ n + (r.width - 1) + (s.width - 1)
    → (i j : ℕ) → j < n → pos i ≡ (pos j -ℤ r.offset -ℤ s.offset) → slice_index (image s (image r x)) j ≡ slice_index x i) → IsUndoneBy r s
IsUndoneBy-words {r} {s} first second others words = record {
  states = others;
  back = λ x hx. fun_ext (λ i.
      let j : ℕ = unsigned_abs r.offset + unsigned_abs s.offset in
      let a : ℕ = unsigned_abs (pos j -ℤ r.offset -ℤ s.offset) in
      let n : ℕ = 1 + j + j in
      let m : ℕ = n + (s.width - 1) in
      let k : ℤ = i -ℤ pos j in
      let l : ℤ = k +ℤ s.offset in
      let h : ℤ = l +ℤ r.offset in
      let w : List ℕ = run x h (m + (r.width - 1)) in
      let place : pos a ≡ (pos j -ℤ r.offset -ℤ s.offset) = omega (arith, ints) in
      let through : image s (image r w) ≡ run (image_of s (image_of r x)) k n = ap (image s) (image-run first x l h m refl) ∙ image-run second (image_of r x) k l n refl in
      let same : slice_index (image s (image r w)) j ≡ slice_index w a =
      words n w (IsWord-run hx h (m + (r.width - 1))) (omega (arith, length-run x h (m + (r.width - 1)))) a j (omega arith) place in
      sym (get_or-run (image_of s (image_of r x)) k i n j (omega arith) (omega (arith, ints)))
      ∙ ap (λ (u : List ℕ). slice_index u j) (sym through)
      ∙ same
      ∙ get_or-run x h i (m + (r.width - 1)) a (omega (arith, ints)) (omega (arith, ints)));
}

-- a rule that gives the letters of the inverse map undoes the rule
pub IsUndoneBy-map : {r s : LocalRule} {n c : ℕ} {g : WindowMap} → IsRule r → IsDetermined r n c → IsInverseMap r n c g
    → s.states ≡ r.states → s.offset ≡ g.offset → n ≤ s.width
    → ((w : List ℕ) → IsWord r.states w → length w ≡ s.width → local_map s w ≡ map_letter g (take n w)) → IsUndoneBy r s
IsUndoneBy-map {r} {s} {n} {c} {g} rule window h others offset wide letters = record {
  states = others;
  back = λ x hx. fun_ext (λ i.
      let y : Config = image_of r x in
      let p : ℤ = i +ℤ s.offset in
      letters (run y p s.width) (IsWord-run (IsConfig-image rule x) p s.width) (length-run y p s.width)
      ∙ ap (map_letter g) (take-run y p s.width n wide ∙ ap₂ (λ (o : ℤ) (m : ℕ). run y (i +ℤ o) m) offset (sym h.width))
      ∙ ap (λ (z : Config). z i) (mapped-image_of rule window h hx));
}
