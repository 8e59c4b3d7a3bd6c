-- Configurations joined at a place, and words written into them.
use Rattle.std.proofs.Common.{◌≡◌, ℕ, ◌+◌, ◌-◌, ◌<◌, List, length, get_or, ℤ, pos, negsuc, ◌+ℤ◌, ◌-ℤ◌, unsigned_abs, refl, sym, ap, ◌∙◌, arith, ◌<ℤ◌, ◌≤ℤ◌}
use Rattle.std.proofs.Math.Path.{fun_ext}
use Rattle.word_image.proofs.Common.{ints, by_lt_z, get_or_past, LocalRule, IsRule, IsWord, image}
use Rattle.tail_config.proofs.Common.{Config, IsConfig, zeros, run, image_of, run-by_letters, at_run, image_of-window}
use Rattle.config_laws.specs.Sums.{IsFinite}
use Rattle.config_laws.proofs.Images.{image_of-letters}

-- a before place 0, and then what f says
abbrev from_zero : ℕ → (ℕ → ℕ) → ℤ → ℕ
from_zero a f (pos i) = f i
from_zero a f (negsuc i) = a

-- the letters of x left of place e, and those that f says from there on
abbrev pub joined : Config → ℤ → (ℕ → ℕ) → Config
joined x e f i = from_zero (x i) f (i -ℤ e)

-- a joined configuration has the letters of x left of the place
pub joined-left : (x : Config) (e : ℤ) (f : ℕ → ℕ) (i : ℤ) → i <ℤ e → joined x e f i ≡ x i
joined-left x e f i l = grind arith

-- a joined configuration has what f says from the place on
pub joined-right : (x : Config) (e : ℤ) (f : ℕ → ℕ) (i : ℤ) (a : ℕ) → e +ℤ pos a ≡ i → joined x e f i ≡ f a
joined-right x e f i a h = grind arith

-- the letters of x and those of f, joined at a place, are a configuration if both are letters
pub IsConfig-joined : {k : ℕ} {x : Config} {f : ℕ → ℕ} → IsConfig k x → (e : ℤ) → ((a : ℕ) → f a < k) → IsConfig k (joined x e f)
IsConfig-joined hx e hf i = grind arith

-- the letters of x left of place e, and those of z from there on
abbrev pub meeting : Config → Config → ℤ → Config
meeting x z e = joined x e (λ a. z (e +ℤ pos a))

-- left of the place stand the letters of the first
pub meeting-left : (x z : Config) (e i : ℤ) → i <ℤ e → meeting x z e i ≡ x i
meeting-left x z e = joined-left x e (λ a. z (e +ℤ pos a))

-- from the place on stand the letters of the second
pub meeting-right : (x z : Config) (e i : ℤ) → e ≤ℤ i → meeting x z e i ≡ z i
meeting-right x z e i l = grind arith

-- two configurations over the same letters that meet at a place are one over these letters
pub IsConfig-meeting : {k : ℕ} {x z : Config} → IsConfig k x → IsConfig k z → (e : ℤ) → IsConfig k (meeting x z e)
IsConfig-meeting hx hz e = IsConfig-joined hx e (λ a. hz (e +ℤ pos a))

-- two configurations with one image and one node under place i have that image if they meet there
pub image_of-meeting : (r : LocalRule) (x z : Config) {y : Config} (i : ℤ)
    → ((a : ℕ) → a < r.width - 1 → x (i +ℤ r.offset +ℤ pos a) ≡ z (i +ℤ r.offset +ℤ pos a)) → image_of r x ≡ y → image_of r z ≡ y
    → image_of r (meeting x z (i +ℤ r.offset)) ≡ y
image_of-meeting r x z i node first second =
    let e : ℤ = i +ℤ r.offset in
    fun_ext (λ j. by_lt_z j i
    (λ l. image_of-window r (meeting x z e) x j j (λ a g.
    let q : ℤ = j +ℤ r.offset +ℤ pos a in
    by_lt_z q e (meeting-left x z e q) (λ h. meeting-right x z e q h ∙ sym (at_run x z e (r.width - 1) node q h (omega (arith, ints)))))
    ∙ ap (λ (u : Config). u j) first)
    (λ l. image_of-window r (meeting x z e) z j j (λ a g. meeting-right x z e (j +ℤ r.offset +ℤ pos a) (omega (arith, ints))) ∙ ap (λ (u : Config). u j) second))

-- two configurations with one image that are equal before place e and m places more have one image, too, with other letters before place e
pub image_of-behind : (r : LocalRule) (w x y : Config) (e : ℤ) → ((j : ℤ) → j <ℤ (e +ℤ pos r.width) → x j ≡ y j) → image_of r x ≡ image_of r y
    → image_of r (meeting w x e) ≡ image_of r (meeting w y e)
image_of-behind r w x y e left same = fun_ext (λ j. by_lt_z (j +ℤ r.offset) e
    (λ h. image_of-window r (meeting w x e) (meeting w y e) j j (λ a l. grind (arith, meeting-right, ints)))
    (λ h. image_of-window r (meeting w x e) x j j (λ a l. meeting-right w x e _ (omega (arith, ints))) ∙ ap (λ (z : Config). z j) same
    ∙ sym (image_of-window r (meeting w y e) y j j (λ a l. meeting-right w y e _ (omega (arith, ints))))))

-- the letters of x left of place e, those of a word from there on, and then zeros
abbrev pub written : Config → ℤ → List ℕ → Config
written x e w = joined x e (λ a. get_or w a 0)

-- a word written into a configuration over its letters, with zeros behind, makes a configuration
pub IsConfig-written : {k : ℕ} {x : Config} → 0 < k → IsConfig k x → (e : ℤ) (w : List ℕ) → IsWord k w → IsConfig k (written x e w)
IsConfig-written some hx e w hw = grind (arith, get_or_past)

-- the image of a configuration has the image of a word that was written into it
pub image_of-written : {r : LocalRule} → IsRule r → (x : Config) (i : ℤ) (w : List ℕ) (a : ℕ) → a < length w - (r.width - 1)
    → image_of r (written x (i +ℤ r.offset) w) (i +ℤ pos a) ≡ get_or (image r w) a 0
image_of-written {r} rule x i w a l =
    image_of-letters r (written x (i +ℤ r.offset) w) (i +ℤ pos a) w a l (omega arith) (λ c g.
    sym (joined-right x (i +ℤ r.offset) (λ b. get_or w b 0) (i +ℤ pos a +ℤ r.offset +ℤ pos c) (a + c) (omega (arith, ints))))

-- the word that was written into a configuration stands in it
pub run-written : (x : Config) (e : ℤ) (w : List ℕ) → run (written x e w) e (length w) ≡ w
run-written x e w = sym (run-by_letters (written x e w) e (length w) w refl (λ a l. sym (joined-right x e (λ b. get_or w b 0) (e +ℤ pos a) a refl)))

-- a word between zeros
abbrev pub between_zeros : List ℕ → Config
between_zeros w = written zeros (pos 0) w

-- the letter of a word between zeros, at a place of the word or behind it
pub letter-right : (w : List ℕ) (j : ℤ) → pos 0 ≤ℤ j → between_zeros w j ≡ get_or w (unsigned_abs j) 0
letter-right w j l = joined-right zeros (pos 0) (λ a. get_or w a 0) j (unsigned_abs j) (omega (arith, ints))

-- a word between zeros is a finite configuration
pub IsFinite-between : (w : List ℕ) → IsFinite (between_zeros w)
IsFinite-between w = (
  (pos 0, λ j l. joined-left zeros (pos 0) (λ a. get_or w a 0) j l),
  (pos (length w), λ j l. letter-right w j (omega (arith, ints)) ∙ get_or_past w (unsigned_abs j) 0 (omega (arith, ints))),
)
