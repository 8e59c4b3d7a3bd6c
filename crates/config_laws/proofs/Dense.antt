-- Every word has a preimage exactly if every configuration is matched by an image on every finite part.
use Rattle.std.proofs.Common.{◌≡◌, ℕ, ◌+◌, ◌-◌, ◌<◌, List, length, get_or, ℤ, pos, ◌+ℤ◌, ◌-ℤ◌, neg_ℤ, unsigned_abs, refl, sym, ap, subst, ◌∙◌, arith, ◌↔◌, ◌<ℤ◌, ◌≤ℤ◌}
use Rattle.word_image.proofs.Common.{ints, LocalRule, IsRule, IsPreimage, IsSurjective, some_letter}
use Rattle.tail_config.proofs.Common.{Config, IsConfig, run, image_of, zeros, length-run, get_or-run, IsWord-run, run-same}
use Rattle.config_laws.specs.Maps.{IsDenseMap}
use Rattle.config_laws.proofs.Images.{IsPreimage-run}
use Rattle.config_laws.proofs.Joined.{written, IsConfig-written, image_of-written, run-written, between_zeros}

-- a configuration whose image has the n letters of y from place i on
pub record Matches (r : LocalRule) (y : Config) (i : ℤ) (n : ℕ) : Type 0 where
  pub x : Config
  pub config : IsConfig r.states x
  pub equal : (a : ℕ) → a < n → image_of r x (i +ℤ pos a) ≡ y (i +ℤ pos a)

-- they have the same letter at each of these places
pub matches-at : {r : LocalRule} {y : Config} {i : ℤ} {n : ℕ} → (m : Matches r y i n) → (j : ℤ) → i ≤ℤ j → j <ℤ (i +ℤ pos n) → image_of r m.x j ≡ y j
matches-at {r} {y} {i} {n} m j low high =
    let here : i +ℤ pos (unsigned_abs (j -ℤ i)) ≡ j = omega (arith, ints) in
    sym (ap (image_of r m.x) here) ∙ m.equal (unsigned_abs (j -ℤ i)) (omega (arith, ints)) ∙ ap y here

-- if every word has a preimage, each configuration is matched on any run: a preimage of the run is written under it
pub matches : {r : LocalRule} {y : Config} → IsRule r → IsSurjective r → IsConfig r.states y → (i : ℤ) (n : ℕ) → Matches r y i n
matches {r} {y} rule every hy i n =
    let (w, p) = every (run y i n) (IsWord-run hy i n) in
    record {
      x = written zeros (i +ℤ r.offset) w;
      config = IsConfig-written (some_letter rule) (λ j. some_letter rule) (i +ℤ r.offset) w p.word;
      equal = λ a l. image_of-written rule zeros i w a (omega (arith, p.long, length-run y i n))
          ∙ ap (λ u. get_or u a 0) p.maps ∙ get_or-run y i (i +ℤ pos a) n a l refl;
    }

-- the images of a surjective rule are dense
IsDenseMap-surjective : {r : LocalRule} → IsRule r → IsSurjective r → IsDenseMap r
IsDenseMap-surjective {r} rule every y n hy =
    let s : ℤ = neg_ℤ (pos n) in
    let m : Matches r y s (n + n + 1) = matches rule every hy s (n + n + 1) in
    (m.x, m.config, λ i low high. matches-at m i low (omega (arith, ints)))

-- a word that stands in an image has a preimage
pub preimage_inside : {r : LocalRule} {x : Config} → IsRule r → IsConfig r.states x → (i : ℤ) (w : List ℕ) → run (image_of r x) i (length w) ≡ w
    → (z : List ℕ) × IsPreimage r w z
preimage_inside {r} {x} rule hx i w same =
    let z : List ℕ = run x (i +ℤ r.offset) (length w + (r.width - 1)) in
    (z, subst (λ v. IsPreimage r v z) same (IsPreimage-run rule hx i (i +ℤ r.offset) (length w) refl))

-- if the images are dense, every word has a preimage
IsSurjective-dense : {r : LocalRule} → IsRule r → IsDenseMap r → IsSurjective r
IsSurjective-dense {r} rule dense w hw =
    let y : Config = between_zeros w in
    let found = dense y (length w) (IsConfig-written (some_letter rule) (λ i. some_letter rule) (pos 0) w hw) in
    preimage_inside rule found.1 (pos 0) w
    (run-same (image_of r found.0) y (pos 0) (pos 0) (length w) (λ a l. found.2 (pos 0 +ℤ pos a) (omega (arith, ints)) (omega (arith, ints))) ∙ run-written zeros (pos 0) w)

-- a rule is surjective exactly if the images are dense
pub IsSurjective-everywhere : {r : LocalRule} → IsRule r → IsSurjective r ↔ IsDenseMap r
IsSurjective-everywhere rule = (IsDenseMap-surjective rule, IsSurjective-dense rule)
