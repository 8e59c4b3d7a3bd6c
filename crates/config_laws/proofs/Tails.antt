-- Under a surjective rule each configuration that repeats far out is the image of one that does: a preimage of many periods passes one node twice, and goes round between for ever.
use Rattle.std.proofs.Common.{◌≡◌, ℕ, ◌+◌, ◌*◌, ◌<◌, length, ℤ, pos, ◌+ℤ◌, ◌-ℤ◌, neg_ℤ, unsigned_abs, refl, sym, ap, ◌∙◌, arith, ◌<ℤ◌, ◌≤ℤ◌}
use Rattle.word_image.proofs.Common.{ints, by_lt_z, LocalRule, IsRule, node_count, mirrored, IsSurjective, IsRule-mirrored, some_letter}
use Rattle.tail_config.proofs.Common.{RepeatsRight, Config, IsConfig, run, image_of, zeros}
use Rattle.config_laws.specs.Sums.{IsFinite}
use Rattle.config_laws.specs.Repeating.{RepeatsFarLeft, RepeatsFarRight, HasTails, IsOntoTails}
use Rattle.config_laws.proofs.Joined.{IsConfig-written, run-written, between_zeros, IsFinite-between}
use Rattle.config_laws.proofs.Flips.{flip}
use Rattle.config_laws.proofs.GoesOn.{image_of-before}
use Rattle.config_laws.proofs.BothSides.{Between, GoesBack, GoesBack-flip, agree-flip, image_of-back}
use Rattle.config_laws.proofs.Dense.{Matches, matches-at, matches, preimage_inside}
use Rattle.config_laws.proofs.Loops.{LoopsOn, loops_on, some_loop}

-- what goes back from a place between e and p, and repeats far to the left
record LoopsBack (r : LocalRule) (x y : Config) (e p : ℤ) : Type 0 where
  place : ℤ
  low : e ≤ℤ place
  high : place ≤ℤ p
  goes : GoesBack r x y place
  repeats : RepeatsFarLeft goes.z

-- what repeats far to the left repeats to the right, read backwards
repeats_flipped : {y : Config} (left : RepeatsFarLeft y) → RepeatsRight left.period (flip y) (neg_ℤ left.place)
repeats_flipped left j l = grind (arith, ints)

-- what repeats far to the right repeats to the left, read backwards
RepeatsFarLeft-flip : {z : Config} → RepeatsFarRight z → RepeatsFarLeft (flip z)
RepeatsFarLeft-flip right = record {
  place = neg_ℤ right.place;
  period = right.period;
  some = right.some;
  again = grind (arith, ints);
}

-- a loop back is there if y repeats far to the left, and the image of x agrees with y there for long enough
loops_back : {r : LocalRule} {x y : Config} → IsRule r → IsConfig r.states x → (left : RepeatsFarLeft y)
    → ((a : ℕ) → a < node_count r * left.period → image_of r x (left.place -ℤ pos a) ≡ y (left.place -ℤ pos a))
    → LoopsBack r x y (left.place -ℤ pos (node_count r * left.period)) left.place
loops_back {r} {x} {y} rule hx left agree =
    let at = some_loop {r = mirrored r} {x = flip x} {y = flip y} (IsRule-mirrored rule) (λ j. hx (neg_ℤ j)) (neg_ℤ left.place) left.period left.some (repeats_flipped left) (λ a l. agree-flip rule hx y left.place a (agree a l)) in
    let on : LoopsOn (mirrored r) (flip x) (flip y) at.place = loops_on {r = mirrored r} {x = flip x} {y = flip y} (λ j. hx (neg_ℤ j)) at.loop in
    record {
      place = neg_ℤ at.place;
      low = omega (arith, ints);
      high = omega (arith, ints);
      goes = GoesBack-flip rule (neg_ℤ at.place) (omega (arith, ints)) on.goes;
      repeats = RepeatsFarLeft-flip on.repeats;
    }

-- what agrees with x behind some place repeats far to the right if x does
abbrev RepeatsFarRight-behind : {x z : Config} (e : ℤ) → ((j : ℤ) → e <ℤ j → z j ≡ x j) → RepeatsFarRight x → RepeatsFarRight z
RepeatsFarRight-behind {x} {z} e same h = record {
  place = h.place +ℤ pos (unsigned_abs (e -ℤ h.place) + 1);
  period = h.period;
  some = h.some;
  again = λ j l. same (j +ℤ pos h.period) (omega (arith, ints)) ∙ h.again j (omega (arith, ints)) ∙ sym (same j (omega (arith, ints)));
}

-- if y repeats left of p and right of q, and the image of x agrees with it for as many periods more as there are nodes, y is the image of what repeats far out and agrees with x between
pub between_tails : {r : LocalRule} {x y : Config} → IsRule r → IsConfig r.states x → (left : RepeatsFarLeft y) (right : RepeatsFarRight y)
    → left.place ≤ℤ right.place
    → ((j : ℤ) → left.place <ℤ (j +ℤ pos (node_count r * left.period + 1)) → j <ℤ (right.place +ℤ pos (node_count r * right.period)) → image_of r x j ≡ y j)
    → (b : Between r x y left.place right.place) × HasTails b.z
between_tails {r} {x} {y} rule hx left right order agree =
    let at = some_loop rule hx right.place right.period right.some right.again (λ a h. agree (right.place +ℤ pos a) (omega (arith, ints)) (omega (arith, ints))) in
    turned (loops_on hx at.loop) at.later at.within
  where
    turned : {e : ℤ} → LoopsOn r x y e → right.place ≤ℤ e → e ≤ℤ (right.place +ℤ pos (node_count r * right.period))
        → (b : Between r x y left.place right.place) × HasTails b.z
    turned {e} on later within =
        let far : (j : ℤ) → left.place <ℤ (j +ℤ pos (node_count r * left.period + 1)) → image_of r on.goes.z j ≡ y j = λ j low.
        by_lt_z j e (λ h. image_of-before on.goes j h ∙ agree j low (omega (arith, ints))) (on.goes.after j) in
        let b = loops_back rule on.goes.config left (λ a h. far (left.place -ℤ pos a) (omega (arith, ints))) in (
          record {
            z = b.goes.z;
            config = b.goes.config;
            inside = λ j low high. b.goes.after j (omega (arith, ints, b.high)) ∙ on.goes.before j (omega (arith, ints));
            image = image_of-back rule b.goes (λ j h. far j (omega (arith, ints, b.low)));
          },
          (b.repeats, RepeatsFarRight-behind (b.place +ℤ r.offset) b.goes.after on.repeats),
        )

-- what repeats far to the right does so from a place behind e on
pub repeats_from : {y : Config} → (e : ℤ) → RepeatsFarRight y → (h : RepeatsFarRight y) × (e ≤ℤ h.place)
repeats_from {y} e right = let h = RepeatsFarRight-behind {x = y} {z = y} e (λ j l. refl) right in (h, omega (arith, ints))

-- under a surjective rule each configuration that repeats far out is the image of one that does
pub IsOntoTails-surjective : {r : LocalRule} → IsRule r → IsSurjective r → IsOntoTails r
IsOntoTails-surjective {r} rule every y hy (left, first) =
    let (right, order) = repeats_from left.place first in
    let l : ℕ = node_count r * left.period in
    let s : ℤ = left.place -ℤ pos l in
    let m : Matches r y s (l + unsigned_abs (right.place -ℤ left.place) + node_count r * right.period) = matches rule every hy s _ in
    let (b, tails) = between_tails rule m.config left right order (λ j low high. matches-at m j (omega (arith, ints)) (omega (arith, ints))) in
    (b.z, b.config, tails, b.image)

-- a finite configuration repeats far out
HasTails-finite : {x : Config} → IsFinite x → HasTails x
HasTails-finite {x} ((p, left), (q, right)) = (
  record { place = p -ℤ pos 1; period = 1; some = omega arith; again = λ j l. left (j -ℤ pos 1) (omega (arith, ints)) ∙ sym (left j (omega (arith, ints))) },
  record { place = q +ℤ pos 1; period = 1; some = omega arith; again = λ j l. right (j +ℤ pos 1) (omega (arith, ints)) ∙ sym (right j (omega (arith, ints))) },
)

-- a rule that takes configurations that repeat far out to all of them takes some word to each
pub IsSurjective-tails : {r : LocalRule} → IsRule r → IsOntoTails r → IsSurjective r
IsSurjective-tails {r} rule onto w hw =
    let (x, hx, tails, same) = onto (between_zeros w) (IsConfig-written (some_letter rule) (λ j. some_letter rule) (pos 0) w hw) (HasTails-finite (IsFinite-between w)) in
    preimage_inside rule hx (pos 0) w (ap (λ z. run z (pos 0) (length w)) same ∙ run-written zeros (pos 0) w)
