-- The Garden of Eden theorem over configurations: a rule is surjective exactly where it is preinjective (Moore 1962, Myhill 1963).
use Rattle.std.proofs.Common.{◌≡◌, ◌≢◌, ℕ, ◌+◌, ◌-◌, ◌<◌, ◌↔◌, List, length, ℤ, pos, ◌+ℤ◌, ◌-ℤ◌, unsigned_abs, refl, sym, ap, ◌∙◌, subst, ⊎_elim, arith, ◌≤ℤ◌}
use Rattle.word_image.proofs.Common.{ints, LocalRule, IsRule, IsSurjective, IsErasable}
use Rattle.tail_config.proofs.Common.{Config, IsConfig, run, image_of, AgreeFarLeft, AgreeFarRight, IsInjective, IsRightClosing, IsLeftClosing, cell, cells, length-run, run-same, same-run, take-run, last-run, HaveOneImage-run, cell-below, cell-right, cells-middle, same_left_part, inside_zeros, IsTail-inside_zeros, same_or_differ, DifferAt-different}
use Rattle.garden_laws.specs.Preinjective.{IsPreinjective}
use Rattle.garden_laws.proofs.Exchange.{image_of-exchange}
use Rattle.garden_laws.proofs.GardenOfEden.{NoneErasable, garden_of_eden}

-- two runs that agree at both ends and share an image are an erasable pair, if they differ
IsErasable-run : {r : LocalRule} {x y : Config} → IsRule r → IsConfig r.states x → IsConfig r.states y → ((i : ℤ) → image_of r x i ≡ image_of r y i)
    → (s e : ℤ) (n : ℕ) → s +ℤ pos n ≡ e
    → run x s (r.width - 1) ≡ run y s (r.width - 1) → run x e (r.width - 1) ≡ run y e (r.width - 1)
    → run x s (n + (r.width - 1)) ≢ run y s (n + (r.width - 1)) → IsErasable r (run x s (n + (r.width - 1))) (run y s (n + (r.width - 1)))
IsErasable-run {r} {x} {y} rule hx hy share s e n end front back other =
    let m : ℕ = r.width - 1 in
    let o : ℤ = s -ℤ r.offset in
    let one = HaveOneImage-run rule hx hy o s n (omega (arith, ints)) (run-same (image_of r x) (image_of r y) o o n (λ a l. share (o +ℤ pos a))) in
    record {
      first = one.first;
      second = one.second;
      one_length = one.first_long ∙ sym one.second_long;
      different = other;
      one_image = one.one_image;
      same_front = take-run x s (n + m) m (omega arith) ∙ front ∙ sym (take-run y s (n + m) m (omega arith));
      same_back = last-run x s e n m end ∙ back ∙ sym (last-run y s e n m end);
    }

-- where no two words are an erasable pair, configurations that share an image and agree far out on both sides are equal
pub agree_between : {r : LocalRule} {x y : Config} → IsRule r → NoneErasable r → IsConfig r.states x → IsConfig r.states y
    → ((i : ℤ) → image_of r x i ≡ image_of r y i)
    → AgreeFarLeft x y → AgreeFarRight x y → (i : ℤ) → x i ≡ y i
agree_between {r} {x} {y} rule none hx hy share (p, left) (q, right) i =
    let m : ℕ = r.width - 1 in
    let s : ℤ = p -ℤ pos m -ℤ pos (unsigned_abs (i -ℤ p)) in
    let n : ℕ = unsigned_abs (q -ℤ s) + unsigned_abs (i -ℤ s) + 1 in
    let e : ℤ = s +ℤ pos n in
    let front : run x s m ≡ run y s m = run-same x y s s m (λ a l. left (s +ℤ pos a) (omega (arith, ints))) in
    let back : run x e m ≡ run y e m = run-same x y e e m (λ a l. right (e +ℤ pos a) (omega (arith, ints))) in
    let at : ℕ = unsigned_abs (i -ℤ s) in
    let here : s +ℤ pos at ≡ i = omega (arith, ints) in
    ⊎_elim
    (λ same. subst (λ j. x j ≡ y j) here (same-run x y s s (n + m) same at (omega arith)))
    (λ differ. absurd (none _ _ (IsErasable-run rule hx hy share s e n refl front back (DifferAt-different differ))))
    (same_or_differ (run x s (n + m)) (run y s (n + m)) (length-run x s (n + m) ∙ sym (length-run y s (n + m))))

-- right of two words of one length inside zeros there are zeros
zeros-right : (x y : List ℕ) → length x ≡ length y → (j : ℤ) → pos (length x) ≤ℤ j → cell (inside_zeros x) j ≡ cell (inside_zeros y) j
zeros-right x y e j l = grind (arith, ints, unsigned_abs, inside_zeros, cell-right)

-- a preinjective rule has no erasable pair: its words inside zeros would share an image
none_erasable-preinjective : {r : LocalRule} → IsRule r → IsPreinjective r → NoneErasable r
none_erasable-preinjective {r} rule preinjective x y h =
    let some : 0 < r.states = omega (arith, rule.shape.least_states) in
    let tx = inside_zeros x in
    let ty = inside_zeros y in
    let left = same_left_part tx ty refl in
    let right = zeros-right x y h.one_length in
    let word : cells ty (pos 0) (length x) ≡ y = ap (cells ty (pos 0)) h.one_length ∙ cells-middle ty in
    let share = image_of-exchange rule h (pos 0) (cells-middle tx) word left (λ j l. right j (omega (arith, ints))) in
    let same = preinjective tx ty (IsTail-inside_zeros some h.first) (IsTail-inside_zeros some h.second) share (pos 0, left) (pos (length x), λ j l. right j (omega (arith, ints))) in
    h.different (sym (cells-middle tx) ∙ run-same (cell tx) (cell ty) (pos 0) (pos 0) (length x) (λ a l. same (pos 0 +ℤ pos a)) ∙ word)

-- a rule is surjective exactly where it is preinjective
pub IsSurjective-preinjective : {r : LocalRule} → IsRule r → (IsSurjective r ↔ IsPreinjective r)
IsSurjective-preinjective rule =
    let law = garden_of_eden rule in ((λ every x y hx hy. agree_between rule (law.0 every) (cell-below hx) (cell-below hy)), (λ preinjective. law.1 (none_erasable-preinjective rule preinjective)))

-- an injective rule is surjective (Amoroso and Patt 1972)
pub IsSurjective-injective : {r : LocalRule} → IsRule r → IsInjective r → IsSurjective r
IsSurjective-injective rule injective = (IsSurjective-preinjective rule).1 (λ x y hx hy share left right. injective x y hx hy share)

-- a rule that closes on one side is surjective
pub IsSurjective-right_closing : {r : LocalRule} → IsRule r → IsRightClosing r → IsSurjective r
IsSurjective-right_closing rule closing = (IsSurjective-preinjective rule).1 (λ x y hx hy share left right. closing x y hx hy share left)

pub IsSurjective-left_closing : {r : LocalRule} → IsRule r → IsLeftClosing r → IsSurjective r
IsSurjective-left_closing rule closing = (IsSurjective-preinjective rule).1 (λ x y hx hy share left right. closing x y hx hy share right)
