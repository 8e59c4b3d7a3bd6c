-- Sums of rings: a full turn has one sum wherever it begins.
use Rattle.std.proofs.Common.{◌≡◌, ℕ, zero, suc, ◌+◌, ◌*◌, ◌<◌, List, [], ◌∷◌, ◌++◌, length, map, slice_index, sum_by, ℤ, pos, negsuc, ◌+ℤ◌, refl, sym, ap, ap₂, ◌∙◌, arith, mod-eq_of_lt}
use mathlib.Core.Path.{fun_ext}
use Rattle.std.specs.List.{range_with_len}
use Rattle.std.proofs.lemmas.Int.{ints}
use Rattle.std.proofs.lemmas.List.FromFn.{fill_by_all, map-range_with_len_more}
use Rattle.std.proofs.lemmas.List.Sums.{sum_by-cons, sum_by_push}
use Rattle.word_image.specs.LocalRules.{LocalRule, local_map}
use Rattle.word_image.specs.Rings.{ring_letter, ring_letters, ring_image}
use Rattle.word_image.proofs.laws.Rings.{again-times, ring_letter-turn}

-- what a function gives from a + 1 on is what it gives one place further from a on
map-shifted : {A : Type 0} (f : ℕ → A) (a n : ℕ) → map f (range_with_len (a + 1) n) ≡ map (λ i. f (i + 1)) (range_with_len a n)
map-shifted f a zero = refl
map-shifted f a (suc n) = ap (λ xs. f (a + 1) ∷ xs) (map-shifted f (a + 1) n)

-- n terms from o on
abbrev pub terms : {A : Type 0} → (ℤ → A) → ℕ → ℤ → List A
terms g n o = map (λ i. g (pos i +ℤ o)) (range_with_len 0 n)

-- a list with its last element first gives what the list gives
abbrev pub KeepsTurns : {A B : Type 0} → (List A → B) → Type 0
KeepsTurns {A} F = (w : List A) (a : A) → F (w ++ a ∷ []) ≡ F (a ∷ w)

-- of terms that come again after n, n terms from the next place on give what those from a place on give
turn-next : {A B : Type 0} (F : List A → B) → KeepsTurns F → (g : ℤ → A) (n : ℕ) → ((i : ℤ) → g (i +ℤ pos n) ≡ g i) → (o : ℤ)
    → F (terms g n (o +ℤ pos 1)) ≡ F (terms g n o)
turn-next F turns g zero again o = refl
turn-next F turns g (suc n) again o =
    let next : suc n ≡ n + 1 = omega arith in
    let others = ap (λ h. map h (range_with_len 0 n)) (fun_ext (λ i.
    let e : pos i +ℤ (o +ℤ pos 1) ≡ pos (i + 1) +ℤ o = omega (arith, ints) in ap g e)) in
    ap (λ j. F (terms g j (o +ℤ pos 1))) next
    ∙ ap F (map-range_with_len_more (λ i. g (pos i +ℤ (o +ℤ pos 1))) 0 n n (omega arith))
    ∙ turns (terms g n (o +ℤ pos 1)) (g (pos n +ℤ (o +ℤ pos 1)))
    ∙ ap₂ (λ a xs. F (a ∷ xs)) (ap g (omega (arith, ints)) ∙ again o ∙ ap g (omega (arith, ints))) (others ∙ sym (map-shifted (λ i. g (pos i +ℤ o)) 0 n))

-- so n terms from any place on give one thing
turn-any : {A B : Type 0} (F : List A → B) → KeepsTurns F → (g : ℤ → A) (n : ℕ) → ((i : ℤ) → g (i +ℤ pos n) ≡ g i) → (o : ℤ)
    → F (terms g n o) ≡ F (terms g n (pos 0))
turn-any F turns g n again (pos i) =
    let e : pos i ≡ pos 0 +ℤ pos (i * 1) = omega (arith, ints) in
    ap (λ o. F (terms g n o)) e ∙ again-times (λ o. F (terms g n o)) 1 (turn-next F turns g n again) i (pos 0)
turn-any F turns g n again (negsuc i) =
    let e : negsuc i +ℤ pos (suc i * 1) ≡ pos 0 = omega (arith, ints) in
    sym (again-times (λ o. F (terms g n o)) 1 (turn-next F turns g n again) (suc i) (negsuc i)) ∙ ap (λ o. F (terms g n o)) e

-- they give what those from 0 on give
pub turn-all : {A B : Type 0} (F : List A → B) → KeepsTurns F → (g : ℤ → A) (n : ℕ) → ((i : ℤ) → g (i +ℤ pos n) ≡ g i) → (o : ℤ)
    → F (map (λ i. g (pos i +ℤ o)) (range_with_len 0 n)) ≡ F (map (λ i. g (pos i)) (range_with_len 0 n))
turn-all F turns g n again o =
    turn-any F turns g n again o
    ∙ ap (λ h. F (map h (range_with_len 0 n))) (fun_ext (λ i. let e : pos i +ℤ pos 0 ≡ pos i = omega (arith, ints) in ap g e))

-- the sum of a list with its last element first
sum_by-turned : (f : ℕ → ℕ) → KeepsTurns (sum_by f)
sum_by-turned f w a = omega (arith, sum_by_push f w a, sum_by-cons f a w)

-- a full turn further the same letters are read
pub ring_letters-turn : (p : List ℕ) (o : ℤ) (n : ℕ) → 0 < length p → ring_letters p (o +ℤ pos (length p)) n ≡ ring_letters p o n
ring_letters-turn p o n some =
    ap (λ h. map h (range_with_len 0 n)) (fun_ext (λ j.
    ap (ring_letter p) (omega (arith, ints)) ∙ ring_letter-turn p (o +ℤ pos j) some))

-- a full turn of letters weighs the same from any place on
pub sum_by-ring_letters : (weight : ℕ → ℕ) (p : List ℕ) (o : ℤ) → 0 < length p → sum_by weight (ring_letters p o (length p)) ≡ sum_by weight p
sum_by-ring_letters weight p o some =
    let whole = fill_by_all (λ i. ring_letter p (pos i)) p (length p) 0 refl (λ i l. ap (slice_index p) (sym (mod-eq_of_lt l))) in
    ap (λ h. sum_by weight (map h (range_with_len 0 (length p)))) (fun_ext (grind arith))
    ∙ turn-all (sum_by weight) (sum_by-turned weight) (ring_letter p) (length p) (λ i. ring_letter-turn p i some) o ∙ ap (sum_by weight) (sym whole)

-- what the rule gives on the windows of a full turn weighs the same from any place on
sum_by-windows : (r : LocalRule) (weight : ℕ → ℕ) (p : List ℕ) (o : ℤ) → 0 < length p
    → sum_by weight (map (λ i. local_map r (ring_letters p (pos i +ℤ o) r.width)) (range_with_len 0 (length p)))
    ≡ sum_by weight (map (λ i. local_map r (ring_letters p (pos i) r.width)) (range_with_len 0 (length p)))
sum_by-windows r weight p o some =
    turn-all (sum_by weight) (sum_by-turned weight) (λ i. local_map r (ring_letters p i r.width)) (length p)
    (λ i. ap (local_map r) (ring_letters-turn p i r.width some)) o

-- the image of a ring weighs what the rule gives on the windows of a full turn from the first place on
pub sum_by-ring_image-start : (r : LocalRule) (weight : ℕ → ℕ) (p : List ℕ) → 0 < length p
    → sum_by weight (ring_image r p) ≡ sum_by weight (map (λ i. local_map r (ring_letters p (pos i) r.width)) (range_with_len 0 (length p)))
sum_by-ring_image-start r weight p some = sum_by-windows r weight p r.offset some

-- the image of a ring weighs what the rule gives on the windows of a full turn from any place on, whatever its offset is
pub sum_by-ring_image-from : (r : LocalRule) (weight : ℕ → ℕ) (p : List ℕ) (o : ℤ) → 0 < length p
    → sum_by weight (ring_image r p) ≡ sum_by weight (map (λ i. local_map r (ring_letters p (pos i +ℤ o) r.width)) (range_with_len 0 (length p)))
sum_by-ring_image-from r weight p o some = sum_by-windows r weight p r.offset some ∙ sym (sum_by-windows r weight p o some)
