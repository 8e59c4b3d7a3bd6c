-- Lists that know no rule: a list that grows by what a function gives at each place, two lists that are paired, and one that is read backwards.
use Rattle.std.proofs.Common.{◌≡◌, ℕ, zero, suc, ◌+◌, ◌-◌, ◌<◌, Contains, List, [], ◌∷◌, ◌++◌, length, get_or, map, set, take, drop, reverse, length-drop, map-id, replicate, Some, refl, sym, ap, ◌∙◌, arith, append_assoc, slice_index, slice_get, take-append-drop, take_at, drop_at}
use Rattle.std.specs.List.{AllZip, range_with_len}
use Rattle.std.proofs.lemmas.List.{length-reverse, reverse-append}
use Rattle.std.proofs.lemmas.List.FromFn.{length-range_with_len, get_or-range_with_len, length-map-range_with_len, map-range_with_len_more}
use Rattle.std.proofs.Math.Seq.{set-append_seam}

-- what f gives at the first i places, with its value at i after it, is what it gives at one place more
pub letters_more : (f : ℕ → ℕ) (i a : ℕ) (before after : List ℕ) → before ≡ map f (range_with_len 0 i) → a ≡ f i → after ≡ before ++ a ∷ []
    → after ≡ map f (range_with_len 0 (i + 1))
letters_more f i a before after e g h = grind (arith, map-range_with_len_more)

-- the first i places of a row of n are filled so, and the others are d: what is stored at the next place fills it
pub filled_more : {X : Type 0} (f : ℕ → X) (d : X) (n i : ℕ) (y : X) → i < n → y ≡ f i
    → set (map f (range_with_len 0 i) ++ replicate (n - i) d) i y ≡ map f (range_with_len 0 (i + 1)) ++ replicate (n - (i + 1)) d
filled_more f d n i y l e =
    let long = length-map-range_with_len f 0 i in
    grind (arith, set-append_seam, append_assoc, map-range_with_len_more)

-- two lists of one length are paired if their elements at each place are
pub AllZip-places : {X Y : Type 0} (R : X → Y → Type 0) (xs : List X) (ys : List Y) → length xs ≡ length ys
    → ((i : ℕ) (x : X) (y : Y) → slice_get xs i ≡ Some x → slice_get ys i ≡ Some y → R x y) → AllZip R xs ys
AllZip-places R [] [] long each = tt
AllZip-places R [] (y ∷ ys) long each = absurd (omega arith)
AllZip-places R (x ∷ xs) [] long each = absurd (omega arith)
AllZip-places R (x ∷ xs) (y ∷ ys) long each = (each 0 x y refl refl, AllZip-places R xs ys (omega arith) (λ i z w at also. each (suc i) z w at also))

-- of two lists that are paired the elements at a place are
pub paired_at : {X Y : Type 0} (R : X → Y → Type 0) (xs : List X) (ys : List Y) (i : ℕ) (d : X) (e : Y) → AllZip R xs ys → i < length xs
    → R (get_or xs i d) (get_or ys i e)
paired_at R [] ys i d e all below = absurd (omega arith)
paired_at R (x ∷ xs) [] i d e all below = absurd all
paired_at R (x ∷ xs) (y ∷ ys) zero d e all below = all.0
paired_at R (x ∷ xs) (y ∷ ys) (suc i) d e all below = paired_at R xs ys i d e all.1 (omega arith)

-- two lists that are paired are of one length
pub paired_length : {X Y : Type 0} (R : X → Y → Type 0) (xs : List X) (ys : List Y) → AllZip R xs ys → length xs ≡ length ys
paired_length R [] [] all = refl
paired_length R [] (y ∷ ys) all = absurd all
paired_length R (x ∷ xs) [] all = absurd all
paired_length R (x ∷ xs) (y ∷ ys) all = ap suc (paired_length R xs ys all.1)

-- zeros at every place
pub slice_index-zeros : (n i : ℕ) → slice_index (replicate n 0) i ≡ 0
slice_index-zeros zero i = refl
slice_index-zeros (suc n) zero = refl
slice_index-zeros (suc n) (suc i) = slice_index-zeros n i

-- one number more in a row
pub range-more : (a n j : ℕ) → a + n ≡ j → range_with_len a (n + 1) ≡ range_with_len a n ++ j ∷ []
range-more a n j is =
    sym (map-id (range_with_len a (n + 1))) ∙ map-range_with_len_more (λ (i : ℕ). i) a n j is ∙ ap (λ (xs : List ℕ). xs ++ j ∷ []) (map-id (range_with_len a n))

-- each number below n is in the list of them
pub Contains-range : (n a : ℕ) → a < n → Contains (range_with_len 0 n) a
Contains-range n a l = (a, omega (arith, length-range_with_len 0 n), get_or-range_with_len 0 n a a l ∙ (let e : 0 + a ≡ a = omega arith in e))

-- a list of i + j elements read backwards begins with its last j, and goes on with the others
pub reverse-cut : (i j : ℕ) (x : List ℕ) → length x ≡ i + j → (take j (reverse x) ≡ reverse (drop i x)) × (drop j (reverse x) ≡ reverse (take i x))
reverse-cut i j x e =
    let split : reverse x ≡ reverse (drop i x) ++ reverse (take i x) = ap reverse (sym (take-append-drop i x)) ∙ reverse-append (take i x) (drop i x) in
    grind (arith, length-reverse, length-drop, take_at, drop_at)
