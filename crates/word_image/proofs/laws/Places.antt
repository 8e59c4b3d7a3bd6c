-- The element at a place of a list, where there is one.
use Rattle.std.proofs.Common.{◌≡◌, ◌≢◌, ℕ, zero, suc, ◌+◌, ◌<◌, ◌⊎◌, inl, inr, List, [], ◌∷◌, ◌++◌, length, get_or, set, take, drop, Some, Contains, refl, ap, ◌∙◌, arith, slice_get, get_or-set_same, get_or-set_other, length-set}
use Rattle.std.proofs.lemmas.Option.{slice_get_within, slice_get-get_or, get_or_from_slice_get, none-some, same_Some}

-- a place keeps its element where the list grows
pub slice_get-append : {X : Type 0} (xs ys : List X) (i : ℕ) (x : X) → slice_get xs i ≡ Some x → slice_get (xs ++ ys) i ≡ Some x
slice_get-append [] ys i x at = absurd (none-some x at)
slice_get-append (y ∷ xs) ys zero x at = at
slice_get-append (y ∷ xs) ys (suc i) x at = slice_get-append xs ys i x at

-- the new element stands last
pub slice_get-push : {X : Type 0} (xs : List X) (y : X) → slice_get (xs ++ y ∷ []) (length xs) ≡ Some y
slice_get-push [] y = refl
slice_get-push (x ∷ xs) y = slice_get-push xs y

-- an element of the longer list stood there before, or is the new one
pub slice_get-push_cases : {X : Type 0} (xs : List X) (y : X) (i : ℕ) (x : X) → slice_get (xs ++ y ∷ []) i ≡ Some x
    → (slice_get xs i ≡ Some x) ⊎ ((i ≡ length xs) × (y ≡ x))
slice_get-push_cases [] y zero x at = inr (refl, cc)
slice_get-push_cases [] y (suc i) x at = absurd (none-some x at)
slice_get-push_cases (z ∷ xs) y zero x at = inl at
slice_get-push_cases (z ∷ xs) y (suc i) x at = grind (arith, slice_get-push_cases xs y i x at)

-- a list of one element has one place
pub only_place : {X : Type 0} (x y : X) (i : ℕ) → slice_get (x ∷ []) i ≡ Some y → (i ≡ 0) × (x ≡ y)
only_place x y zero at = (refl, cc)
only_place x y (suc i) at = absurd (none-some y at)

-- one place has one element
pub slice_get-unique : {X : Type 0} (xs : List X) (i : ℕ) (x y : X) → slice_get xs i ≡ Some x → slice_get xs i ≡ Some y → x ≡ y
slice_get-unique xs i x y at also = cc

-- what stands at a place is in the list
pub Contains-slice_get : {X : Type 0} (xs : List X) (i : ℕ) (x : X) → slice_get xs i ≡ Some x → Contains xs x
Contains-slice_get xs i x at = (i, slice_get_within xs i x at, get_or_from_slice_get xs i x x at)

-- what is in the list stands at some place
pub slice_get-Contains : {X : Type 0} (xs : List X) (x : X) → Contains xs x → (i : ℕ) × (slice_get xs i ≡ Some x)
slice_get-Contains xs x (i, below, same) = (i, slice_get-get_or xs i x below ∙ ap Some same)

-- a list is what stands before a place, the element there and what stands after it
pub slice_get-cut : {A : Type 0} (xs : List A) (i : ℕ) (x : A) → slice_get xs i ≡ Some x → xs ≡ take i xs ++ x ∷ drop (suc i) xs
slice_get-cut [] i x e = absurd (none-some x e)
slice_get-cut (y ∷ xs) zero x e = ap (λ z. z ∷ xs) (same_Some y x e)
slice_get-cut (y ∷ xs) (suc i) x e = ap (λ l. y ∷ l) (slice_get-cut xs i x e)

-- what holds of an entry, if it is another one, and of the one that is stored, holds of the entry then
pub at-set : {X : Type 0} (P : ℕ → X → Type 0) (xs : List X) (i : ℕ) (d y : X) → i < length xs
    → (v : ℕ) → (v ≢ i → P v (get_or xs v d)) → P i y → P v (get_or (set xs i y) v d)
at-set P xs i d y inside v before here = grind (arith, get_or-set_same, get_or-set_other)

-- what holds of each other entry, and of the one that is stored, holds of each entry
pub each-set : {X : Type 0} (P : ℕ → X → Type 0) (xs : List X) (i : ℕ) (d y : X) → i < length xs
    → ((v : ℕ) → v < length xs → v ≢ i → P v (get_or xs v d)) → P i y
    → (v : ℕ) → v < length (set xs i y) → P v (get_or (set xs i y) v d)
each-set P xs i d y inside before here v l = at-set P xs i d y inside v (before v (omega (arith, length-set xs i y))) here

-- what holds of the first i entries, and of the one that is stored next, holds of one entry more
pub set_more : {X : Type 0} (P : ℕ → X → Type 0) (xs : List X) (i j : ℕ) (d y : X) → i < length xs → j ≡ i → ((v : ℕ) → v < i → P v (get_or xs v d))
    → P i y
    → (v : ℕ) → v < i + 1 → P v (get_or (set xs j y) v d)
set_more P xs i j d y inside e before here v l = rw e (at-set P xs i d y inside v (λ other. before v (omega arith)) here)
