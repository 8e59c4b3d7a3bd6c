-- What is written item by item.
use Rattle.std.proofs.Common.{◌≡◌, ℕ, ◌+◌, ◌<◌, ◌≤◌, List, [], ◌++◌, length, length-append, take, drop, get_or, refl, sym, ap, ◌∙◌, arith, flat_map}
use Rattle.std.proofs.lemmas.List.{take-append-drop}
use Rattle.word_image.proofs.Common.{flat_map_more, flat_map-append, take_more}

-- the first items of a list are written after a text, and then the next item
pub rows-next : {A : Type 0} (f : A → List ℕ) (before : List ℕ) (xs : List A) (i : ℕ) (d : A) {between after : List ℕ} → i < length xs
    → between ≡ before ++ flat_map f (take i xs) → after ≡ between ++ f (get_or xs i d) → after ≡ before ++ flat_map f (take (i + 1) xs)
rows-next f before xs i d within first next =
    next ∙ ap (λ t. t ++ f (get_or xs i d)) first ∙ flat_map_more f before (take i xs) (get_or xs i d)
    ∙ ap (λ ys. before ++ flat_map f ys) (sym (take_more xs i d within))

-- the first items of a list and the next item are written in no more bytes than the whole list
pub rows-fit : {A : Type 0} (f : A → List ℕ) (xs : List A) (i : ℕ) (d : A) → i < length xs
    → length (flat_map f (take i xs)) + length (f (get_or xs i d)) ≤ length (flat_map f xs)
rows-fit f xs i d within =
    let next = rows-next f [] xs i d within refl refl in
    let whole = ap (flat_map f) (sym (take-append-drop (i + 1) xs)) ∙ flat_map-append f (take (i + 1) xs) (drop (i + 1) xs) in
    omega (arith, ap length next, length-append (flat_map f (take i xs)) (f (get_or xs i d)), ap length whole, length-append (flat_map f (take (i + 1) xs)) (flat_map f (drop (i + 1) xs)))
