-- Lists with the same members, none of which stands twice, have one length.
use Rattle.std.proofs.Common.{◌≡◌, ◌≢◌, ⊎_elim, ℕ, ◌<◌, ◌≤◌, List, [], ◌∷◌, length, get_or, All, AllPairs, Contains, sym, ap, ◌∙◌, arith}
use Rattle.word_image.proofs.Common.{cases_lt, get_or_default, twice_below}

-- where an item of a list stands in another that has them all
place_in : {X : Type 0} (xs ys : List X) → All (Contains ys) xs → (d : X) (i : ℕ)
    → (k : ℕ) × (i < length xs → (k < length ys) × (get_or ys k d ≡ get_or xs i d))
place_in xs ys all d i =
    ⊎_elim
    (λ within. let (k, inside, at) = all i d within in (k, λ _. (inside, get_or_default ys k d (get_or xs i d) inside ∙ at)))
    (λ past. (0, λ within. absurd (omega (arith, past, within))))
    (cases_lt i (length xs))

-- different items of a list are no more than its length
pub length-le_from_contained : {X : Type 0} (xs ys : List X) → AllPairs ◌≢◌ xs → All (Contains ys) xs → length xs ≤ length ys
length-le_from_contained [] ys apart all = omega arith
length-le_from_contained (x ∷ xs) ys apart all =
    ⊎_elim
    (λ more.
    let place = place_in (x ∷ xs) ys all x in
    let (i, j, less, within, same) = twice_below (length ys) (λ i. (place i).0) (λ i l. ((place i).1 (omega (arith, l, more))).0) in
    let first = ((place i).1 (omega (arith, less, within, more))).1 in
    let second = ((place j).1 (omega (arith, within, more))).1 in
    absurd (apart i j x less (omega (arith, within, more)) (sym first ∙ ap (λ k. get_or ys k x) same ∙ second)))
    (λ few. few)
    (cases_lt (length ys) (length (x ∷ xs)))
