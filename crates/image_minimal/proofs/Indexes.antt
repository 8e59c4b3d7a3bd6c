-- Lists of different sets, with an index by set.
use Rattle.image_minimal.proofs.Common.{◌≡◌, ℕ, ◌<◌, ◌≤◌, List, [], ◌∷◌, ◌++◌, length, set, slice_index, Option, Some, None, Contains, refl, sym, ap, ◌∙◌, arith, ⊎_elim, slice_get, length-set, cases_lt, same_Some, slice_get-get_or, none-some, slice_get-append, slice_get-push, slice_get-push_cases, Contains-slice_get, slice_get-Contains, twice_below, IsPlaceOf, IsExactIndex, each-set}

-- a set has one place
pub IsPlaceOf-one : (sets : List ℕ) (set : ℕ) (place other : Option ℕ) → IsPlaceOf sets set place → IsPlaceOf sets set other → place ≡ other
IsPlaceOf-one sets set None None h g = refl
IsPlaceOf-one sets set None (Some i) h g = (h i).1 ((g i).0 refl)
IsPlaceOf-one sets set (Some i) other h g = sym ((g i).1 ((h i).0 refl))

-- a list with an exact index has at most 65,536 sets
pub length-listed-le : {sets : List ℕ} {places : List (Option ℕ)} → IsExactIndex sets places → length sets ≤ 65536
length-listed-le {sets} {places} h =
    let at : (i : ℕ) → i < length sets → slice_get sets i ≡ Some (slice_index sets i) = λ i l. slice_get-get_or sets i 0 l in
    ⊎_elim
    (λ past.
    let below : (i : ℕ) → i ≤ length places → slice_index sets i < length places = λ i l. h.within i (slice_index sets i) (at i (omega arith)) in
    let (i, j, less, most, same) = twice_below (length places) (slice_index sets) below in
    let place = h.each (slice_index sets i) (below i (omega arith)) in
    let one = (place i).1 (at i (omega arith)) in
    let two = (place j).1 (at j (omega arith) ∙ ap Some (sym same)) in
    let alike : i ≡ j = cc in
    absurd (omega arith))
    (λ le. omega (arith, le, h.most))
    (cases_lt (length places) (length sets))

-- a set that is new is put at the end
pub IsExactIndex-push : {sets : List ℕ} {places : List (Option ℕ)} → IsExactIndex sets places → (new : ℕ) → new < length places → ¬ Contains sets new
    → IsExactIndex (sets ++ new ∷ []) (set places new (Some (length sets)))
IsExactIndex-push {sets} {places} h new small none = record {
  most = omega (arith, length-set places new (Some (length sets)), h.most);
  within = grind (arith, length-set, slice_get-push_cases);
  each = each-set (IsPlaceOf (sets ++ new ∷ [])) places new None (Some (length sets)) small
      (λ s l other i. (
        (λ e. slice_get-append sets (new ∷ []) i s ((h.each s l i).0 e)),
        (λ at. ⊎_elim (λ before. (h.each s l i).1 before) (λ added. absurd (other (sym added.1))) (slice_get-push_cases sets new i s at)),
      ))
      (λ i. grind (arith, same_Some, slice_get-push, Contains-slice_get, slice_get-push_cases));
}
