-- Ascending lists: with the same members they are one, and each item stands at one place.
use Rattle.std.proofs.Common.{inl, inr, ◌≡◌, ◌≢◌, ◌⊎◌, ⊎_elim, ◌↔◌, ℕ, zero, suc, ◌<◌, List, [], ◌∷◌, length, get_or, slice_get, Some, Contains, refl, sym, ap, ap₂, ◌∙◌, subst, subst₂, arith, Ordering, Less, Greater}
use Rattle.std.proofs.lemmas.Map.Keys.{sorted_head, sorted_tail, sorted_from_all_adjacent, Less-from_sorted}
use Rattle.std.proofs.lemmas.Map.Made.{Contains-tail}
use Rattle.std.specs.List.Sorted.{IsStrictlySortedBy}
use Rattle.word_image.proofs.Common.{IsTotalOrder, ordering_reverse, cases_lt, All-contains, All-from_recursion, Contains-append_right, IsAscending, word_cmp, word_cmp_total, slice_get-get_or, slice_get_within, get_or_from_slice_get}

-- what is in a list is its first item, or in the rest
first_or_rest : {X : Type 0} (x z : X) (xs : List X) (k : ℕ) → k < length (x ∷ xs) → get_or (x ∷ xs) k z ≡ z → (x ≡ z) ⊎ Contains xs z
first_or_rest x z xs zero within at = inl at
first_or_rest x z xs (suc k) within at = inr (k, omega (arith, within), at)

module _ {K : Type 0} {R : K → K → Ordering} (total : IsTotalOrder R) where
  -- of two items not each is less than the other
  not_both : (x y : K) → R x y ≡ Less → R y x ≢ Less
  not_both x y here there = let crossed : Less ≡ Greater = sym here ∙ total.antisymm x y ∙ ap ordering_reverse there in absurd (cc)

  -- the first item is less than each later one
  less_than : (x z : K) (xs : List K) → IsStrictlySortedBy R (x ∷ xs) → Contains xs z → R x z ≡ Less
  less_than x z xs sorted there = All-contains (λ y. R x y ≡ Less) xs z (All-from_recursion (λ y. R x y ≡ Less) xs (sorted_head R x xs sorted)) there

  -- the first items are one
  same_first : (x y : K) (xs ys : List K) → IsStrictlySortedBy R (x ∷ xs) → IsStrictlySortedBy R (y ∷ ys) → Contains (x ∷ xs) y → Contains (y ∷ ys) x
      → x ≡ y
  same_first x y xs ys first second (i, within, at) (j, inside, also) =
      ⊎_elim (λ same. same)
      (λ there. ⊎_elim sym (λ here. absurd (not_both x y (less_than x y xs first there) (less_than y x ys second here))) (first_or_rest y x ys j inside also))
      (first_or_rest x y xs i within at)

  -- a later item of one list that stands in another with the same first item is a later item there
  rest_within : (x z : K) (xs ys : List K) → IsStrictlySortedBy R (x ∷ xs) → (Contains (x ∷ xs) z → Contains (x ∷ ys) z) → Contains xs z
      → Contains ys z
  rest_within x z xs ys sorted within there =
      let less = less_than x z xs sorted there in
      Contains-tail x ys z (λ same. let itself : R z z ≡ Less = subst (λ w. R w z ≡ Less) same less in not_both z z itself itself) (within (Contains-append_right (x ∷ []) xs z there))

  -- ascending lists with the same members are one
  pub same_members : (xs ys : List K) → IsStrictlySortedBy R xs → IsStrictlySortedBy R ys → ((z : K) → Contains xs z ↔ Contains ys z) → xs ≡ ys
  same_members [] [] first second same = refl
  same_members [] (y ∷ ys) first second same = absurd (omega (arith, ((same y).1 (0, omega arith, refl)).1))
  same_members (x ∷ xs) [] first second same = absurd (omega (arith, ((same x).0 (0, omega arith, refl)).1))
  same_members (x ∷ xs) (y ∷ ys) first second same =
      let one : x ≡ y = same_first x y xs ys first second ((same y).1 (0, omega arith, refl)) ((same x).0 (0, omega arith, refl)) in
      ap₂ ◌∷◌ one (same_members xs ys (sorted_tail R x xs first) (sorted_tail R y ys second) (λ z. (
        rest_within x z xs ys first (λ here. subst (λ w. Contains (w ∷ ys) z) (sym one) ((same z).0 here)),
        rest_within y z ys xs second (λ there. subst (λ w. Contains (w ∷ xs) z) one ((same z).1 there)),
      )))

  -- each item stands at one place
  pub one_place : (xs : List K) → IsStrictlySortedBy R xs → (i j : ℕ) (z : K) → slice_get xs i ≡ Some z → slice_get xs j ≡ Some z → i ≡ j
  one_place xs sorted i j z at also =
      let apart : (m n : ℕ) → slice_get xs m ≡ Some z → slice_get xs n ≡ Some z → ¬ (m < n) = λ m n here there less.
      let itself : R z z ≡ Less = subst₂ (λ x y. R x y ≡ Less) (get_or_from_slice_get xs m z z here) (get_or_from_slice_get xs n z z there) (Less-from_sorted R xs m n z sorted less (slice_get_within xs n z there)) in
      not_both z z itself itself in
      ⊎_elim (λ less. absurd (apart i j at also less)) (λ rest. ⊎_elim (λ more. absurd (apart j i also at more)) (λ le. omega arith) (cases_lt j i)) (cases_lt i j)

-- words of which each comes before the next ascend
pub IsAscending-sorted : (words : List (List ℕ)) → IsAscending words → IsStrictlySortedBy word_cmp words
IsAscending-sorted words ascending =
    sorted_from_all_adjacent word_cmp_total words [] (grind (arith, slice_get-get_or))
