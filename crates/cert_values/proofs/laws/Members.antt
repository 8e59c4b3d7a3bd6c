-- The members of an object by their keys, and the elements of a list by a test.
use Rattle.std.proofs.Common.{◌≡◌, ℕ, suc, List, ◌∷◌, Option, Some, Ordering, Less, Equal, Greater, nat_cmp, is_eq, Contains, Bool, true, sym, ap, ◌∙◌, arith, ap₂}
use Rattle.std.proofs.lemmas.Slice.Eq.{bytes_eq-Decides}
use Rattle.std.proofs.lemmas.Map.Text.{is_eq-slice_cmp}
use Rattle.std.proofs.lemmas.List.Folds.{Any-from_list_any}
use Rattle.word_image.proofs.Common.{list_any, match_ordering, slice_cmp}
use Rattle.serde_json.specs.Data.{Data, Members, put}

-- a member that is found has one of the keys
pub found_at : (o : Ordering) (k l : List ℕ) (e d : Data) (rest : Option Data) (ks : List (List ℕ)) → slice_cmp nat_cmp k l ≡ o
    → (rest ≡ Some d → Contains ks k)
    → match_ordering o rest (Some e) rest ≡ Some d → Contains (l ∷ ks) k
found_at Less k l e d rest ks is later found = let c = later found in (suc c.0, omega (arith, c.1), c.2)
found_at Equal k l e d rest ks is later found = (0, omega arith, sym ((bytes_eq-Decides k l).0 (sym (is_eq-slice_cmp k l) ∙ ap is_eq is)))
found_at Greater k l e d rest ks is later found = let c = later found in (suc c.0, omega (arith, c.1), c.2)

-- equal values put into equal members
pub put_same : (k : List ℕ) {d e : Data} {ms ns : Members} → d ≡ e → ms ≡ ns → put k d ms ≡ put k e ns
put_same k value members = ap₂ (λ (d : Data) (ms : Members). put k d ms) value members

-- an element that passes a test
pub some_passes : {X : Type 0} (p : X → Bool) (xs : List X) → list_any p xs ≡ true → (x : X) × Contains xs x × (p x ≡ true)
some_passes p xs any = let (i, x, within, at, passes) = Any-from_list_any p xs any in (x, (i, within, at), passes)
