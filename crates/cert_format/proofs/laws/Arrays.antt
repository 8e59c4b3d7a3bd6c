-- The items of an array, beside the vector that holds them.
use Rattle.std.proofs.Common.{◌≡◌, ℕ, zero, suc, ◌+◌, ◌<◌, List, [], ◌∷◌, ◌++◌, length, map, take, get_or, Some, refl, sym, ap, ◌∙◌, subst, arith, add-one, take-suc}
use Rattle.std.proofs.lemmas.Slice.Zip.{all_zipped_more}
use Rattle.word_image.proofs.Common.{AllZip, none-some, same_Some, map-append}
use Rattle.serde_json.specs.Data.{Data, array, Items, no_items, item}
use Rattle.serde_json.specs.Find.{as_array}
use Rattle.serde_json.specs.Events.{items_len}
use Rattle.serde_json.specs.View.{view, items_view}
use Rattle.serde_json.specs.declared.value.Value.{Value}
use Rattle.serde_json.proofs.Views.{items_len-items_view}
use Rattle.cert_values.specs.CertificateTexts.{IsArrayOf, list_of}

-- a value with items is their array
array_from-as_array : (d : Data) (ds : Items) → Some ds ≡ as_array d → d ≡ array ds
array_from-as_array (array es) ds is = ap array (sym (same_Some _ _ is))
array_from-as_array _ ds is = absurd (none-some ds (sym is))

-- the items of a vector in order
list_of-items_view : (vs : List Value) → list_of (items_view vs) ≡ map view vs
list_of-items_view [] = refl
list_of-items_view (v ∷ vs) = ap (λ ds. view v ∷ ds) (list_of-items_view vs)

-- an array of the values of a vector
pub IsArrayOf-values : {A : Type 0} (R : Data → A → Type 0) (d : Data) (vs : List Value) (xs : List A) → Some (items_view vs) ≡ as_array d
    → AllZip R (map view vs) xs → IsArrayOf R d xs
IsArrayOf-values R d vs xs is all = (items_view vs, array_from-as_array d (items_view vs) is, subst (λ ds. AllZip R ds xs) (sym (list_of-items_view vs)) all)

-- an array whose values are read gives these one by one
values-IsArrayOf : {A : Type 0} (R : Data → A → Type 0) (d : Data) (vs : List Value) (xs : List A) → Some (items_view vs) ≡ as_array d
    → IsArrayOf R d xs → AllZip R (map view vs) xs
values-IsArrayOf R d vs xs is all =
    let same : all.0 ≡ items_view vs = same_Some _ _ (sym (ap as_array all.1) ∙ sym is) in
    subst (λ ds. AllZip R ds xs) (ap list_of same ∙ list_of-items_view vs) all.2

-- an array whose values are read gives one value more
pub AllZip-more : {A : Type 0} (R : Data → A → Type 0) (vs : List Value) (i : ℕ) (v : Value) (xs : List A) (x : A) → i < length vs → v ≡ get_or vs i v
    → AllZip R (map view (take i vs)) xs → R (view v) x → AllZip R (map view (take (i + 1) vs)) (xs ++ x ∷ [])
AllZip-more R vs i v xs x lt is all here =
    let cut : map view (take (i + 1) vs) ≡ map view (take i vs) ++ view v ∷ [] = rw (add-one, take-suc vs i v lt, map-append, ← is) in
    subst (λ ds. AllZip R ds (xs ++ x ∷ [])) (sym cut) (all_zipped_more R (map view (take i vs)) xs (view v) x all here)

-- a value that is no item
no_zip : {A : Type 0} (R : Data → A → Type 0) (vs : List Value) (i : ℕ) (v : Value) (xs : List A) → i < length vs → v ≡ get_or vs i v
    → ((x : A) → ¬ R (view v) x) → ¬ AllZip R (map view vs) xs
no_zip R [] i v xs lt is none all = absurd (omega arith)
no_zip R (w ∷ vs) i v [] lt is none all = all
no_zip R (w ∷ vs) zero v (x ∷ xs) lt is none all = none x (subst (λ v. R (view v) x) (sym is) all.0)
no_zip R (w ∷ vs) (suc i) v (x ∷ xs) lt is none all = no_zip R vs i v xs (omega arith) is none all.1

-- a value that is no item makes an array no array of items
pub not_array : {A : Type 0} (R : Data → A → Type 0) (d : Data) (vs : List Value) (i : ℕ) (v : Value) → Some (items_view vs) ≡ as_array d
    → i < length vs → v ≡ get_or vs i v → ((x : A) → ¬ R (view v) x)
    → (xs : List A) → ¬ IsArrayOf R d xs
not_array R d vs i v is lt at none xs all = no_zip R vs i v xs lt at none (values-IsArrayOf R d vs xs is all)

-- an array of two items
pub length-pair : (d a b : Data) (vs : List Value) → Some (items_view vs) ≡ as_array d → d ≡ array (item a (item b no_items)) → length vs ≡ 2
length-pair d a b vs is pair = sym (items_len-items_view vs) ∙ ap items_len (same_Some _ _ (is ∙ ap as_array pair))

pub IsArrayOf-pair : {A : Type 0} (R : Data → A → Type 0) (d : Data) (x y : A) → IsArrayOf R d (x ∷ y ∷ [])
    → (a b : Data) × (d ≡ array (item a (item b no_items))) × R a x × R b y
IsArrayOf-pair R d x y (no_items, is, all) = absurd all
IsArrayOf-pair R d x y (item a no_items, is, all) = absurd all.1
IsArrayOf-pair R d x y (item a (item b no_items), is, all) = (a, b, is, all.0, all.1.0)
IsArrayOf-pair R d x y (item a (item b (item c ds)), is, all) = absurd all.1.1

-- what is said of two items
pub IsArrayOf-items : {A : Type 0} (R : Data → A → Type 0) (d a b : Data) (x y : A) → d ≡ array (item a (item b no_items))
    → IsArrayOf R d (x ∷ y ∷ []) → R a x × R b y
IsArrayOf-items R d a b x y is all =
    let pair = IsArrayOf-pair R d x y all in
    let first : pair.0 ≡ a = cc (is, pair.2) in
    let second : pair.1 ≡ b = cc (is, pair.2) in
    (subst (λ a. R a x) first pair.3, subst (λ b. R b y) second pair.4)
