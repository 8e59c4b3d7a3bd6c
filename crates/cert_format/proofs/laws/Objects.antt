-- The members of an object, beside the entries of the map that holds them.
use Rattle.std.proofs.Common.{◌≡◌, ℕ, zero, suc, List, [], ◌∷◌, length, map, Option, Some, Ordering, Less, Equal, Greater, String, Global, string_bytes, nat_cmp, All, Contains, slice_get, Bool, bytes_eq, IsTrue, ◌↔◌, refl, sym, ap, ◌∙◌, subst, arith}
use Rattle.std.proofs.lemmas.Slice.Eq.{bytes_eq-Decides}
use Rattle.word_image.proofs.Common.{list_any, match_ordering, slice_cmp, none-some, same_Some, All-contains, All-map, slice_cmp-same}
use Rattle.std.specs.Map.{keys_of as names_of}
use Rattle.std.proofs.lemmas.List.Folds.{list_any-from_Any}
use Rattle.serde_json.specs.Data.{Data, Members, object}
use Rattle.serde_json.specs.Find.{get_member, as_object}
use Rattle.serde_json.specs.Events.{members_len}
use Rattle.serde_json.specs.View.{view, members_view}
use Rattle.serde_json.specs.declared.value.Value.{Value}
use Rattle.serde_json.proofs.Views.{Entry, members_len-members_view}
use Rattle.cert_values.proofs.laws.Members.{found_at, some_passes}
use Rattle.cert_values.specs.declared.cert_version.CertVersion.{CertVersion}
use Rattle.cert_values.specs.CertificateTexts.{HasOnly, HasOnlyBoth, HasNoOther, keys_of}
use Rattle.cert_format.specs.Readings.{members_in}

-- how many members an object has
pub length-members : {ms : Members} (d : Data) (es : List Entry) → Some (members_view es) ≡ as_object d → as_object d ≡ Some ms
    → length es ≡ members_len ms
length-members d es is has = sym (members_len-members_view es) ∙ ap members_len (same_Some _ _ (is ∙ has))

-- the first entry of an object with one key alone has this key for its name
pub key-HasOnly : {k : List ℕ} {v : Data} (d : Data) (es : List Entry) (name : String Global) (u : Value) → Some (members_view es) ≡ as_object d
    → slice_get es 0 ≡ Some (name, u) → HasOnly k v d → string_bytes name ≡ k
key-HasOnly d [] name u is first only = absurd (none-some _ first)
key-HasOnly d (e ∷ es) name u is first only = cc

-- the entries of an object with two keys alone have these keys for their names
pub keys-HasOnlyBoth : {k l : List ℕ} {v w : Data} (d : Data) (es : List Entry) (name other : String Global) (u x : Value)
    → Some (members_view es) ≡ as_object d
    → slice_get es 0 ≡ Some (name, u) → slice_get es 1 ≡ Some (other, x) → HasOnlyBoth k v l w d → (string_bytes name ≡ k) × (string_bytes other ≡ l)
keys-HasOnlyBoth d [] name other u x is first second both = absurd (none-some _ first)
keys-HasOnlyBoth d (e ∷ []) name other u x is first second both = absurd (none-some _ second)
keys-HasOnlyBoth d (e ∷ f ∷ es) name other u x is first second both = (cc, cc)

-- the one entry of an object is its one member
pub HasOnly-entry : {k : List ℕ} (d : Data) (es : List Entry) (name : String Global) (u : Value) → Some (members_view es) ≡ as_object d
    → length es ≡ 1 → slice_get es 0 ≡ Some (name, u)
    → string_bytes name ≡ k → HasOnly k (view u) d
HasOnly-entry d [] name u is long first key = absurd (none-some _ first)
HasOnly-entry d (e ∷ []) name u is long first key = let same : e ≡ (name, u) = same_Some _ _ first in sym is ∙ cc
HasOnly-entry d (e ∷ f ∷ es) name u is long first key = absurd (omega (arith, long))

-- the two entries of an object are its two members
pub HasOnlyBoth-entries : {k l : List ℕ} (d : Data) (es : List Entry) (name other : String Global) (u x : Value)
    → Some (members_view es) ≡ as_object d → length es ≡ 2
    → slice_get es 0 ≡ Some (name, u) → slice_get es 1 ≡ Some (other, x) → string_bytes name ≡ k → string_bytes other ≡ l
    → HasOnlyBoth k (view u) l (view x) d
HasOnlyBoth-entries d [] name other u x is long first second key last = absurd (none-some _ first)
HasOnlyBoth-entries d (e ∷ []) name other u x is long first second key last = absurd (none-some _ second)
HasOnlyBoth-entries d (e ∷ f ∷ []) name other u x is long first second key last =
    let same : e ≡ (name, u) = same_Some _ _ first in let same' : f ≡ (other, x) = same_Some _ _ second in sym is ∙ cc
HasOnlyBoth-entries d (e ∷ f ∷ g ∷ es) name other u x is long first second key last = absurd (omega (arith, long))

found_key : (es : List Entry) (k : List ℕ) (d : Data) → get_member k (members_view es) ≡ Some d → Contains (map string_bytes (names_of es)) k
found_key [] k d found = absurd (none-some d found)
found_key (e ∷ es) k d found = found_at (slice_cmp nat_cmp k (string_bytes e.0)) k (string_bytes e.0) (view e.1) d _ _ refl (found_key es k d) found

-- where each key is a certificate's, there is no other key
pub HasNoOther-entries : (version : CertVersion) (es : List Entry) → All (λ name. Contains (keys_of version) (string_bytes name)) (names_of es)
    → HasNoOther version (members_view es)
HasNoOther-entries version es all k d found =
    All-contains (Contains (keys_of version)) (map string_bytes (names_of es)) k (All-map (Contains (keys_of version)) string_bytes (names_of es) all) (found_key es k d found)

-- each key has a member
member_at : (o : Ordering) (k : List ℕ) (e d : Data) (rest : Option Data) → rest ≡ Some d
    → (v : Data) × (match_ordering o rest (Some e) rest ≡ Some v)
member_at Less k e d rest is = (d, is)
member_at Equal k e d rest is = (e, refl)
member_at Greater k e d rest is = (d, is)

member_of_key : (es : List Entry) (i : ℕ) (name : String Global) → slice_get (names_of es) i ≡ Some name
    → (d : Data) × (get_member (string_bytes name) (members_view es) ≡ Some d)
member_of_key [] i name is = absurd (none-some name is)
member_of_key (e ∷ es) zero name is =
    (view e.1, ap (λ o. match_ordering o (get_member (string_bytes name) (members_view es)) (Some (view e.1)) (get_member (string_bytes name) (members_view es))) (slice_cmp-same (string_bytes name) (string_bytes e.0) (ap string_bytes (sym (same_Some _ _ is)))))
member_of_key (e ∷ es) (suc i) name is = let later = member_of_key es i name is in member_at (slice_cmp nat_cmp (string_bytes name) (string_bytes e.0)) (string_bytes name) (view e.1) later.0 _ later.1

-- where some key is no certificate's, there is another key
pub other_key : (version : CertVersion) (es : List Entry) (i : ℕ) (name : String Global) → slice_get (names_of es) i ≡ Some name
    → ¬ Contains (keys_of version) (string_bytes name) → ¬ HasNoOther version (members_view es)
other_key version es i name is other none = let found = member_of_key es i name is in other (none (string_bytes name) found.0 found.1)

-- a test of each of a list's elements finds a name exactly where it is one of them
pub list_any-keys : (keys : List (List ℕ)) (name : List ℕ) (r : Bool) → r ≡ list_any (λ key. bytes_eq key name) keys → IsTrue r ↔ Contains keys name
list_any-keys keys name r is = (
  (λ any. let (key, there, same) = some_passes (λ key. bytes_eq key name) keys (sym is ∙ any) in subst (Contains keys) ((bytes_eq-Decides key name).0 same) there),
  (λ (i, within, at). is ∙ list_any-from_Any (λ key. bytes_eq key name) keys (i, name, within, at, (bytes_eq-Decides name name).1 refl)),
)

-- the members of an object are its entries
pub members_in-entries : (d : Data) (es : List Entry) → Some (members_view es) ≡ as_object d → members_in d ≡ members_view es
members_in-entries (object ms) es is = sym (same_Some _ _ is)
members_in-entries _ es is = absurd (none-some (members_view es) (sym is))
