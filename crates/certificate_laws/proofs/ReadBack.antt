-- The text that is written for a value is read as that value, where its numbers have at most 64 bits and its keys ascend.
use Rattle.std.proofs.Common.{◌≡◌, ℕ, suc, ◌+◌, ◌^◌, ◌<◌, ◌≤◌, negsuc, pos, Bool, true, false, List, [], ◌∷◌, map, All, IsUtf8, Some, option_map, option_and_then, append-nil, refl, sym, ap, ◌∙◌, arith, ℤ}
use lib.Signed.{mag}
use Rattle.std.specs.Fmt.{signed_decimal}
use Rattle.std.proofs.lemmas.Fmt.{IsAscii-decimal, IsAscii-signed}
use Rattle.std.proofs.lemmas.Str.{IsUtf8-append, IsUtf8-from_ascii}
use Rattle.word_image.proofs.Common.{max-le, All-head, All-tail}
use Rattle.json.specs.Json as json
use Rattle.json.specs.Print.{quoted}
use Rattle.json.specs.Tree as tree
use Rattle.json.proofs.Printed.Decimals.{IsNumber-decimal, IsNumber-signed_decimal}
use Rattle.json.proofs.Printed.Tokens.{tokens-print}
use Rattle.json.proofs.Printed.Trees.{ArePrintable-json_tokens, value-json_tokens}
use Rattle.json.proofs.Printed.Utf8.{are_ascii, IsUtf8-quoted, IsUtf8-are_ascii}
use Rattle.serde_json.specs.Data.{Data, null, number, string, array, object, negative, Items, item, Members, no_members, member, put}
use Rattle.serde_json.specs.Read.{of_json, of_items, of_members, read, max_depth}
use Rattle.serde_json.specs.View.{items_of}
use Rattle.serde_json.specs.Written.{outline, items_outline, members_outline, compact_text, items_text, members_text, comma_if}
use Rattle.serde_json.proofs.Numbers.{number_of-decimal, number_of-negative}
use Rattle.serde_json.proofs.Texts.{print-outline}
use Rattle.cert_values.proofs.Common.{array_from, whole_value, signed_value, only}

-- a value nests no deeper than n, its numbers are texts of numbers, it is what its text says, and that is UTF-8
pub record IsReadBack (n : ℕ) (d : Data) : Type 0 where
  pub depth : tree.depth (outline d) ≤ n
  pub numbers : tree.HasNumbers (outline d)
  pub value : of_json (outline d) ≡ Some d
  pub text : IsUtf8 (compact_text d)

-- values in a row that can each be read back
record AreReadBack (n : ℕ) (ds : Items) : Type 0 where
  depth : tree.items_depth (items_outline ds) ≤ n
  numbers : tree.ItemsHaveNumbers (items_outline ds)
  values : of_items (items_outline ds) ≡ Some ds
  text : (later : Bool) → IsUtf8 (items_text later ds)

-- members that are put one after another
abbrev pub put_all : Members → Members → Members
put_all found no_members = found
put_all found (member k d ms) = put_all (put k d found) ms

-- members in a row whose values can each be read back
pub record HaveReadBack (n : ℕ) (ms : Members) : Type 0 where
  pub depth : tree.members_depth (members_outline ms) ≤ n
  pub numbers : tree.MembersHaveNumbers (members_outline ms)
  pub values : (found : Members) → of_members (members_outline ms) found ≡ Some (put_all found ms)
  pub text : (later : Bool) → IsUtf8 (members_text later ms)

-- a comma where something stands before is UTF-8
IsUtf8-comma : (later : Bool) → IsUtf8 (comma_if later)
IsUtf8-comma true = IsUtf8-are_ascii (44 ∷ []) refl
IsUtf8-comma false = IsUtf8-are_ascii [] refl

-- null is read back
pub IsReadBack-null : (n : ℕ) → IsReadBack n null
IsReadBack-null n = record { depth = omega arith; numbers = tt; value = refl; text = IsUtf8-are_ascii _ refl }

-- a string is read back
pub IsReadBack-string : (n : ℕ) (s : List ℕ) → IsUtf8 s → IsReadBack n (string s)
IsReadBack-string n s text = record { depth = omega arith; numbers = tt; value = refl; text = IsUtf8-quoted s text }

-- a whole number of 64 bits is read back
pub IsReadBack-whole : (n v : ℕ) → v < 2 ^ 64 → IsReadBack n (whole_value v)
IsReadBack-whole n v fits = grind (arith, number_of-decimal, IsNumber-decimal, IsUtf8-from_ascii, IsAscii-decimal)

-- a negative number is read back
IsReadBack-negative : (n v : ℕ) → v + 1 < 2 ^ 63 → IsReadBack n (number (negative (negsuc v)))
IsReadBack-negative n v fits = record {
  depth = omega arith;
  numbers = IsNumber-signed_decimal (negsuc v) (omega arith);
  value = ap (option_map number) (number_of-negative v (omega arith));
  text = IsUtf8-from_ascii (signed_decimal (negsuc v)) (IsAscii-signed (negsuc v) (omega arith));
}

-- values in a row are read back, one by one
AreReadBack-item : {n : ℕ} {d : Data} {ds : Items} → IsReadBack n d → AreReadBack n ds → AreReadBack n (item d ds)
AreReadBack-item {d = d} {ds = ds} first rest = grind (arith, IsUtf8-append, IsUtf8-comma)

AreReadBack-map : {A : Type 0} {n : ℕ} (f : A → Data) (P : A → Type 0) → ((x : A) → P x → IsReadBack n (f x)) → (xs : List A) → All P xs
    → AreReadBack n (items_of (map f xs))
AreReadBack-map f P each [] all = record { depth = omega arith; numbers = tt; values = refl; text = λ later. IsUtf8-are_ascii _ refl }
AreReadBack-map f P each (x ∷ xs) all = AreReadBack-item (each x (All-head P x xs all)) (AreReadBack-map f P each xs (All-tail P x xs all))

-- an array of values that are read back is read back
pub IsReadBack-array : {A : Type 0} {n : ℕ} (f : A → Data) (P : A → Type 0) → ((x : A) → P x → IsReadBack n (f x)) → (xs : List A) → All P xs
    → IsReadBack (suc n) (array_from (map f xs))
IsReadBack-array f P each xs all =
    let items = AreReadBack-map f P each xs all in
    record {
      depth = omega (arith, items.depth);
      numbers = items.numbers;
      value = ap (option_map array) items.values;
      text = IsUtf8-append (91 ∷ []) _ (IsUtf8-are_ascii (91 ∷ []) refl) (items.text false);
    }

-- members in a row are read back, one by one
pub HaveReadBack-none : (n : ℕ) → HaveReadBack n no_members
HaveReadBack-none n = record { depth = omega arith; numbers = tt; values = λ found. refl; text = λ later. IsUtf8-are_ascii _ refl }

pub HaveReadBack-member : {n : ℕ} (k : List ℕ) {d : Data} {ms : Members} → are_ascii k ≡ true → IsReadBack n d → HaveReadBack n ms
    → HaveReadBack n (member k d ms)
HaveReadBack-member k {d = d} {ms = ms} key first rest = record {
  depth = max-le first.depth rest.depth;
  numbers = (first.numbers, rest.numbers);
  values = λ found. ap (option_and_then (λ e. of_members (members_outline ms) (put k e found))) first.value ∙ rest.values (put k d found);
  text = λ later.
      IsUtf8-append (comma_if later) _ (IsUtf8-comma later)
      (IsUtf8-append (quoted k) _ (IsUtf8-quoted k (IsUtf8-are_ascii k key)) (IsUtf8-append (58 ∷ []) _ (IsUtf8-are_ascii (58 ∷ []) refl) (IsUtf8-append (compact_text d) _ first.text (rest.text true))));
}

-- an object is read back, where its members stay as they are when they are put one after another
pub IsReadBack-object : {n : ℕ} {ms : Members} → put_all no_members ms ≡ ms → HaveReadBack n ms → IsReadBack (suc n) (object ms)
IsReadBack-object same members = record {
  depth = omega (arith, members.depth);
  numbers = members.numbers;
  value = ap (option_map object) (members.values no_members ∙ ap Some same);
  text = IsUtf8-append (123 ∷ []) _ (IsUtf8-are_ascii (123 ∷ []) refl) (members.text false);
}

-- an object with one member is read back
pub IsReadBack-only : {n : ℕ} (k : List ℕ) {d : Data} → are_ascii k ≡ true → IsReadBack n d → IsReadBack (suc n) (only k d)
IsReadBack-only k key first = IsReadBack-object refl (HaveReadBack-member k key first (HaveReadBack-none _))

-- an integer whose absolute value has at most 62 bits is read back
pub IsReadBack-signed : (n : ℕ) (z : ℤ) → mag z + 1 < 2 ^ 63 → IsReadBack n (signed_value z)
IsReadBack-signed n (pos v) fits = IsReadBack-whole n v (omega (arith, fits))
IsReadBack-signed n (negsuc v) fits = IsReadBack-negative n v (omega (arith, fits))

-- the text of a value that is read back is read as the value
pub read-compact_text : {n : ℕ} (d : Data) → n ≤ max_depth → IsReadBack n d → read (compact_text d) ≡ Some d
read-compact_text d shallow is =
    let j = outline d in
    let ts = tree.json_tokens j in
    ap read (sym (print-outline d))
    ∙ ap (λ o. option_and_then of_json (option_and_then (λ p. json.if_last p.0 p.1) o))
    (ap (json.value max_depth) (tokens-print ts (ArePrintable-json_tokens j is.numbers) ∙ sym (append-nil ts)) ∙ value-json_tokens j max_depth [] (omega (arith, is.depth, shallow)))
    ∙ is.value
