-- How many bytes the compact text of a value has at most.
use Rattle.std.proofs.Common.{◌≡◌, ◌≢◌, ℕ, ◌+◌, ◌*◌, ◌≤◌, Bool, true, false, cond, List, [], ◌∷◌, ◌++◌, length, map, All, refl, ap, ap₂, ◌∙◌, arith, length-append, codes, ne_eqb, le-ltb}
use Rattle.word_image.proofs.Common.{length-map, All-nil, All-cons, All-head, All-tail, All-map, All-append, lower_digit, word_text}
use Rattle.json.specs.Print.{escape_byte, escape}
use Rattle.serde_json.specs.Data.{Data}
use Rattle.serde_json.specs.View.{items_of}
use Rattle.serde_json.specs.Written.{compact_text, items_text, comma_if}
use Rattle.tail_config.proofs.Common.{TailConfig}
use Rattle.tail_config.specs.TailTexts as tail
use Rattle.cert_values.proofs.Common.{array_from}

-- what stands in a string for a byte has at most six bytes
pub length-escape_byte : (x : ℕ) → length (escape_byte x) ≤ 6
unfolding escape_byte
length-escape_byte x = grind arith

-- the escaped text of a string has at most six bytes for each of its bytes
pub length-escape : (s : List ℕ) → length (escape s) ≤ length s * 6
length-escape [] = omega arith
length-escape (x ∷ s) = omega (arith, length-append (escape_byte x) (escape s), length-escape_byte x, length-escape s)

-- a byte that is neither a control character, a quotation mark nor a backslash
abbrev IsPlainByte : ℕ → Type 0
IsPlainByte x = (35 ≤ x) × (x ≢ 92)

-- a plain byte stands for itself
escape_byte-plain : (x : ℕ) → IsPlainByte x → escape_byte x ≡ x ∷ []
unfolding escape_byte
escape_byte-plain x (low, other) = grind (arith, ne_eqb, le-ltb)

-- a text of plain bytes stands for itself
escape-plain : (s : List ℕ) → All IsPlainByte s → escape s ≡ s
escape-plain [] all = refl
escape-plain (x ∷ s) all = ap₂ (λ (a b : List ℕ). a ++ b) (escape_byte-plain x (All-head IsPlainByte x s all)) (escape-plain s (All-tail IsPlainByte x s all))

-- the digit of a letter is plain
IsPlainByte-digit : (a : ℕ) → IsPlainByte (lower_digit a)
IsPlainByte-digit a = grind arith

-- the text of a word has plain bytes alone
IsPlain-word : (w : List ℕ) → All IsPlainByte (word_text w)
IsPlain-word w = All-map IsPlainByte lower_digit w (λ i d l. IsPlainByte-digit _)

-- the escaped text of a word has as many bytes as the word has letters
pub length-word_text : (w : List ℕ) → length (escape (word_text w)) ≡ length w
length-word_text w = ap length (escape-plain (word_text w) (IsPlain-word w)) ∙ length-map w lower_digit

-- the escaped text of a configuration has two bytes more than its parts have letters
pub length-tail_text : (t : TailConfig) → length (escape (tail.printed t)) ≡ length t.left + length t.middle + length t.right + 2
length-tail_text t =
    let bar = All-cons IsPlainByte 124 [] (omega arith, λ e. omega arith) (All-nil IsPlainByte) in
    let left = All-append IsPlainByte (word_text t.left) (codes "|") (IsPlain-word t.left) bar in
    let middle = All-append IsPlainByte _ (codes "|") (All-append IsPlainByte _ (word_text t.middle) left (IsPlain-word t.middle)) bar in
    ap length (escape-plain (tail.printed t) (All-append IsPlainByte _ (word_text t.right) middle (IsPlain-word t.right)))
    ∙ simp (length-append, length-map) (omega arith)

-- a comma, or none, has at most one byte
pub length-comma_if : (later : Bool) → length (comma_if later) ≤ 1
length-comma_if true = omega arith
length-comma_if false = omega arith

-- the items of an array, of n bytes each, take one byte more each, and one for the bracket
length-items_text : (n : ℕ) (later : Bool) (ds : List Data) → All (λ d. length (compact_text d) ≤ n) ds
    → length (items_text later (items_of ds)) ≤ length ds * (n + 1) + 1
length-items_text n later [] all = omega arith
length-items_text n later (d ∷ ds) all =
    grind (arith, length-comma_if, length-append, All-head, All-tail, length-items_text n true ds (All-tail (λ d. length (compact_text d) ≤ n) d ds all))

-- the text of an array of values of n bytes each takes one byte more for each, and two for the brackets
pub length-values : {A : Type 0} (f : A → Data) (n : ℕ) (xs : List A) → All (λ x. length (compact_text (f x)) ≤ n) xs
    → length (compact_text (array_from (map f xs))) ≤ length xs * (n + 1) + 2
length-values f n xs all = omega (arith, length-items_text n false (map f xs) (All-map (λ d. length (compact_text d) ≤ n) f xs all), ap (λ k. k * (n + 1)) (length-map xs f))
