-- The printed texts of words, configurations and rules are UTF-8.
use Rattle.std.proofs.Common.{ℕ, ◌+◌, ◌^◌, ◌<◌, ◌≤◌, negsuc, pos, List, [], ◌∷◌, IsUtf8, codes, decimal, arith, ℤ, nat_lt}
use Rattle.std.proofs.lemmas.Fmt.{IsAscii-decimal}
use Rattle.std.proofs.lemmas.Str.{IsUtf8-append, IsUtf8-from_ascii}
use Rattle.std.proofs.lemmas.Str.Ascii.{IsAscii-nil, IsAscii-cons}
use Rattle.word_image.proofs.Common.{cond_both, ints, All-head, All-tail, LocalRule, IsRule, IsWord, lower_digit, word_text}
use Rattle.tail_config.proofs.Common.{TailConfig, IsShortTail}
use Rattle.tail_config.specs.TailTexts as tail
use Rattle.rule_text.specs.PrintedRules.{offset_text, printed_rule}
use Rattle.cert_values.specs.Certificates.{IsNear}

-- a byte below 128 is UTF-8
IsUtf8-byte : (x : ℕ) → x < 128 → IsUtf8 (x ∷ [])
IsUtf8-byte x small = IsUtf8-from_ascii (x ∷ []) (IsAscii-cons x [] small IsAscii-nil)

-- the digit of a letter below 16 is below 128
lower_digit-below : (a : ℕ) → a < 16 → lower_digit a < 128
lower_digit-below a small = cond_both (nat_lt a 10) (48 + a) (87 + a) (λ b. b < 128) (λ below. omega arith) (λ above. omega arith)

-- the digits of a word are UTF-8
pub IsUtf8-word : {k : ℕ} → k ≤ 16 → (w : List ℕ) → IsWord k w → IsUtf8 (word_text w)
IsUtf8-word most [] word = IsUtf8-from_ascii [] IsAscii-nil
IsUtf8-word {k} most (a ∷ w) word =
    let below : a < k = All-head (λ b. b < k) a w word in
    IsUtf8-append (lower_digit a ∷ []) (word_text w) (IsUtf8-byte (lower_digit a) (lower_digit-below a (omega (arith, below, most)))) (IsUtf8-word most w (All-tail (λ b. b < k) a w word))

-- the text of a configuration is UTF-8
pub IsUtf8-tail : {k : ℕ} → k ≤ 16 → (t : TailConfig) → IsShortTail k t → IsUtf8 (tail.printed t)
IsUtf8-tail most t short =
    let bar = IsUtf8-byte 124 (omega arith) in
    search (IsUtf8-append, bar, IsUtf8-word most t.left short.tail.left_word, IsUtf8-word most t.middle short.tail.middle_word, IsUtf8-word most t.right short.tail.right_word)

-- the text of a decimal number is UTF-8
IsUtf8-decimal : (n : ℕ) → n < 2 ^ 64 → IsUtf8 (decimal n)
IsUtf8-decimal n fits = IsUtf8-from_ascii (decimal n) (IsAscii-decimal n fits)

-- the text of an offset is UTF-8
IsUtf8-offset : (z : ℤ) → IsNear z → IsUtf8 (offset_text z)
IsUtf8-offset (pos n) near = IsUtf8-decimal n (omega (arith, ints, near.1))
IsUtf8-offset (negsuc n) near = IsUtf8-append (codes "-") _ (IsUtf8-byte 45 (omega arith)) (IsUtf8-decimal (n + 1) (omega (arith, ints, near.0)))

-- the text of a printed rule is UTF-8
pub IsUtf8-rule : {r : LocalRule} → IsRule r → IsUtf8 (printed_rule r)
IsUtf8-rule {r} rule =
    let shape = rule.shape in
    let colon = IsUtf8-byte 58 (omega arith) in
    let near : IsNear r.offset = (grind (arith, ints, shape.least_offset), grind (arith, ints, shape.most_offset)) in
    let table = IsUtf8-byte 116 (omega arith) in
    let states = IsUtf8-decimal r.states (omega (arith, shape.most_states)) in
    let width = IsUtf8-decimal r.width (omega (arith, shape.most_width)) in
    search (IsUtf8-append, colon, table, states, width, IsUtf8-offset r.offset near, IsUtf8-word shape.most_states r.table rule.letters) depth 12
