-- How letters and words are written as texts, with one hexadecimal digit for each letter. A text is a list of bytes.
use Rattle.std.specs.Prelude.{ℕ, ◌+◌, ◌-◌, nat_lt, nat_le, ◌&&◌, if◌then◌else◌, ◌≢◌, List, map, Option, Some, None, unwrap_or}

-- the hexadecimal digit of a letter, in lower case
abbrev pub lower_digit : ℕ → ℕ
lower_digit a = if nat_lt a 10 then 48 + a else 87 + a

-- the value of a hexadecimal digit in lower or upper case, or None if the byte isn't such a digit
abbrev pub hex_value : ℕ → Option ℕ
hex_value b =
    if nat_le 48 b && nat_le b 57 then Some (b - 48)
    else (if nat_le 65 b && nat_le b 70 then Some (b - 55)
    else (if nat_le 97 b && nat_le b 102 then Some (b - 87)
    else None))

-- the byte is a hexadecimal digit in lower or upper case
abbrev pub IsHexDigit : ℕ → Type 0
IsHexDigit b = hex_value b ≢ None

-- the letter that a hexadecimal digit stands for, or 0 if the byte isn't such a digit
abbrev pub letter_at : ℕ → ℕ
letter_at b = unwrap_or (hex_value b) 0

-- the text of a word: the digit of each letter
abbrev pub word_text : List ℕ → List ℕ
word_text w = map lower_digit w
