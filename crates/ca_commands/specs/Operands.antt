-- The forms of the texts that can be operands of commands.
use Rattle.std.specs.Prelude.{ℕ, ◌^◌, ◌<◌, ◌≤◌, List, length, All}
use Rattle.word_image.specs.Digits.{IsHexDigit}
use Rattle.rule_text.specs.RuleTexts.{IsDecimal, decimal_value}

-- the text has from 1 to 16 hexadecimal digits, one for each new letter
pub record AreColours (text : List ℕ) : Type 0 where
  pub digits : All IsHexDigit text
  pub least : 1 ≤ length text
  pub most : length text ≤ 16

-- the text has up to four decimal digits of a number from 1 to 4,096
pub record IsCount (count : List ℕ) : Type 0 where
  pub decimal : IsDecimal 1 4 count
  pub least : 1 ≤ decimal_value count
  pub most : decimal_value count ≤ 4096

-- the text has up to twenty decimal digits of a number below 2 ^ 64
pub record IsSeed (seed : List ℕ) : Type 0 where
  pub decimal : IsDecimal 1 20 seed
  pub most : decimal_value seed < 2 ^ 64
