-- The first fault of a text that should describe a configuration as `L|M|R`: left period, middle and right period as
-- hexadecimal digits. The text is read from left to right, so this file also says where a row of digits ends and
-- whether a bar follows it.
use Rattle.std.specs.Prelude.{◌≡◌, ◌≢◌, ℕ, ◌<◌, ◌≤◌, List, ◌++◌, length, map, codes, slice_index, slice_range, Some, All}
use Rattle.word_image.specs.Digits.{IsHexDigit, letter_at}
use Rattle.word_image.specs.Grammars.{IsFormFault}
use Rattle.tail_config.specs.Tails.{TailConfig}
use Rattle.tail_config.specs.TailValues.{config_of}
use Rattle.tail_config.specs.TailTexts.{HasParts}
use Rattle.tail_config.specs.TailFaults.{tail_fault, HasForm}
use Rattle.tail_config.specs.declared.faults.TailFault.{TailFault}
use Rattle.tail_config.specs.declared.texts.TailTextFault.{TailTextFault}
use Rattle.tail_config.specs.declared.texts.TailTextFault.TheVariants as fault

-- the first fault of a text that should describe a configuration over the letters below k: the text doesn't have the form `L|M|R`, or the configuration that it describes has a fault
pub data IsTailTextFault (k : ℕ) (text : List ℕ) : TailTextFault → Type 0 where
  NoForm : (place : ℕ) → IsFormFault HasForm text place → IsTailTextFault k text (fault.Form place)
  Refused : (t : TailConfig) (f : TailFault) → HasParts text t → tail_fault k t ≡ Some f → IsTailTextFault k text (fault.Tail f)

-- the hexadecimal digits that begin at the place `start` of the text end before the place `end`: no digit follows
pub record IsDigitsEnd (text : List ℕ) (start end : ℕ) : Type 0 where
  pub from : start ≤ end
  pub within : end ≤ length text
  pub digits : All IsHexDigit (slice_range text start end)
  pub stop : end < length text → ¬ IsHexDigit (slice_index text end)

-- the byte of the character |
abbrev pub bar : ℕ
bar = 124

-- hexadecimal digits begin at the place `start` of the text, and after the last one, at the place `place`, there is a bar
pub record IsBarAfter (text : List ℕ) (start place : ℕ) : Type 0 where
  pub digits : IsDigitsEnd text start place
  pub inside : place < length text
  pub byte : slice_index text place ≡ bar

-- hexadecimal digits begin at the place `start` of the text, and after the last one, at the place `place`, there is no bar
pub record LacksBar (text : List ℕ) (start place : ℕ) : Type 0 where
  pub digits : IsDigitsEnd text start place
  pub other : place < length text → slice_index text place ≢ bar

-- the fault says that the text doesn't have the form `L|M|R`, and its place has the property P
abbrev pub IsFormAt : TailTextFault → (ℕ → Type 0) → Type 0
IsFormAt f P = (place : ℕ) × (f ≡ fault.Form place) × P place

-- the text consists of `left`, `middle` and `right`, which are rows of hexadecimal digits, with bars between them
pub record IsCut (text left middle right : List ℕ) : Type 0 where
  pub parts : text ≡ left ++ codes "|" ++ middle ++ codes "|" ++ right
  pub left_digits : All IsHexDigit left
  pub middle_digits : All IsHexDigit middle
  pub right_digits : All IsHexDigit right

-- the configuration whose parts are these three rows of hexadecimal digits
abbrev pub letters_of : List ℕ → List ℕ → List ℕ → TailConfig
letters_of left middle right = config_of (map letter_at left) (map letter_at middle) (map letter_at right)
