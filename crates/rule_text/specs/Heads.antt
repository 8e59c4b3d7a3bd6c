-- How the program reads the head of the text of a rule, which is the part before the entries. In 2:3:-1:t01110110 the
-- head is 2:3:-1:t, and the entries are 01110110. `GoesOver...` says what a text has between two places. `Lacks...`
-- says that something doesn't begin at a place, and at which place the fault is.
use Rattle.std.specs.Prelude.{◌≡◌, ◌≢◌, ℕ, ◌+◌, ◌<◌, ◌≤◌, ◌⊎◌, Bool, true, false, List, [], ◌++◌, length, map, take, drop, codes, slice_index, All, ℤ, pos, neg_ℤ}
use Rattle.rule_text.specs.declared.text_fault.TextFault.{TextFault}
use Rattle.rule_text.specs.declared.text_fault.TextFault.TheVariants as fault
use Rattle.rule_text.specs.declared.head.Kind.{Kind}
use Rattle.rule_text.specs.declared.head.Kind.TheVariants as kind
use Rattle.rule_text.specs.declared.head.Head.{Head}
use Rattle.word_image.specs.Digits.{IsHexDigit, letter_at}
use Rattle.word_image.specs.Grammars.{IsFormFault}
use Rattle.rule_text.specs.RuleTexts.{IsDigit, IsDecimal, Entries, Said, Says, IsSaid, Table, Number, decimal_value}

-- the byte of a colon
abbrev pub colon : ℕ
colon = 58

-- the byte of a minus sign
abbrev pub minus_sign : ℕ
minus_sign = 45

-- the text has `part` between the places `from` and `to`
abbrev pub GoesOver : List ℕ → ℕ → ℕ → List ℕ → Type 0
GoesOver text from to part = take to text ≡ take from text ++ part

-- the text has `number`, written with one or two digits, between the places `from` and `to`; after a single digit no other digit follows
pub record GoesOverSmall (text : List ℕ) (from to number : ℕ) : Type 0 where
  pub digits : List ℕ
  pub over : GoesOver text from to digits
  pub decimal : IsDecimal 1 2 digits
  pub value : number ≡ decimal_value digits
  pub longest : (length digits ≡ 2) ⊎ ¬ IsDigit (slice_index text to)

-- the text has `number`, written with one or two digits, and a colon between the places `from` and `to`
pub record GoesOverField (text : List ℕ) (from to number : ℕ) : Type 0 where
  pub digits : List ℕ
  pub over : take to text ≡ take from text ++ digits ++ codes ":"
  pub decimal : IsDecimal 1 2 digits
  pub value : number ≡ decimal_value digits

-- no number of one or two digits with a colon begins at the place `from`: there is no digit, or no colon follows the digits; the fault is at `place`
pub record LacksField (text : List ℕ) (from place : ℕ) : Type 0 where
  pub digits : List ℕ
  pub over : GoesOver text from place digits
  pub decimal : IsDecimal 0 2 digits
  pub longest : (length digits ≡ 2) ⊎ ¬ IsDigit (slice_index text place)
  pub no_colon : 1 ≤ length digits → slice_index text place ≢ colon
  pub stays : length digits ≡ 0 → place ≡ from

-- the text of a sign: a minus sign, or nothing
abbrev pub sign : Bool → List ℕ
sign true = codes "-"
sign false = []

-- the integer with this sign and this absolute value
abbrev pub signed : Bool → ℕ → ℤ
signed true n = neg_ℤ (pos n)
signed false n = pos n

-- the text has the offset and a colon between the places `from` and `to`
pub record GoesOverOffset (text : List ℕ) (from to : ℕ) (offset : ℤ) : Type 0 where
  pub minus : Bool
  pub digits : List ℕ
  pub over : take to text ≡ take from text ++ sign minus ++ digits ++ codes ":"
  pub decimal : IsDecimal 1 2 digits
  pub value : offset ≡ signed minus (decimal_value digits)

-- no offset with a colon begins at the place `from`: no number of one or two digits with a colon follows the minus sign, if there is one; the fault is at `place`
pub record LacksOffset (text : List ℕ) (from place : ℕ) : Type 0 where
  pub minus : Bool
  pub start : ℕ
  pub over : GoesOver text from start (sign minus)
  pub field : LacksField text start place
  pub no_sign : minus ≡ false → slice_index text start ≢ minus_sign

-- the letter for a kind of entries: t for a table, w for a number
abbrev pub kind_text : Kind → List ℕ
kind_text kind.Table = codes "t"
kind_text kind.Number = codes "w"

-- the byte is neither t nor w
abbrev pub IsNoKind : ℕ → Type 0
IsNoKind b = (b ≢ 116) × (b ≢ 119)

-- the fault says that the text isn't in the grammar, and its place in the text has the property P
abbrev pub IsRuleFormAt : List ℕ → TextFault → (ℕ → Type 0) → Type 0
IsRuleFormAt text f P = (place : ℕ) × (f ≡ fault.Form place) × (place ≤ length text) × P place

-- the fault says that a text isn't in the grammar
abbrev pub IsForm : TextFault → Type 0
IsForm f = (place : ℕ) × (f ≡ fault.Form place)

-- the entries that the digits give: the letters of a table, or a number, as the kind says
abbrev pub entries_of : Kind → List ℕ → Entries
entries_of kind.Table digits = Table (map letter_at digits)
entries_of kind.Number digits = Number (decimal_value digits)

-- the digits can be entries of this kind: hexadecimal digits for a table, or 1 to 39 decimal digits for a number
abbrev pub IsEntries : Kind → List ℕ → Type 0
IsEntries kind.Table digits = All IsHexDigit digits
IsEntries kind.Number digits = IsDecimal 1 39 digits

-- the meaning of a text with this head and these entries
abbrev pub said_with : Head → Entries → Said
said_with f entries = record { states = f.k; width = f.m; offset = f.o; entries = entries; place = f.place }

-- the meaning of a text with this head and these digits
abbrev pub said_of : Head → List ℕ → Said
said_of f digits = said_with f (entries_of f.kind digits)

-- the digits of a number have a fault at this place: there are no digits at all, or the byte here isn't a digit, or it is the fortieth byte
pub record IsDecimalStop (digits : List ℕ) (place : ℕ) : Type 0 where
  pub before : All IsDigit (take place digits)
  pub within : place ≤ length digits
  pub few : place ≤ 39
  pub stop : (length digits ≡ 0) ⊎ ((place < length digits) × ((place ≡ 39) ⊎ ¬ IsDigit (slice_index digits place)))

-- the byte at this place is the first that isn't a hexadecimal digit
pub record IsHexStop (digits : List ℕ) (place : ℕ) : Type 0 where
  pub before : All IsHexDigit (take place digits)
  pub within : place < length digits
  pub stop : ¬ IsHexDigit (slice_index digits place)

-- h is the head of the text, and the entries begin after it. If the entries fit their kind, the text means what the head and the entries say; otherwise its fault is the fault of the entries
pub record IsHead (text : List ℕ) (h : Head) : Type 0 where
  pub within : h.place ≤ length text
  pub says : IsEntries h.kind (drop h.place text) → Says text (said_of h (drop h.place text))
  pub stops : (n : ℕ) → IsFormFault (IsEntries h.kind) (drop h.place text) n → IsFormFault IsSaid text (h.place + n)
