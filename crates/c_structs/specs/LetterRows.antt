-- The C library puts words into a buffer of letters. A row says where a word is in this buffer: it has the place of
-- the first letter and the number of letters.
use Rattle.std.specs.Prelude.{◌≡◌, ℕ, ◌+◌, ◌≤◌, List, ◌++◌, length, take, drop}
use Rattle.tail_config.specs.Tails.{TailConfig}
use Rattle.c_structs.specs.declared.letter_rows.LetterRow.{LetterRow}
use Rattle.c_structs.specs.declared.letter_rows.TailRows.{TailRows}
use Rattle.c_structs.specs.declared.letter_rows.TwinRows.{TwinRows}
use Rattle.c_structs.specs.declared.letter_rows.SplitRows.{SplitRows}

-- the row says where the word is among the letters
pub record IsRow (letters : List ℕ) (row : LetterRow) (word : List ℕ) : Type 0 where
  pub within : row.begin + row.length ≤ length letters
  pub same : take row.length (drop row.begin letters) ≡ word

-- the two rows say where the words x and y are among the letters
pub record AreTwinRows (letters : List ℕ) (rows : TwinRows) (x y : List ℕ) : Type 0 where
  pub first : IsRow letters rows.x x
  pub second : IsRow letters rows.y y

-- the three rows say where the parts of the configuration t are among the letters
pub record AreTailRows (letters : List ℕ) (rows : TailRows) (t : TailConfig) : Type 0 where
  pub left : IsRow letters rows.left t.left
  pub middle : IsRow letters rows.middle t.middle
  pub right : IsRow letters rows.right t.right

-- the rows say where the parts of the configurations x and y are among the letters
pub record AreSplitRows (letters : List ℕ) (rows : SplitRows) (x y : TailConfig) : Type 0 where
  pub first : AreTailRows letters rows.x x
  pub second : AreTailRows letters rows.y y

-- the letters of a configuration: its left period, its middle and its right period
abbrev pub tail_letters : TailConfig → List ℕ
tail_letters t = t.left ++ t.middle ++ t.right

-- the letters of the configuration x, followed by the letters of the configuration y
abbrev pub split_letters : TailConfig → TailConfig → List ℕ
split_letters x y = tail_letters x ++ tail_letters y

-- the row that is stored if there is no word
abbrev pub no_row : LetterRow
no_row = record { begin = 0; length = 0 }

-- the two rows that are stored if there are no twins
abbrev pub no_twins : TwinRows
no_twins = record { x = no_row; y = no_row }

-- the three rows that are stored if there is no configuration
abbrev pub no_tail : TailRows
no_tail = record { left = no_row; middle = no_row; right = no_row }

-- the rows that are stored if there is no split
abbrev pub no_split : SplitRows
no_split = record { x = no_tail; y = no_tail }
