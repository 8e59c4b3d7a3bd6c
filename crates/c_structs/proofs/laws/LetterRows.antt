-- Rows of a buffer that grows behind them.
use Rattle.std.proofs.Common.{◌≡◌, ℕ, ◌≤◌, List, [], ◌++◌, length, take, drop, sym, ap, ap₂, ◌∙◌, arith, append_assoc, append-nil, length-append, length-drop}
use Rattle.std.proofs.lemmas.List.{take_all}
use Rattle.word_image.proofs.Common.{take-append-le, drop-append-le, drop-append_seam}
use Rattle.tail_config.proofs.Common.{TailConfig}
use Rattle.c_structs.specs.declared.letter_rows.LetterRow.{LetterRow}
use Rattle.c_structs.specs.declared.letter_rows.TwinRows.{TwinRows}
use Rattle.c_structs.specs.declared.letter_rows.TailRows.{TailRows}
use Rattle.c_structs.specs.declared.letter_rows.SplitRows.{SplitRows}
use Rattle.c_structs.specs.LetterRows.{IsRow, AreTwinRows, AreTailRows, AreSplitRows}

-- the letters after are the letters before, and more behind them
pub record IsGrown (letters after : List ℕ) : Type 0 where
  pub more : List ℕ
  pub whole : after ≡ letters ++ more

-- letters begin with themselves
pub IsGrown-same : (letters : List ℕ) → IsGrown letters letters
IsGrown-same letters = record { more = []; whole = sym (append-nil letters) }

-- letters that begin with some do so where more are added
pub IsGrown-more : {letters between after : List ℕ} (more : List ℕ) → IsGrown letters between → after ≡ between ++ more → IsGrown letters after
IsGrown-more {letters} more h grown = record {
  more = h.more ++ more;
  whole = grown ∙ ap (λ (xs : List ℕ). xs ++ more) h.whole ∙ append_assoc letters h.more more;
}

-- the row of a word that was added behind the letters
pub IsRow-added : (before : List ℕ) {after word : List ℕ} {row : LetterRow} → after ≡ before ++ word → row.begin ≡ length before
    → row.length ≡ length word → IsRow after row word
IsRow-added before {after} {word} {row} grown begins long = record {
  within = omega (arith, begins, long, ap length grown, length-append before word);
  same =
      ap₂ (λ (n : ℕ) (xs : List ℕ). take n xs) long (ap₂ (λ (n : ℕ) (xs : List ℕ). drop n xs) begins grown ∙ drop-append_seam before word)
      ∙ take_all (length word) word (omega arith);
}

-- a row keeps its word where letters are added
pub IsRow-grown : {letters after word : List ℕ} {row : LetterRow} → IsGrown letters after → IsRow letters row word → IsRow after row word
IsRow-grown {letters} {after} {word} {row} grown h =
    let begin : row.begin ≤ length letters = omega (arith, h.within) in
    let left : row.length ≤ length (drop row.begin letters) = omega (arith, h.within, length-drop row.begin letters) in
    record {
      within = omega (arith, h.within, ap length grown.whole, length-append letters grown.more);
      same =
          ap (λ (xs : List ℕ). take row.length (drop row.begin xs)) grown.whole ∙ ap (λ (xs : List ℕ). take row.length xs) (drop-append-le row.begin letters grown.more begin)
          ∙ take-append-le row.length (drop row.begin letters) grown.more left ∙ h.same;
    }

-- the rows of two words keep the words where letters are added
pub AreTwinRows-grown : {letters after x y : List ℕ} {rows : TwinRows} → IsGrown letters after → AreTwinRows letters rows x y
    → AreTwinRows after rows x y
AreTwinRows-grown grown h = record { first = IsRow-grown grown h.first; second = IsRow-grown grown h.second }

-- the rows of a configuration keep its parts where letters are added
pub AreTailRows-grown : {letters after : List ℕ} {rows : TailRows} {t : TailConfig} → IsGrown letters after → AreTailRows letters rows t
    → AreTailRows after rows t
AreTailRows-grown grown h = record { left = IsRow-grown grown h.left; middle = IsRow-grown grown h.middle; right = IsRow-grown grown h.right }

-- the rows of two configurations keep their parts where letters are added
pub AreSplitRows-grown : {letters after : List ℕ} {rows : SplitRows} {x y : TailConfig} → IsGrown letters after → AreSplitRows letters rows x y
    → AreSplitRows after rows x y
AreSplitRows-grown grown h = record { first = AreTailRows-grown grown h.first; second = AreTailRows-grown grown h.second }
