-- A report of the C library has verdicts on properties of a rule, with evidence. A word of the evidence is in a buffer
-- of letters; its row says where. This file defines the part of a report for each property, and the letters of its
-- words.
use Rattle.std.specs.Prelude.{◌≡◌, ℕ, ◌-◌, List, [], ◌++◌, length, replicate, Option, Some, None, ℤ, pos}
use Rattle.cert_values.specs.Evidence.{InjectiveEvidence, SideEvidence, SumEvidence, Window, Twins, Ahead, Split, Flux, Ring}
use Rattle.c_structs.specs.declared.letter_rows.LetterRow.{LetterRow}
use Rattle.c_structs.specs.declared.letter_rows.TwinRows.{TwinRows}
use Rattle.c_structs.specs.declared.letter_rows.SplitRows.{SplitRows}
use Rattle.c_structs.specs.LetterRows.{IsRow, AreTwinRows, AreSplitRows, split_letters, no_row, no_twins, no_split}

-- the letters of an orphan, or no letters if there is no orphan
abbrev pub orphan_letters : Option (List ℕ) → List ℕ
orphan_letters None = []
orphan_letters (Some w) = w

-- the letters of the twins, or no letters if the evidence is a window
abbrev pub injective_letters : InjectiveEvidence → List ℕ
injective_letters (Window n c) = []
injective_letters (Twins x y) = x ++ y

-- the letters of the split, or no letters if the evidence is a look-ahead
abbrev pub side_letters : SideEvidence → List ℕ
side_letters (Ahead n) = []
side_letters (Split x y) = split_letters x y

-- the letters of the ring, or no letters if the evidence is a flux
abbrev pub sum_letters : SumEvidence → List ℕ
sum_letters (Flux phi) = []
sum_letters (Ring p) = p

-- the numbers of a flux, followed by zeros up to 16 numbers
abbrev pub flux_row : List ℤ → List ℤ
flux_row phi = phi ++ replicate (16 - length phi) (pos 0)

-- the part on surjectivity: 1 for yes, or 0 for no and the row of the orphan
abbrev pub SaysSurjective : List ℕ → ℕ → LetterRow → Option (List ℕ) → Type 0
SaysSurjective letters holds orphan None = (holds ≡ 1) × (orphan ≡ no_row)
SaysSurjective letters holds orphan (Some w) = (holds ≡ 0) × IsRow letters orphan w

-- the part on injectivity: 1 for yes and the window (n, c), or 0 for no and the rows of the twins
abbrev pub SaysInjective : List ℕ → ℕ → ℕ → ℕ → TwinRows → InjectiveEvidence → Type 0
SaysInjective letters holds window place twins (Window n c) = (holds ≡ 1) × (window ≡ n) × (place ≡ c) × (twins ≡ no_twins)
SaysInjective letters holds window place twins (Twins x y) = (holds ≡ 0) × (window ≡ 0) × (place ≡ 0) × AreTwinRows letters twins x y

-- the part on closing on a side: 1 for yes and the look-ahead, or 0 for no and the rows of the split
abbrev pub SaysSide : List ℕ → ℕ → ℕ → SplitRows → SideEvidence → Type 0
SaysSide letters holds ahead split (Ahead n) = (holds ≡ 1) × (ahead ≡ n) × (split ≡ no_split)
SaysSide letters holds ahead split (Split x y) = (holds ≡ 0) × (ahead ≡ 0) × AreSplitRows letters split x y

-- the part on conservation: 1 for yes and the numbers of the flux, or 0 for no and the row of the ring
abbrev pub SaysConserving : List ℕ → ℕ → ℕ → List ℤ → LetterRow → SumEvidence → Type 0
SaysConserving letters holds nodes flux ring (Flux phi) = (holds ≡ 1) × (nodes ≡ length phi) × (flux ≡ flux_row phi) × (ring ≡ no_row)
SaysConserving letters holds nodes flux ring (Ring p) = (holds ≡ 0) × (nodes ≡ 0) × (flux ≡ replicate 16 (pos 0)) × IsRow letters ring p
