-- The two sides of the line of cells. A definition on the left is the definition on the right for the mirrored rule.
-- The rule has width m, and a node is a word of m - 1 letters.
use Rattle.std.specs.Prelude.{ℕ}
use Rattle.word_image.specs.LocalRules.{LocalRule, mirrored}
use Rattle.word_image.specs.Graphs.{first_of, second_of}
use Rattle.word_image.specs.Ranks.{BeginTogether, EndTogether}
use Rattle.word_image.specs.declared.side.Side.{Side}
use Rattle.word_image.specs.declared.side.Side.TheVariants.{Right, Left}
use Rattle.word_image.specs.Windows.{IsRightAhead}

-- the opposite side: left for right, and right for left
abbrev pub other : Side → Side
other Right = Left
other Left = Right

-- the rule itself for the right side, and the mirrored rule for the left side
abbrev pub seen_from : Side → LocalRule → LocalRule
seen_from Right r = r
seen_from Left r = mirrored r

-- two words of n + m - 1 letters with the same image begin with the nodes u and v if the side is the right, and end with these nodes if it is the left
abbrev pub Together : Side → LocalRule → ℕ → ℕ → ℕ → Type 0
Together Right = BeginTogether
Together Left = EndTogether

-- two words of n + m - 1 letters with the same image begin with the nodes of pair p if the side is the right, and end with these nodes if the side is the left
abbrev pub PairGoes : Side → LocalRule → ℕ → ℕ → Type 0
PairGoes side r p = Together side r (first_of r p) (second_of r p)

-- n is a left look-ahead: the last m - 1 letters of a word and n letters of its image determine the letter before these last letters
abbrev pub IsLeftAhead : LocalRule → ℕ → Type 0
IsLeftAhead r n = IsRightAhead (mirrored r) n
