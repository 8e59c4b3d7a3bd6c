-- Texts cut at their commas, and the weights that they list.
use Rattle.std.proofs.Common.{◌≡◌, ◌≢◌, ℕ, ◌+◌, ◌≤◌, true, false, cond, List, [], ◌∷◌, ◌++◌, length, All, refl, arith, ◌↔◌, ◌==◌}
use Rattle.std.proofs.lemmas.Bool.{ne_eqb}
use Rattle.word_image.proofs.Common.{All-cons, All-head, All-tail}
use Rattle.ca_commands.specs.WeightTexts.{put_first, pieces, IsWeightText}

-- a text without a comma is one piece
pub pieces-whole : (text : List ℕ) → All (λ b. b ≢ 44) text → pieces text ≡ text ∷ []
pieces-whole [] others = refl
pieces-whole (b ∷ text) others =
    rw (ne_eqb b 44 (All-head (λ b. b ≢ 44) b text others), pieces-whole text (All-tail (λ b. b ≢ 44) b text others)) refl

-- what stands before the first comma is a piece before those of the rest
pub pieces-cut : (piece rest : List ℕ) → All (λ b. b ≢ 44) piece → pieces (piece ++ 44 ∷ rest) ≡ piece ∷ pieces rest
pieces-cut [] rest others = refl
pieces-cut (b ∷ piece) rest others =
    rw (ne_eqb b 44 (All-head (λ b. b ≢ 44) b piece others), pieces-cut piece rest (All-tail (λ b. b ≢ 44) b piece others)) refl

-- the pieces of a text are weights, no more than are left of sixteen
abbrev pub IsLeft : List ℕ → ℕ → Type 0
IsLeft text i = All IsWeightText (pieces text) × (length (pieces text) + i ≤ 16)

-- with a byte in front there is a piece
put_first-some : (b : ℕ) (cut : List (List ℕ)) → 1 ≤ length (put_first b cut)
put_first-some b [] = omega arith
put_first-some b (piece ∷ more) = omega arith

-- a text has at least one piece
pieces-some : (text : List ℕ) → 1 ≤ length (pieces text)
pieces-some [] = omega arith
pieces-some (b ∷ text) = elim (b == 44) as (λ t. 1 ≤ length (cond t ([] ∷ pieces text) (put_first b (pieces text)))) [
  | true ↦ omega arith
  | false ↦ put_first-some b (pieces text)
]

-- the first piece is a weight, so the pieces are weights if and only if the others are
pub IsLeft-more : (text piece others : List ℕ) (i : ℕ) → pieces text ≡ piece ∷ pieces others → IsWeightText piece
    → IsLeft text i ↔ IsLeft others (i + 1)
IsLeft-more text piece others i cut weight =
    rw cut
    ((λ left. (All-tail IsWeightText piece (pieces others) left.0, omega (arith, left.1))), (λ left. (All-cons IsWeightText piece (pieces others) weight left.0, omega (arith, left.1))))

-- after sixteen pieces nothing that is left of a text is right
pub IsLeft-none : (text : List ℕ) (i : ℕ) → 16 ≤ i → ¬ IsLeft text i
IsLeft-none text i past left = omega (arith, pieces-some text, left.1)
