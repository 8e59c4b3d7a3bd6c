-- Parts of sets of nodes.
use Rattle.std.proofs.Common.{◌≡◌, ℕ, bit_and, sym, ap, ◌∙◌}
use Rattle.word_image.proofs.Common.{and_assoc}

-- a part of a part is a part
pub part-of_part : (s t u : ℕ) → bit_and s t ≡ s → bit_and t u ≡ t → bit_and s u ≡ s
part-of_part s t u first second = ap (λ n. bit_and n u) (sym first) ∙ and_assoc u s t ∙ ap (bit_and s) second ∙ first
