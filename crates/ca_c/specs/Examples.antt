-- Worked examples of words in one block, each followed by a 0 byte. The prover computes them.
use Rattle.std.specs.Prelude.{◌≡◌, refl, [], ◌∷◌, codes}
use Rattle.ca_c.specs.Blocks.{block_of}

two_words : block_of (codes "ab" ∷ codes "c" ∷ []) ≡ 97 ∷ 98 ∷ 0 ∷ 99 ∷ 0 ∷ []
two_words = refl

empty_word : block_of ([] ∷ []) ≡ 0 ∷ []
empty_word = refl

no_words : block_of [] ≡ []
no_words = refl
