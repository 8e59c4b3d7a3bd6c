use Rattle.std.proofs.Common.{◌≡◌, ℕ, ◌-◌, ◌^◌, ◌<◌, reverse, slice_index, arith, rules}
use Rattle.word_image.proofs.Common.{length-reverse, get_or-reverse}
use Rattle.word_image.specs.LocalRules.{word_of}
use Rattle.word_image.specs.WordsBy.{IsWordBy}
use Rattle.word_image.proofs.laws.Values.{IsWord-word_of, length-word_of}
use Rattle.word_image.proofs.local_rule.backwards.Goals as goal

-- the letters from the last one on make the word read backwards
by_last : {k m v : ℕ} {gives : ℕ → ℕ → Type 0} → v < k ^ m → ((i a : ℕ) → i < m → gives i a → a ≡ slice_index (word_of k m v) (m - 1 - i))
    → IsWordBy k m gives (reverse (word_of k m v))
by_last below given = grind (arith, length-word_of, length-reverse, get_or-reverse, IsWord-word_of)

pub value_by-requires-clause-word : goal.value_by-requires-clause-word
value_by-requires-clause-word c = (_, by_last c.requires.window (λ i a l h. search rules))

pub returns-clause-value : goal.returns-clause-value
returns-clause-value c = c.value_by.ensures.value _ (by_last c.requires.window (λ i a l h. search rules))
