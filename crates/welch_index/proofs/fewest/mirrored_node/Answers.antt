use Rattle.std.proofs.Common.{◌≡◌, ℕ, ◌-◌, ◌^◌, ◌<◌, reverse, slice_index, sym, subst₂, arith, rules}
use Rattle.word_image.proofs.Common.{length-reverse, get_or-reverse, IsWord-word_of, length-word_of}
use Rattle.word_image.specs.LocalRules.{value, word_of}
use Rattle.word_image.specs.WordsBy.{IsWordBy}
use Rattle.welch_index.proofs.fewest.mirrored_node.Goals as goal

-- the letters from the last one on make the node read backwards
by_last : {k m v : ℕ} {gives : ℕ → ℕ → Type 0} → v < k ^ m → ((i a : ℕ) → i < m → gives i a → a ≡ slice_index (word_of k m v) (m - 1 - i))
    → IsWordBy k m gives (reverse (word_of k m v))
by_last below given = grind (arith, length-word_of, length-reverse, get_or-reverse, IsWord-word_of)

pub value_by-requires-clause-word : goal.value_by-requires-clause-word
value_by-requires-clause-word c =
    let below = subst₂ (λ k m. c.args.node < k ^ (m - 1)) (sym c.k-k.ensures.states) (sym c.m.ensures.width) c.requires in
    (_, by_last below (λ i a l h. search rules))

pub returns-clause-value : goal.returns-clause-value
returns-clause-value c =
    let below = subst₂ (λ k m. c.args.node < k ^ (m - 1)) (sym c.k-k.ensures.states) (sym c.m.ensures.width) c.requires in
    subst₂ (λ k m. c.value_by.result ≡ value k (reverse (word_of k (m - 1) c.args.node))) c.k-k.ensures.states c.m.ensures.width
    (c.value_by.ensures.value _ (by_last below (λ i a l h. search rules)))
