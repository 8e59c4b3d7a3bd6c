use Rattle.std.proofs.Common.{◌≡◌, ℕ, ◌<◌, List, slice_index, ap, ◌∙◌, arith, rules}
use Rattle.word_image.proofs.Common.{length-map, get_or-map, LocalRule, IsRule, IsWord, value, word_of, length-word_of, IsWordBy-letters, window_count-le, some_letter}
use Rattle.word_image.specs.WordsBy.{IsWordBy}
use Rattle.rule_algebra.specs.Algebra.{recoloured}
use Rattle.rule_algebra.proofs.laws.Recolouring.{IsWord-recoloured}
use Rattle.rule_algebra.proofs.recolouring.recoloured_value.Goals as goal

-- the letters in their colours make the recoloured window
by_colours : {r : LocalRule} {k m : ℕ} {gives : ℕ → ℕ → Type 0} (colours : List ℕ) (v : ℕ) → IsRule r → IsWord r.states colours → k ≡ r.states
    → m ≡ r.width
    → ((i a : ℕ) → i < r.width → gives i a → a ≡ slice_index colours (slice_index (word_of k m v) i))
    → IsWordBy k m gives (recoloured colours (word_of r.states r.width v))
by_colours {r} colours v rule word states width given =
    grind (arith, length-word_of, IsWordBy-letters, length-map, IsWord-recoloured, some_letter, get_or-map)

pub value_by-requires-clause-word : goal.value_by-requires-clause-word
value_by-requires-clause-word c = (_, by_colours c.args.colours.now c.args.window c.k-k.ensures.rule c.requires.colours c.k-k.ensures.states c.m-m.ensures.width (λ i a l h. search rules))

pub value_by-requires-clause-fits : goal.value_by-requires-clause-fits
value_by-requires-clause-fits c = rw (c.k-k.ensures.states, c.m-m.ensures.width) (window_count-le _ _ _ c.k-k.ensures.rule.shape)

pub returns-clause-value : goal.returns-clause-value
returns-clause-value c =
    let r = c.args.rule.now in
    c.value_by.ensures.value _ (by_colours c.args.colours.now c.args.window c.k-k.ensures.rule c.requires.colours c.k-k.ensures.states c.m-m.ensures.width (λ i a l h. search rules))
    ∙ ap (λ k. value k (recoloured c.args.colours.now (word_of r.states r.width c.args.window))) c.k-k.ensures.states
