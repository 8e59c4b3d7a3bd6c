-- What the images of configurations and words are under shifted rules, rules with renamed letters, and composed rules.
use Rattle.std.specs.Prelude.{◌≡◌, ℕ, List, map, ℤ, pos, ◌+ℤ◌}
use Rattle.std.specs.List.{range_with_len}
use Rattle.word_image.specs.LocalRules.{LocalRule, IsWord, local_map}
use Rattle.word_image.specs.Words.{image}
use Rattle.tail_config.specs.Tails.{TailConfig, IsTail, image_cell}
use Rattle.rule_algebra.specs.Algebra.{recoloured}

-- g is shifted by `by` cells: cell i of an image under g is cell i + by of the image under r
abbrev pub ShiftsImages : LocalRule → ℤ → LocalRule → Type 0
ShiftsImages r by g = (t : TailConfig) (i : ℤ) → image_cell g t i ≡ image_cell r t (i +ℤ by)

-- g is f with renamed letters: the image under g of a word with renamed letters is the image of the word under f, with renamed letters
abbrev pub RecoloursImages : List ℕ → LocalRule → LocalRule → Type 0
RecoloursImages colours f g = (x : List ℕ) → IsWord f.states x → image g (recoloured colours x) ≡ recoloured colours (image f x)

-- g is the composition of two rules: each cell of an image under g is the letter that `second` gives for the window of this cell in the image under `first`
abbrev pub ComposesCells : LocalRule → LocalRule → LocalRule → Type 0
ComposesCells first second g = (t : TailConfig) (i : ℤ) → IsTail first.states t
    → image_cell g t i ≡ local_map second (map (λ j. image_cell first t (i +ℤ second.offset +ℤ pos j)) (range_with_len 0 second.width))
