use Rattle.std.proofs.Common.{◌≡◌, ℕ, List, take}
use Rattle.word_image.specs.LocalRules.{value}
use Rattle.word_image.specs.WordsBy.{IsWordBy}
use Rattle.word_image.proofs.values.value_by.Given as goal

-- the value of the letters so far
abbrev pub invariant-loop-place : goal.invariant-loop-place
invariant-loop-place g l = (w : List ℕ) → IsWordBy l.fn.k l.fn.n (goal.F-post g l.letter) w → l.value ≡ value l.fn.k (take l.place w)
