use Rattle.std.proofs.Common.{◌≡◌, ◌++◌, take}
use Rattle.short_words.proofs.short_word.ShortWord.append.Given as goal

-- the first letters
abbrev pub invariant-loop-letter : goal.invariant-loop-letter
invariant-loop-letter l = l.self ≡ l.initial.self ++ take l.letter-index l.letters
