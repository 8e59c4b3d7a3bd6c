use Rattle.std.proofs.Common.{◌≡◌, ◌-◌, ◌^◌, ◌<◌, ◌++◌, length, take}
use Rattle.word_image.proofs.Common.{word_of}
use Rattle.kept_sums.proofs.rings.word_with.Given as goal

-- the first letters, and behind them the word of what is left
abbrev pub invariant-loop-place : goal.invariant-loop-place
invariant-loop-place l = (length l.letters ≡ 15)
    × (l.power ≡ l.k ^ (l.count - l.place))
    × (l.rest < l.k ^ (l.count - l.place))
    × (take l.place l.letters ++ word_of l.k (l.count - l.place) l.rest ≡ word_of l.k l.count l.fn.value)
