use Rattle.std.proofs.Common.{◌≡◌, ℕ, ◌^◌, ◌<◌, List, length, slice_index, take}
use Rattle.word_image.proofs.Common.{IsWord, value, IsRing, KeepsSum}
use Rattle.flux_conserve.proofs.rings.first_lossy_of.Given as goal

-- the letters are the word whose turn it is, and the rings of the words before it keep their sums
abbrev pub invariant-loop : goal.invariant-loop
invariant-loop l = (length l.letters ≡ 9) × IsWord l.rule.states (take l.count l.letters)
    × (l.counter < l.rule.states ^ l.count → value l.rule.states (take l.count l.letters) ≡ l.counter)
    × ((q : List ℕ) → IsRing l.rule.states q → length q ≡ l.count → value l.rule.states q < l.counter → KeepsSum (slice_index l.weights) l.rule q)
