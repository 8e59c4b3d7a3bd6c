use Rattle.std.proofs.Common.{◌≡◌, ◌≤◌, ◌++◌, vec_capacity}
use Rattle.word_image.proofs.Common.{repeat}
use Rattle.tail_preimage.proofs.words.append_copies.Given as goal

-- the copies so far
abbrev pub invariant-loop : goal.invariant-loop
invariant-loop l = record { word : l.word.items ≡ l.initial.word.items ++ repeat l.counter l.part; capacity : vec_capacity l.initial.word ≤ vec_capacity l.word }
