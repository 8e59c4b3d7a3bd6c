use Rattle.std.proofs.Common.{◌≡◌, map, pos, ◌+ℤ◌}
use Rattle.word_image.proofs.Common.{range_with_len}
use Rattle.word_image.specs.LocalRules.{local_map}
use Rattle.word_image.specs.Rings.{ring_letters}
use Rattle.word_image.proofs.rings.new_letters.Given as goal

-- the letters so far are what the rule gives on the windows of the places so far
abbrev pub invariant-loop-place : goal.invariant-loop-place
invariant-loop-place l =
    l.letters.items ≡ map (λ i. local_map l.rule (ring_letters l.ring (pos i +ℤ l.rule.offset) l.rule.width)) (range_with_len 0 l.place)
