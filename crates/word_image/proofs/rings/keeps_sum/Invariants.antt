use Rattle.std.proofs.Common.{◌≡◌, slice_index, ◌*◌, ◌≤◌, map, take, sum_by, pos}
use Rattle.word_image.proofs.Common.{range_with_len}
use Rattle.word_image.specs.LocalRules.{local_map}
use Rattle.word_image.specs.Rings.{ring_letters}
use Rattle.word_image.proofs.rings.keeps_sum.Given as goal

-- the sums of the letters and of the new letters so far
abbrev pub invariant-loop-place : goal.invariant-loop-place
invariant-loop-place l = (l.before ≡ sum_by (slice_index l.weights) (take l.place l.ring)) × (l.before ≤ 255 * l.place)
    × (l.after ≡ sum_by (slice_index l.weights) (map (λ i. local_map l.rule (ring_letters l.ring (pos i) l.rule.width)) (range_with_len 0 l.place))) × (l.after ≤ 255 * l.place)
