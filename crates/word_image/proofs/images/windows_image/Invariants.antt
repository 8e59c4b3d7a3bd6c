use Rattle.std.proofs.Common.{◌≡◌, ◌+◌, map, slice_range}
use Rattle.word_image.proofs.Common.{range_with_len}
use Rattle.word_image.specs.LocalRules.{local_map}
use Rattle.word_image.proofs.images.windows_image.Given as goal

-- the letters so far are what the rule gives on the windows so far
abbrev pub invariant-loop-start : goal.invariant-loop-start
invariant-loop-start l = l.letters.items ≡ map (λ i. local_map l.rule (slice_range l.word i (i + l.rule.width))) (range_with_len 0 l.start)
