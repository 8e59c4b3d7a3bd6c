use Rattle.image_minimal.proofs.Common.{◌≡◌, range_with_len, vec_capacity}
use Rattle.image_minimal.proofs.joined.write_classes.Given as goal

-- the first numbers are there
abbrev pub invariant-loop-number : goal.invariant-loop-number
invariant-loop-number l = record { numbers : l.parents.items ≡ range_with_len 0 l.number; capacity : vec_capacity l.parents ≡ vec_capacity l.fn.parents }
