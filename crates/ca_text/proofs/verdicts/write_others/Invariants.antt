use Rattle.std.proofs.Common.{◌≡◌, ◌+◌, ◌*◌, ◌≤◌, ◌++◌, length, take, codes, flat_map, decimal}
use Rattle.ca_text.specs.Rooms.{most_text}
use Rattle.ca_text.proofs.verdicts.write_others.Given as goal

-- the numbers so far, at most 40 bytes each
abbrev pub invariant-loop-number : goal.invariant-loop-number
invariant-loop-number l = (l.output ≡ l.fn.output ++ flat_map (λ n. codes "," ++ decimal n) (take l.number-index l.numbers))
    × (length l.fn.output + 40 * length l.numbers ≤ most_text → length l.output ≤ length l.fn.output + 40 * l.number-index)
