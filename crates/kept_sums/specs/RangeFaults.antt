-- Weights are given to the words of `range` letters. At most 16 words can have weights. This file defines what is
-- wrong with a length of words.
use Rattle.std.specs.Prelude.{ℕ, ◌^◌, Option, Some, None, nat_lt, ◌==◌, if◌then◌else◌}
use Rattle.kept_sums.specs.Rows.{most_words}
use Rattle.kept_sums.specs.declared.ranges.RangeFault.{RangeFault}
use Rattle.kept_sums.specs.declared.ranges.RangeFault.TheVariants.{Zero, Words}

-- the reason why the words of `range` letters can't have weights: their length is 0, or there are more than 16 of them; None if they can
abbrev pub range_fault : ℕ → ℕ → Option RangeFault
range_fault k range = if range == 0 then Some Zero else (if nat_lt most_words (k ^ range) then Some Words else None)
