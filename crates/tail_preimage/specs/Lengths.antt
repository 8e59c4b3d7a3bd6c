-- The greatest lengths of the words that the program works on. A stretch of a configuration has at most 16 left periods,
-- the middle and at most 16 right periods. Each of these parts has at most 1,024 letters.
use Rattle.std.specs.Prelude.{ℕ}

-- the greatest number of letters in a part of an accepted configuration
abbrev pub most_part : ℕ
most_part = 1024

-- the greatest number of letters in a stretch: 33 parts
abbrev pub most_stretch : ℕ
most_stretch = 33792

-- the greatest number of letters in a walk along a stretch: its last node has at most 4 letters more
abbrev pub most_walk : ℕ
most_walk = 33796
