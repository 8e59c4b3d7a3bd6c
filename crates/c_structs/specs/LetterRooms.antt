-- How many letters the words of a report have at most.
use Rattle.std.specs.Prelude.{ℕ, ◌+◌, ◌*◌}
use Rattle.short_words.specs.declared.lent_word.TheConstants.{MOST_LENT}

-- the greatest number of letters of two short words
abbrev pub most_pair : ℕ
most_pair = 2 * 520

-- the greatest number of letters of a configuration with periodic tails
abbrev pub most_tail : ℕ
most_tail = 3 * 1024

-- the greatest number of letters of the two configurations of a split
abbrev pub most_split : ℕ
most_split = 2 * most_tail

-- the greatest number of letters of a ring that shows that a rule isn't conserving
abbrev pub most_ring : ℕ
most_ring = 9

-- the greatest number of letters of all words of a report
abbrev pub most_report : ℕ
most_report = MOST_LENT + most_pair + most_split + most_split + most_ring
