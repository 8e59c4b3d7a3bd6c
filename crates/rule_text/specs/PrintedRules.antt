-- The printed text of a rule, such as 2:3:-1:t01110110, and its Wolfram number.
use Rattle.std.specs.Prelude.{ℕ, ◌+◌, nat_lt, if◌then◌else◌, List, ◌++◌, map, codes, Option, Some, None, ℤ, pos, negsuc}
use Rattle.std.specs.Fmt.{decimal}
use Rattle.word_image.specs.LocalRules.{LocalRule, wolfram_number}
use Rattle.word_image.specs.Digits.{lower_digit}

-- the head of the text of a rule, which is the part before the entries: K:M:O: and the kind t or w
abbrev pub head : List ℕ → List ℕ → List ℕ → List ℕ → List ℕ
head k m o kind = k ++ codes ":" ++ m ++ codes ":" ++ o ++ codes ":" ++ kind

-- the text of an offset, with a minus sign if the offset is negative
abbrev pub offset_text : ℤ → List ℕ
offset_text (pos n) = decimal n
offset_text (negsuc n) = codes "-" ++ decimal (n + 1)

-- the printed text of a rule: the table form in lower case
abbrev pub printed_rule : LocalRule → List ℕ
printed_rule r = head (decimal r.states) (decimal r.width) (offset_text r.offset) (codes "t") ++ map lower_digit r.table

-- the Wolfram number of a rule, or None if the rule has more than six states
abbrev pub number_found : LocalRule → Option ℕ
number_found r = if nat_lt r.states 7 then Some (wolfram_number r) else None
