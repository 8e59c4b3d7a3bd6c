-- Worked examples: rules, numbers, words, images, rings and pairs done by hand, which the prover computes. Examples
-- that need a proof, such as twins and windows, are in proofs/Examples.antt.
use Rattle.std.specs.Prelude.{◌≡◌, true, false, [], ◌∷◌, length, map, sum_by, codes, refl, pos, negsuc, Some, None}
use Rattle.std.specs.List.{range_with_len, zip}
use Rattle.std.specs.declared.cmp.Ordering.TheVariants.{Less, Equal, Greater}
use Rattle.word_image.specs.LocalRules.{LocalRule, value, word_of, local_map, node_count, wolfram_number, mirrored}
use Rattle.word_image.specs.SameRules.{same_rule}
use Rattle.word_image.specs.Words.{image, word_cmp}
use Rattle.word_image.specs.Rings.{ring_letter, ring_letters, ring_image, pair_cmp, pairs_cmp}
use Rattle.word_image.specs.Graphs.{next, label, node_letter, full_set, pair_of, first_of, second_of, follow, pair_count}
use Rattle.word_image.specs.MarkedPairs.{marked}
use Rattle.word_image.specs.Digits.{lower_digit, hex_value, letter_at, word_text}
use Rattle.word_image.specs.RuleFaults.{shape_fault, table_fault, rule_fault}
use Rattle.word_image.specs.ImageFaults.{image_fault}
use Rattle.word_image.specs.Storage.{padded}
use Rattle.word_image.specs.declared.local_rule.RuleFault.TheVariants as fault
use Rattle.word_image.specs.declared.images.ImageFault.TheVariants as refusal

-- rule 110: the text 2:3:-1:t01110110
abbrev pub rule110 : LocalRule
rule110 = record { states = 2; width = 3; offset = negsuc 0; table = 0 ∷ 1 ∷ 1 ∷ 1 ∷ 0 ∷ 1 ∷ 1 ∷ 0 ∷ [] }

-- the sum of two letters modulo 3: the text 3:2:0:t012120201
abbrev pub sum_mod_three : LocalRule
sum_mod_three = record { states = 3; width = 2; offset = pos 0; table = 0 ∷ 1 ∷ 2 ∷ 1 ∷ 2 ∷ 0 ∷ 2 ∷ 0 ∷ 1 ∷ [] }

-- the sum of two letters modulo 2: the text 2:2:0:t0110
abbrev pub sum_mod_two : LocalRule
sum_mod_two = record { states = 2; width = 2; offset = pos 0; table = 0 ∷ 1 ∷ 1 ∷ 0 ∷ [] }

-- the shift, by which each cell takes the letter to its right: the text 2:2:0:t0101
abbrev pub shift : LocalRule
shift = record { states = 2; width = 2; offset = pos 0; table = 0 ∷ 1 ∷ 0 ∷ 1 ∷ [] }

-- each cell keeps its letter and ignores the letter to its right: the text 2:2:0:t0011
abbrev pub stay : LocalRule
stay = record { states = 2; width = 2; offset = pos 0; table = 0 ∷ 0 ∷ 1 ∷ 1 ∷ [] }

-- the rule that gives 1 if both cells are 1, and 0 if not: the text 2:2:0:t0001
abbrev pub both : LocalRule
both = record { states = 2; width = 2; offset = pos 0; table = 0 ∷ 0 ∷ 0 ∷ 1 ∷ [] }

-- the rule that gives 0 for each window: the text 2:2:0:t0000
abbrev pub zero_rule : LocalRule
zero_rule = record { states = 2; width = 2; offset = pos 0; table = 0 ∷ 0 ∷ 0 ∷ 0 ∷ [] }

-- rule 184, by which each 1 moves one cell to the right if this cell is 0: the text 2:3:-1:t00011101
abbrev pub rule184 : LocalRule
rule184 = record { states = 2; width = 3; offset = negsuc 0; table = 0 ∷ 0 ∷ 0 ∷ 1 ∷ 1 ∷ 1 ∷ 0 ∷ 1 ∷ [] }

-- a rule whose rings of one and two letters keep their sum, and whose ring 012 doesn't: the text 3:2:0:t002111022
abbrev pub lossy_at_three : LocalRule
lossy_at_three = record { states = 3; width = 2; offset = pos 0; table = 0 ∷ 0 ∷ 2 ∷ 1 ∷ 1 ∷ 1 ∷ 0 ∷ 2 ∷ 2 ∷ [] }

-- Words and their values

value-011 : value 2 (0 ∷ 1 ∷ 1 ∷ []) ≡ 3
value-011 = refl

word_of-6 : word_of 2 3 6 ≡ 1 ∷ 1 ∷ 0 ∷ []
word_of-6 = refl

word_of-7 : word_of 3 2 7 ≡ 2 ∷ 1 ∷ []
word_of-7 = refl

-- What a rule gives on a window, and the Wolfram number of a rule

local_map-011 : local_map rule110 (0 ∷ 1 ∷ 1 ∷ []) ≡ 1
local_map-011 = refl

local_map-21 : local_map sum_mod_three (2 ∷ 1 ∷ []) ≡ 0
local_map-21 = refl

wolfram_number-110 : wolfram_number rule110 ≡ 110
wolfram_number-110 = refl

wolfram_number-sum_mod_three : wolfram_number sum_mod_three ≡ 8229
wolfram_number-sum_mod_three = refl

-- Two rules are the same if their states, widths, offsets and tables are

same_rule-110 : same_rule rule110 rule110 ≡ true
same_rule-110 = refl

same_rule-table : same_rule shift stay ≡ false
same_rule-table = refl

same_rule-offset : same_rule stay (record stay { offset = negsuc 0 }) ≡ false
same_rule-offset = refl

-- The mirrored rule of rule 110 is rule 124. A rule that reads a cell and the cell to its right has offset 0, and its mirrored rule has offset -1

mirrored-table : (mirrored rule110).table ≡ 0 ∷ 0 ∷ 1 ∷ 1 ∷ 1 ∷ 1 ∷ 1 ∷ 0 ∷ []
mirrored-table = refl

mirrored-number : wolfram_number (mirrored rule110) ≡ 124
mirrored-number = refl

mirrored-offset : (mirrored sum_mod_three).offset ≡ negsuc 0
mirrored-offset = refl

mirrored-stay : mirrored stay ≡ record { states = 2; width = 2; offset = negsuc 0; table = 0 ∷ 1 ∷ 0 ∷ 1 ∷ [] }
mirrored-stay = refl

-- Images

image-01100 : image rule110 (0 ∷ 1 ∷ 1 ∷ 0 ∷ 0 ∷ []) ≡ 1 ∷ 1 ∷ 0 ∷ []
image-01100 = refl

image-01 : image rule110 (0 ∷ 1 ∷ []) ≡ []
image-01 = refl

-- The order of words: shorter ones first, then dictionary order

word_cmp-length : word_cmp (0 ∷ 1 ∷ []) (0 ∷ 0 ∷ 0 ∷ []) ≡ Less
word_cmp-length = refl

word_cmp-letters : word_cmp (1 ∷ 0 ∷ 0 ∷ []) (0 ∷ 1 ∷ 1 ∷ []) ≡ Greater
word_cmp-letters = refl

word_cmp-same : word_cmp (1 ∷ 0 ∷ []) (1 ∷ 0 ∷ []) ≡ Equal
word_cmp-same = refl

-- Rings: the letters of a ring are counted around the ring, on both sides of place 0

ring_letter-before_0 : ring_letter (0 ∷ 1 ∷ 2 ∷ []) (negsuc 0) ≡ 2
ring_letter-before_0 = refl

ring_letters-round : ring_letters (0 ∷ 1 ∷ 2 ∷ []) (negsuc 1) 6 ≡ 1 ∷ 2 ∷ 0 ∷ 1 ∷ 2 ∷ 0 ∷ []
ring_letters-round = refl

-- the rings 0011 and 0101 are twins of rule 184: they have the same image

ring_image-0011 : ring_image rule184 (0 ∷ 0 ∷ 1 ∷ 1 ∷ []) ≡ 1 ∷ 0 ∷ 1 ∷ 0 ∷ []
ring_image-0011 = refl

ring_image-0101 : ring_image rule184 (0 ∷ 1 ∷ 0 ∷ 1 ∷ []) ≡ 1 ∷ 0 ∷ 1 ∷ 0 ∷ []
ring_image-0101 = refl

-- the ring 012 doesn't keep its sum: 0 + 1 + 2 becomes 0 + 1 + 0

ring_image-012 : ring_image lossy_at_three (0 ∷ 1 ∷ 2 ∷ []) ≡ 0 ∷ 1 ∷ 0 ∷ []
ring_image-012 = refl

sum-012 : sum_by (λ a. a) (0 ∷ 1 ∷ 2 ∷ []) ≡ 3
sum-012 = refl

sum-ring_image-012 : sum_by (λ a. a) (ring_image lossy_at_three (0 ∷ 1 ∷ 2 ∷ [])) ≡ 1
sum-ring_image-012 = refl

-- The order of pairs of words: shorter ones first, then the dictionary order of their pairs of letters

pair_cmp-first : pair_cmp (0, 2) (1, 0) ≡ Less
pair_cmp-first = refl

pair_cmp-second : pair_cmp (1, 2) (1, 0) ≡ Greater
pair_cmp-second = refl

pairs_cmp-length : pairs_cmp (zip (1 ∷ []) (1 ∷ [])) (zip (0 ∷ 0 ∷ []) (0 ∷ 1 ∷ [])) ≡ Less
pairs_cmp-length = refl

pairs_cmp-letters : pairs_cmp (zip (0 ∷ 1 ∷ []) (1 ∷ 0 ∷ [])) (zip (0 ∷ 1 ∷ []) (0 ∷ 1 ∷ [])) ≡ Greater
pairs_cmp-letters = refl

-- The de Bruijn graph of rule 110: the edge from node 10 on the letter 1 leads to node 01, and its label is 1, since the rule gives 1 for the window 101

node_count-110 : node_count rule110 ≡ 4
node_count-110 = refl

next-110 : next rule110 2 1 ≡ 1
next-110 = refl

label-110 : label rule110 2 1 ≡ 1
label-110 = refl

node_letter-110 : node_letter rule110 2 0 ≡ 1
node_letter-110 = refl

full_set-110 : full_set rule110 ≡ 15
full_set-110 = refl

-- Pairs of nodes of rule 110. The pair of 10 and 01 has the number 9. The letters 1 and 0 lead from it along the
-- windows 101 and 010, which both give 1, to the nodes 01 and 10. The window 100 gives 0.

pair_of-110 : pair_of rule110 2 1 ≡ 9
pair_of-110 = refl

first_of-110 : first_of rule110 9 ≡ 2
first_of-110 = refl

second_of-110 : second_of rule110 9 ≡ 1
second_of-110 = refl

follow-equal : follow rule110 9 1 0 ≡ Some 6
follow-equal = refl

follow-unequal : follow rule110 9 0 0 ≡ None
follow-unequal = refl

-- The marked graph has each of the 16 pairs twice, with mark 0 and with mark 1: two different letters lead to a pair with mark 1, and no step leads back to mark 0

pair_count-110 : pair_count rule110 ≡ 16
pair_count-110 = refl

marked-same_letters : marked rule110 0 1 1 ≡ Some 5
marked-same_letters = refl

marked-different_letters : marked rule110 9 1 0 ≡ Some 22
marked-different_letters = refl

marked-stays : marked rule110 16 1 1 ≡ Some 21
marked-stays = refl

marked-unequal : marked rule110 9 0 0 ≡ None
marked-unequal = refl

-- How letters and words are written as texts and read from texts

lower_digit-all : map lower_digit (range_with_len 0 16) ≡ codes "0123456789abcdef"
lower_digit-all = refl

hex_value-digits : map hex_value (codes "09afAF") ≡ Some 0 ∷ Some 9 ∷ Some 10 ∷ Some 15 ∷ Some 10 ∷ Some 15 ∷ []
hex_value-digits = refl

hex_value-none : map hex_value (codes "/:@G`g") ≡ None ∷ None ∷ None ∷ None ∷ None ∷ None ∷ []
hex_value-none = refl

letter_at-digits : map letter_at (codes "07aF") ≡ 0 ∷ 7 ∷ 10 ∷ 15 ∷ []
letter_at-digits = refl

word_text-letters : word_text (0 ∷ 7 ∷ 10 ∷ 15 ∷ []) ≡ codes "07af"
word_text-letters = refl

-- The first fault of a shape, of a table, of a rule, of a word and of a ring

shape_fault-order : shape_fault 17 6 (negsuc 16) ≡ Some fault.States
shape_fault-order = refl

shape_fault-nodes : shape_fault 3 4 (pos 0) ≡ Some fault.Nodes
shape_fault-nodes = refl

shape_fault-offset : shape_fault 2 3 (pos 15) ≡ Some fault.Offset
shape_fault-offset = refl

shape_fault-none : shape_fault 2 3 (pos 14) ≡ None
shape_fault-none = refl

table_fault-length : table_fault 2 3 (2 ∷ []) ≡ Some fault.Length
table_fault-length = refl

table_fault-letter : table_fault 2 2 (0 ∷ 1 ∷ 2 ∷ 3 ∷ []) ≡ Some (fault.Letter 2)
table_fault-letter = refl

rule_fault-order : rule_fault 3 4 (pos 0) (7 ∷ []) ≡ Some fault.Nodes
rule_fault-order = refl

image_fault-letter : image_fault rule110 (2 ∷ []) ≡ Some (refusal.Letter 0)
image_fault-letter = refl

image_fault-short : image_fault rule110 (0 ∷ []) ≡ Some refusal.Short
image_fault-short = refl

image_fault-none : image_fault rule110 (0 ∷ 1 ∷ []) ≡ None
image_fault-none = refl

-- A table is stored as 256 numbers: its letters, followed by zeros

padded-length : length (padded rule110.table) ≡ 256
padded-length = refl
