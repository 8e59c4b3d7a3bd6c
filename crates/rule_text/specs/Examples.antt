-- Worked examples, which the prover computes: texts of rules, with their rules and their faults.
use Rattle.std.specs.Prelude.{◌≡◌, refl, [], ◌∷◌, pos, negsuc, Some, None, map, codes}
use Rattle.std.specs.Fmt.{digits}
use Rattle.rule_text.specs.declared.text_fault.TextFault.TheVariants as fault
use Rattle.word_image.specs.Digits.{letter_at}
use Rattle.rule_text.specs.RuleTexts.{Table, Number, bare, by_number, decimal_value, fault_of, rule_of}
use Rattle.rule_text.specs.PrintedRules.{printed_rule}

-- the decimal digits 110 stand for the number 110
value_110 : decimal_value (codes "110") ≡ 110
value_110 = refl

-- the printed text of the rule of the text 110
printed_110 : printed_rule (rule_of (bare 110)) ≡ codes "2:3:-1:t01110110"
unfolding digits
printed_110 = refl

-- the printed text of the rule of the text 30
printed_30 : printed_rule (rule_of (bare 30)) ≡ codes "2:3:-1:t01111000"
unfolding digits
printed_30 = refl

-- the text 110 has no fault
accepted_110 : fault_of (bare 110) ≡ None
accepted_110 = refl

-- the text 256 has a number that is too great
too_large : fault_of (bare 256) ≡ Some fault.Number
too_large = refl

-- the text 4:3:-1:wN with N = 2 ^ 128 has a number that is too great
beyond_128_bits : fault_of (record { states = 4; width = 3; offset = negsuc 0; entries = Number 340282366920938463463374607431768211456; place = 8 }) ≡ Some fault.Number
beyond_128_bits = refl

-- the text 4:3:-1:wN with N = 2 ^ 128 - 1 has no fault
greatest_of_128_bits : fault_of (record { states = 4; width = 3; offset = negsuc 0; entries = Number 340282366920938463463374607431768211455; place = 8 }) ≡ None
greatest_of_128_bits = refl

-- the text 7:2:0:w5 has a fault in its kind, since a rule of more than six states isn't given by a number
first_fault_kind : fault_of (record { states = 7; width = 2; offset = pos 0; entries = Number 5; place = 7 }) ≡ Some fault.Kind
first_fault_kind = refl

-- the text 3:4:0:t0 has too many nodes
first_fault_nodes : fault_of (record { states = 3; width = 4; offset = pos 0; entries = Table (0 ∷ []); place = 7 }) ≡ Some fault.Nodes
first_fault_nodes = refl

-- the text 2:3:-1:t01110112 has a fault in its last letter
first_fault_letter : fault_of (record { states = 2; width = 3; offset = negsuc 0; entries = Table (map letter_at (codes "01110112")); place = 8 }) ≡ Some (fault.Letter 15)
first_fault_letter = refl

-- the text 2:3:-1:t0111 has a fault in its length
first_fault_length : fault_of (record { states = 2; width = 3; offset = negsuc 0; entries = Table (map letter_at (codes "0111")); place = 8 }) ≡ Some fault.Length
first_fault_length = refl

-- the text 2:3:15:t01110110 has a fault in its offset
first_fault_offset : fault_of (record { states = 2; width = 3; offset = pos 15; entries = Table (map letter_at (codes "01110110")); place = 8 }) ≡ Some fault.Offset
first_fault_offset = refl

-- the text 17:2:0:t0 has too many states
first_fault_states : fault_of (record { states = 17; width = 2; offset = pos 0; entries = Table (0 ∷ []); place = 8 }) ≡ Some fault.States
first_fault_states = refl

-- the text 2:6:0:t0 has too great a width
first_fault_width : fault_of (record { states = 2; width = 6; offset = pos 0; entries = Table (0 ∷ []); place = 7 }) ≡ Some fault.Width
first_fault_width = refl

-- the printed text of the rule of two states and width 2 with the number 6
numbered_6 : printed_rule (rule_of (by_number 2 2 (pos 0) 6)) ≡ codes "2:2:0:t0110"
unfolding digits
numbered_6 = refl
