use Rattle.std.proofs.Common.{◌≡◌, ◌/◌, ◌%◌, ◌^◌, take, reverse}
use Rattle.word_image.proofs.Common.{word_of}
use Rattle.rule_text.proofs.digits.write_number.Given as goal

-- the letters so far, and what is left of the number
abbrev pub invariant-loop-letter : goal.invariant-loop-letter
invariant-loop-letter l =
    let i = l.letter-index in record {
      letters : take i l.table ≡ reverse (word_of l.k i (l.number % l.k ^ i));
      left : l.rest ≡ l.number / l.k ^ i;
    }
