use Rattle.std.proofs.Common.{◌≡◌, ◌*◌, ◌%◌, length}
use Rattle.inverse_table.specs.ImageValues.{IsRead, letter_by_unit}
use Rattle.inverse_table.proofs.letters.read_letters.Given as goal

abbrev pub invariant-loop-run : goal.invariant-loop-run
invariant-loop-run l = record {
  long : length l.letters ≡ length l.initial.letters;
  letter : l.letter ≡ l.run % l.place.k;
  read : IsRead (letter_by_unit l.place.k l.place.unit) l.images (l.run * l.place.unit) l.letters;
}
