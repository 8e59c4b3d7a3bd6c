use Rattle.std.proofs.Common.{◌≡◌, length}
use Rattle.inverse_table.specs.ImageValues.{IsRead, letter_by_unit}
use Rattle.inverse_table.proofs.letters.read_run.Given as goal

abbrev pub invariant-loop-word : goal.invariant-loop-word
invariant-loop-word l = record {
  long : length l.letters ≡ length l.initial.letters;
  read : IsRead (letter_by_unit l.fn.place.k l.fn.place.unit) l.images l.word l.letters;
}
