use Rattle.std.proofs.Common.{◌≡◌, ℕ, ◌<◌, slice_index}
use Rattle.inverse_table.specs.ImageValues.{letter_by_unit}
use Rattle.inverse_table.proofs.letters.other_apart.Given as goal

abbrev pub invariant-loop-other : goal.invariant-loop-other
invariant-loop-other l = (u : ℕ) → u < l.other → slice_index l.images u ≡ slice_index l.images l.word → letter_by_unit l.place.k l.place.unit u ≡ letter_by_unit l.place.k l.place.unit l.word
