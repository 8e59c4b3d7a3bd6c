use Rattle.std.proofs.Common.{◌≤◌, vec_capacity}
use Rattle.inverse_table.specs.ImageValues.{AreImageValues}
use Rattle.inverse_table.specs.declared.image_values.TheConstants.{MOST_IMAGES}
use Rattle.inverse_table.proofs.image_values.write_images.Given as goal

abbrev pub invariant-loop : goal.invariant-loop
invariant-loop l = record {
  images : AreImageValues l.rule l.counter l.images.items;
  room : MOST_IMAGES ≤ vec_capacity l.images;
  other_room : MOST_IMAGES ≤ vec_capacity l.other;
}
