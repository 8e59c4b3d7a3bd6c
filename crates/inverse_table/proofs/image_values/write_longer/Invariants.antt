use Rattle.std.proofs.Common.{◌≡◌, ◌*◌, ◌%◌, ◌≤◌, vec_capacity}
use Rattle.word_image.proofs.Common.{node_count}
use Rattle.inverse_table.specs.declared.image_values.TheConstants.{MOST_IMAGES}
use Rattle.inverse_table.proofs.ImageLaws.{AreLonger}
use Rattle.inverse_table.proofs.image_values.write_longer.Given as goal

abbrev pub invariant-loop-image : goal.invariant-loop-image
invariant-loop-image l = record {
  longer : AreLonger l.rule l.images l.image-index l.list.items;
  room : MOST_IMAGES ≤ vec_capacity l.list;
  place : l.place ≡ l.image-index % node_count l.rule * l.rule.states;
}
