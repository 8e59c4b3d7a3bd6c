use Rattle.std.proofs.Common.{length-take-le, arith}
use Rattle.std.proofs.lemmas.Int.{to_z-of_z}
use Rattle.word_image.proofs.Common.{length-map, window_count-le}
use Rattle.rule_text.proofs.laws.Beginnings.{fault_in_text, take-filled}
use Rattle.rule_text.proofs.beginnings.begin_table.Goals as goal

pub slice_bounds-table-end : goal.slice_bounds-table-end
slice_bounds-table-end c = grind (arith, window_count-le c.args.head.now.k c.args.head.now.m c.args.head.now.o c.requires.shape)

pub slice_bounds-new-end : goal.slice_bounds-new-end
slice_bounds-new-end c = grind (arith, window_count-le, length-take-le)

pub returns-in-Ok : goal.returns-in-Ok
returns-in-Ok c = grind (arith, to_z-of_z, take-filled, length-map, window_count-le, fault_in_text)

pub returns-in-Err : goal.returns-in-Err
returns-in-Err c = grind (arith, to_z-of_z, take-filled, length-map, window_count-le, fault_in_text)
