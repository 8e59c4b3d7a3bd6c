use Rattle.std.proofs.Common.{length, pos, ◌-ℤ◌, arith}
use Rattle.word_image.proofs.Common.{ints}
use Rattle.tail_config.proofs.laws.Cells.{cell-below}
use Rattle.tail_config.proofs.laws.Mirror.{cell-mirror, image_of-backwards}
use Rattle.tail_config.proofs.tail.mirrored_image_cell.Goals as goal

pub returns : goal.returns
returns c r t i rule tail = image_of-backwards rule (cell-below tail) (cell-mirror tail) i (pos (length t.middle) -ℤ pos 1 -ℤ i) (omega (arith, ints))
