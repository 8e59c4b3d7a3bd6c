use Rattle.std.proofs.Common.{◌/◌, ◌%◌}
use Rattle.pair_laws.proofs.Common.{HasBit-none}
use Rattle.cert_check.proofs.marks.Marks.new.Goals as goal

pub returns : goal.returns
returns c = λ s. HasBit-none 4096 (s / 16) (s % 16)
