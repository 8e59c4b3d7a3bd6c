use Rattle.std.proofs.Common.{arith}
use Rattle.tail_config.proofs.laws.TailRooms.{config_in-reverse}
use Rattle.tail_config.proofs.tail_room.TailRoom.mirror.Goals as goal

pub returns : goal.returns
returns c = grind (arith, config_in-reverse)
