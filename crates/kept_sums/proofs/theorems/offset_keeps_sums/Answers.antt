use Rattle.kept_sums.proofs.laws.Flows.{IsKept-at_offset}
use Rattle.kept_sums.proofs.theorems.offset_keeps_sums.Goals as goal

pub returns : goal.returns
returns c = λ r range weight o rule moved some. (IsKept-at_offset r range weight o rule moved some, IsKept-at_offset (record { states = r.states; width = r.width; offset = o; table = r.table }) range weight r.offset moved rule some)
