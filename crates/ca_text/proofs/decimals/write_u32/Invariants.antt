use Rattle.ca_text.proofs.laws.Decimals.{AreLeft}
use Rattle.ca_text.proofs.decimals.write_u32.Given as goal

-- the digits of what is left are still to be written
abbrev pub invariant-loop-left : goal.invariant-loop-left
invariant-loop-left l = AreLeft l.number l.left l.place l.end l.bytes l.fn.bytes

abbrev pub decreases-loop-left : goal.decreases-loop-left
decreases-loop-left l = l.left
