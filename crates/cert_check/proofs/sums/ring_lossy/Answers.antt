use Rattle.std.proofs.Common.{ℕ, List, sym, ap, ◌∙◌, arith}
use Rattle.cert_values.proofs.Common.{Ring, sum_of}
use Rattle.cert_conditions.proofs.Common.{NoRing}
use Rattle.cert_check.proofs.sums.ring_lossy.Goals as goal
use Rattle.cert_check.proofs.sums.ring_lossy.Goals.{then-is_empty-via-then-is_empty, then-is_empty-via-else-is_empty+then-keeps_sum}

pub returns-then-is_empty : goal.returns-then-is_empty
returns-then-is_empty c =
    let p = c.as_slice-ring.result.now in
    rw (← c.cert.view_is)
    (NoRing p (ap sum_of c.in-Ring.is ∙ ap (λ (q : List ℕ). Ring q) (sym c.as_slice-ring.ensures)) (λ lossy. grind arith))
