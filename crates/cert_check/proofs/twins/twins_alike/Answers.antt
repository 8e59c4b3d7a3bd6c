use Rattle.std.proofs.Common.{ℕ, List, sym, ap, ap₂, ◌∙◌}
use Rattle.cert_values.proofs.Common.{Twins, injective_of}
use Rattle.cert_conditions.proofs.Common.{NoTwins}
use Rattle.cert_check.proofs.twins.twins_alike.Goals as goal

pub returns-in-Some : goal.returns-in-Some
returns-in-Some c =
    let words = ap₂ (λ (x y : List ℕ). Twins x y) (sym c.as_slice.ensures) (sym c.as_slice-2.ensures) in
    rw (← c.cert.view_is)
    (NoTwins c.as_slice.result.now c.as_slice-2.result.now c.in-Some.cause (ap injective_of c.in-Twins.is ∙ words) c.in-Some.ensures)
