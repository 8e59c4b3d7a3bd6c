use Rattle.std.proofs.Common.{sym, ap, ◌∙◌}
use Rattle.cert_values.proofs.Common.{Certificate, side_of}
use Rattle.cert_conditions.proofs.Common.{NoAhead}
use Rattle.cert_check.proofs.aheads.side_ahead.Goals as goal

pub returns-in-Some : goal.returns-in-Some
returns-in-Some c =
    NoAhead c.args.side c.in-Ahead.n c.in-Some.pair (sym c.part_on.ensures.part ∙ ap side_of c.in-Ahead.is)
    (rw (ap (λ (z : Certificate). z.rule) c.cert.view_is, c.claims_on.ensures.row) at c.in-Some.ensures)
