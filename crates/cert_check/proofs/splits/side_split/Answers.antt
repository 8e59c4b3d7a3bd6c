use Rattle.std.proofs.Common.{sym, ap, ◌∙◌}
use Rattle.cert_values.proofs.Common.{Certificate, side_of}
use Rattle.cert_conditions.proofs.Common.{NoSplit}
use Rattle.cert_check.proofs.splits.side_split.Goals as goal

pub returns-in-Some : goal.returns-in-Some
returns-in-Some c =
    NoSplit c.args.side c.in-Split.x.config c.in-Split.y.config c.in-Some.cause (sym c.part_on.ensures.part ∙ ap side_of c.in-Split.is)
    (rw (ap (λ (z : Certificate). z.rule) c.cert.view_is) at c.in-Some.ensures)
