use Rattle.std.proofs.Common.{◌≤◌, arith, eq-eqb}
use Rattle.garden_laws.proofs.MeanTables.{keeps-zeros, keeps-greatest}
use Rattle.flux_conserve.proofs.means.keeps_ends.Goals as goal

pub returns-then-table-eq0-clause-conserving : goal.returns-then-table-eq0-clause-conserving
returns-then-table-eq0-clause-conserving c r rule states table keep =
    let two : 2 ≤ r.states = rule.shape.least_states in
    let last = rw table at (keeps-greatest rule keep) in
    eq-eqb _ _ (omega (arith, two, states, c.from.ensures, last, c.from-then-table-eq0.ensures))

pub returns-else-table-eq0-clause-conserving : goal.returns-else-table-eq0-clause-conserving
returns-else-table-eq0-clause-conserving c r rule states table keep = eq-eqb _ 0 (rw table at (keeps-zeros rule keep))
