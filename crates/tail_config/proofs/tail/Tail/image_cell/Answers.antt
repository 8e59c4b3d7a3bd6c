use Rattle.std.proofs.Common.{rules}
use Rattle.tail_config.specs.TailValues.{IsAcceptedTail}
use Rattle.tail_config.proofs.laws.Runs.{IsWord-run}
use Rattle.tail_config.proofs.laws.Cells.{cell-below}
use Rattle.tail_config.proofs.tail.Tail.image_cell.Goals as goal

pub apply-requires-clause-word : goal.apply-requires-clause-word
apply-requires-clause-word c =
    let accepted : IsAcceptedTail c.args.self.now = rw c.self.view_is at c.self.invariant in
    rw (c.requires.one_k, c.write_cells.ensures) (IsWord-run (cell-below accepted.short.tail) _ _)

pub returns-clause-cell : goal.returns-clause-cell
returns-clause-cell c = search rules
