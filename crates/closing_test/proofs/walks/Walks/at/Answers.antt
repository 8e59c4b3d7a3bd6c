use Rattle.std.proofs.Common.{map, sym, true≢false, ◌∙◌}
use Rattle.search_laws.proofs.Common.{uncode}
use Rattle.tail_laws.proofs.Common.{IsLeastSplitAt, IsLeastSplitAt-walks}
use Rattle.closing_test.proofs.LeastWalks.{IsNoneBefore-least}
use Rattle.closing_test.proofs.walks.Walks.at.Goals as goal
use Rattle.closing_test.proofs.walks.Walks.at.Goals.{After-is_before}

-- the two walks are the least split at the state
found : (c : After-is_before) → IsLeastSplitAt c.args.pairs.now c.args.state (map (uncode 16) c.in_ok-middle.middle) (map (uncode 16) c.of.result)
found c = rw c.of.ensures (IsLeastSplitAt-walks (rw c.requires.middles at c.in_ok-middle.ensures.walk) c.requires.period)

pub returns-then-is_before : goal.returns-then-is_before
returns-then-is_before c = record { least = found (goal.at.returns-then-is_before c).After-is_before; before = c.is_before.ensures.0 c.if-is_before.true }

pub returns-else-is_before : goal.returns-else-is_before
returns-else-is_before c =
    IsNoneBefore-least c.args.best.now (found (goal.at.returns-else-is_before c).After-is_before)
    (λ before. true≢false (sym (c.is_before.ensures.1 before) ∙ c.if-is_before.false))
