use Rattle.std.proofs.Common.{◌≡◌, ℕ, ◌≤◌, List, Option, length, arith}
use Rattle.search_laws.proofs.Common.{PairWalk, IsLeastWalkTo}
use Rattle.closing_test.proofs.LeastWalks.{length-reach, IsNoneBefore-long}
use Rattle.closing_test.proofs.walks.Walks.period.Goals as goal

-- walks of fewer steps don't lead to the state
no_shorter : {follow : ℕ → ℕ → ℕ → Option ℕ} {k s t n : ℕ} → (w : List (ℕ × ℕ)) × IsLeastWalkTo follow k s t w × (length w ≡ n) → (v : List (ℕ × ℕ))
    → PairWalk follow k s v t → n ≤ length v
no_shorter (w, first, long) v walk = omega (arith, length-reach first walk, long)

pub returns-in_err-steps-clause-least : goal.returns-in_err-steps-clause-least
returns-in_err-steps-clause-least c =
    let none = rw c.requires.middles at c.in_err-steps.ensures.all in
    rw c.from_residual.ensures (λ w v at before. none (omega arith) w at.reach)

pub returns-then-most-eq0-clause-least : goal.returns-then-most-eq0-clause-least
returns-then-most-eq0-clause-least c =
    let none = c.if-most-eq0.true in
    IsNoneBefore-long c.args.best.now c.most_steps-most.ensures (no_shorter (rw c.requires.middles at c.in_ok-steps.ensures.steps))
    (λ v some few. absurd (omega (arith, none, some, few))) (λ large. absurd (omega (arith, none, large)))

pub returns-in_err-period-clause-least : goal.returns-in_err-period-clause-least
returns-in_err-period-clause-least c =
    let count = c.count-count.ensures.count in
    rw c.from_residual-in_err-period.ensures
    (IsNoneBefore-long c.args.best.now c.most_steps-most.ensures (no_shorter (rw c.requires.middles at c.in_ok-steps.ensures.steps))
    (rw count at c.in_err-period.ensures.none) (rw count at c.in_err-period.ensures.all))

pub returns-clause-least : goal.returns-clause-least
returns-clause-least c = rw c.count-count.ensures.count at c.in_ok-period.ensures.least
