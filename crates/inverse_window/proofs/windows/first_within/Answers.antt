use Rattle.std.proofs.Common.{◌≡◌, ◌+◌, ◌-◌, arith}
use Rattle.inverse_window.proofs.FirstSearches.{IsSearched, IsSearched-next, IsFirstWindowOf-searched}
use Rattle.inverse_window.proofs.windows.first_within.Goals as goal
use Rattle.inverse_window.proofs.windows.first_within.Goals.{After-earlier-first}

pub starts_by_rank-starts-requires-clause-past : goal.starts_by_rank-starts-requires-clause-past
starts_by_rank-starts-requires-clause-past c = rw c.requires.of_rule at c.past_ranks-past.ensures.past

-- one number of letters more has been looked at
searched : (c : After-earlier-first) → IsSearched c.args.rule.now c.past_ranks-past.result c.loop-c.c c.later-start.result c.earlier-first.result
searched c =
    let window = c.window_within.ensures.window in
    IsSearched-next c.starts_by_rank-starts.ensures.rule c.past_ranks-past.result c.loop-c.c c.starts_by_rank-starts.result c.loop-c.start c.later-start.result c.loop-c.first c.earlier-first.result c.loop-c.auto.c
    c.starts_by_rank-starts.ensures.starts (rw c.from.ensures at c.later-start.ensures.later) (rw window at c.window_within.ensures.most) (rw window at c.earlier-first.ensures) c.loop-c.invariant

pub loop-c-preserved : goal.loop-c-preserved
loop-c-preserved c =
    let rest : c.loop-c.c - 1 + 1 ≡ c.loop-c.c = omega arith in
    rw rest (searched (goal.at.loop-c-preserved c).After-earlier-first)

pub returns-2-clause-first : goal.returns-2-clause-first
returns-2-clause-first c =
    let none : c.loop-c.c ≡ 0 = omega arith in
    IsFirstWindowOf-searched c.starts_by_rank-starts.ensures.rule c.past_ranks-past.result (rw c.requires.of_rule at c.past_ranks-past.ensures.past) c.earlier-first.result
    (rw none at (searched (goal.at.returns-2-clause-first c).After-earlier-first).first)
