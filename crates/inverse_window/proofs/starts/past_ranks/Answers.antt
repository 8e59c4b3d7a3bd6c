use Rattle.std.proofs.Common.{◌≡◌, ap, arith}
use Rattle.word_image.proofs.Common.{node_count}
use Rattle.inverse_window.proofs.PastRanks.{IsPast-next}
use Rattle.inverse_window.proofs.starts.past_ranks.Goals as goal

pub loop-u-preserved : goal.loop-u-preserved
loop-u-preserved c = record {
  past = IsPast-next c.loop-u.u c.loop-u.past c.past_ranks_of-past.result c.loop-u.invariant.past c.past_ranks_of-past.ensures.past c.past_ranks_of-past.ensures.least;
  most = c.past_ranks_of-past.ensures.most;
}

pub returns-clause-past : goal.returns-clause-past
returns-clause-past c =
    let all : c.loop-u.u ≡ node_count c.args.ranks.now = omega (arith, ap node_count c.rule.ensures.value) in
    rw all at c.loop-u.invariant.past
