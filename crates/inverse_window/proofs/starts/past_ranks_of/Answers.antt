use Rattle.std.proofs.Common.{◌≡◌, ℕ, ap, subst, arith}
use Rattle.word_image.proofs.Common.{IsRule, node_count}
use Rattle.inverse_window.proofs.PastRanks.{past_rank, IsPastOf-next}
use Rattle.inverse_window.proofs.starts.past_ranks_of.Goals as goal
use Rattle.inverse_window.proofs.starts.past_ranks_of.Goals.{in-Some+then-rank-past, in-Some+else-rank-past, in_default}

pub loop-v-preserved : goal.loop-v-preserved
loop-v-preserved c =
    let rule = subst IsRule c.rule.ensures.value c.nodes-v-end.ensures.rule in
    let inv = c.loop-v.invariant in
    let next = IsPastOf-next c.args.u c.loop-v.v c.loop-v.past c.match-backward.past inv.past in
    let past = λ (a n : ℕ). past_rank rule c.args.u c.loop-v.v a n in
    elim c.match-backward.branch [
      | in-Some+then-rank-past w ↦ record {
        past = next (omega arith) (λ n more. past w.in-Some.rank n w.in-Some.ensures.rank (omega arith));
        least = omega arith;
        most = omega (arith, w.in-Some.ensures.most);
      }
      | in-Some+else-rank-past w ↦ record {
        past = next (omega arith) (λ n more. past w.in-Some.rank n w.in-Some.ensures.rank (omega arith));
        least = omega arith;
        most = omega arith;
      }
      | in_default w ↦ record { past = next (omega arith) (λ n more ends. w.in_default.ensures.rank); least = omega arith; most = omega arith }
    ]

pub returns-clause-past : goal.returns-clause-past
returns-clause-past c =
    let all : c.loop-v.v ≡ node_count c.args.ranks.now = omega (arith, ap node_count c.rule.ensures.value) in
    rw all at c.loop-v.invariant.past
