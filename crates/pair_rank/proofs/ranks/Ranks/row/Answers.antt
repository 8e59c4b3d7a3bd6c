use Rattle.std.proofs.Common.{◌≡◌, [], ◌∷◌, ◌++◌, get_or, None, ap, ◌∙◌, arith, below_more}
use Rattle.word_image.proofs.Common.{get_or_append_left, get_or_push, length_push, pair_count}
use Rattle.pair_rank.specs.Sides.{IsRankOf}
use Rattle.pair_rank.proofs.ranks.Ranks.row.Goals as goal

pub loop-pair-preserved : goal.loop-pair-preserved
loop-pair-preserved c =
    let row = c.loop-pair.row.items in
    let rank = c.rank_of.result in
    let (long, each) = c.loop-pair.invariant in
    rw c.in_ok-push.ensures.items (
      omega (arith, length_push row rank, long),
      below_more (λ p. IsRankOf c.args.side c.args.self.now p (get_or (row ++ rank ∷ []) p None)) c.loop-pair.pair
          (λ p less. rw (get_or_append_left row (rank ∷ []) None p (omega arith)) (each p less)) (rw (get_or_push row rank None c.loop-pair.pair long) c.rank_of.ensures),
    )

pub returns-clause-each_pair : goal.returns-clause-each_pair
returns-clause-each_pair c =
    let all : c.loop-pair.pair ≡ pair_count c.args.self.now = omega (arith, c.pairs-pair-end.ensures.count, ap pair_count c.rule.ensures.value) in
    rw c.of.ensures (c.loop-pair.invariant.0 ∙ all)

pub returns-clause-ranks : goal.returns-clause-ranks
returns-clause-ranks c p below = rw c.of.ensures (c.loop-pair.invariant.1 p (omega (arith, c.pairs-pair-end.ensures.count, ap pair_count c.rule.ensures.value, below)))
