use Rattle.pair_rank.proofs.ranks.Ranks.from_pairs.Goals as goal

pub invariant_of-result-2 : goal.invariant_of-result-2
invariant_of-result-2 c = rw c.rule.ensures (c.exact_ranks-begins.ensures.rule, c.exact_ranks-begins.ensures.ranks, c.exact_ranks-ends.ensures.ranks)
