use Rattle.pair_laws.proofs.Common.{end_pair, IsFirst-ends}
use Rattle.closing_test.proofs.LookAheads.{IsLeastFor-rank, end_pair-goes}
use Rattle.closing_test.proofs.look_ahead.ahead_with.Goals as goal

pub returns-in_err-rank-clause-least : goal.returns-in_err-rank-clause-least
returns-in_err-rank-clause-least c =
    let found = c.in-Some.ensures.found in
    let endless = rw c.requires.ranks at c.in_err-rank.ensures.rank in
    rw c.from_residual.ensures (
      end_pair c.args.side c.args.rule.now c.args.window c.args.letter,
      IsFirst-ends c.args.side c.first_nodes.ensures.rule c.args.window c.args.letter found.first,
      λ n. (end_pair-goes c.args.side c.args.rule.now c.args.window c.args.letter c.in-Some.u c.in-Some.v n found.ends).1 (endless n),
    )

pub returns-clause-least : goal.returns-clause-least
returns-clause-least c =
    IsLeastFor-rank c.args.side c.args.rule.now c.args.window c.args.letter c.in-Some.u c.in-Some.v c.in_ok-rank.rank c.in-Some.ensures.found (rw c.requires.ranks at c.in_ok-rank.ensures.rank)
