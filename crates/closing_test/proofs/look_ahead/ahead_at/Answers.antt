use Rattle.std.proofs.Common.{◌≡◌, arith}
use Rattle.closing_test.proofs.LookAheads.{IsLeastFor-next, IsLeastFor-same, ord_max-le}
use Rattle.closing_test.proofs.look_ahead.ahead_at.Goals as goal

pub loop-letter-preserved : goal.loop-letter-preserved
loop-letter-preserved c = record {
  least = IsLeastFor-next c.args.side c.k-letter-end.ensures.rule c.loop-letter.invariant.least c.in_ok-ahead_with.ensures.least c.max-ahead.ensures;
  most = ord_max-le 121 c.max-ahead.ensures c.loop-letter.invariant.most c.in_ok-ahead_with.ensures.most;
}

pub returns-clause-least : goal.returns-clause-least
returns-clause-least c =
    let all : c.loop-letter.letter ≡ c.args.rule.now.states = omega (arith, c.loop-letter.auto.letter-end, c.loop-letter-test.false, c.k-letter-end.ensures.states) in
    IsLeastFor-same (λ p. (λ (a, l, here). (a, here), λ (a, here). (a, here.0.letter, here))) (rw all at c.loop-letter.invariant.least)
