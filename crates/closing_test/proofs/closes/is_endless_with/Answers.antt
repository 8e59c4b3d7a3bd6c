use Rattle.std.proofs.Common.{arith}
use Rattle.closing_test.proofs.EndlessFirsts.{IsEndlessWith-bit}
use Rattle.closing_test.proofs.closes.is_endless_with.Goals as goal

pub returns : goal.returns
returns c =
    let found = rw c.rule.ensures.value at c.in-Some.ensures.found in
    IsEndlessWith-bit c.args.side c.args.endless.now c.args.window c.args.letter c.in-Some.u c.in-Some.v c.endless_nodes.result found
    (c.endless_nodes.ensures c.in-Some.v (omega (arith, found.ends.node)))
