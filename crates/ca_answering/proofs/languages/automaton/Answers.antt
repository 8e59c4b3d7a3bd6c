use Rattle.std.proofs.Common.{◌≤◌, arith, mul-le-mul}
use Rattle.ca_answering.proofs.languages.automaton.Goals as goal

pub write_rows-requires : goal.write_rows-requires
write_rows-requires c a least =
    let classes : a.classes ≤ 65536 = omega (arith, c.len-classes.ensures.len a least, c.len-classes.ensures.most) in
    let states : a.states ≤ 16 = omega (arith, least.states, c.k-states.ensures.rule.shape.most_states) in
    omega (arith, mul-le-mul classes states, c.numbers.invariant)
