use Rattle.std.proofs.Common.{arith}
use Rattle.word_image.proofs.laws.WindowParts.{node_letter-digit, power-below}
use Rattle.word_image.proofs.local_rule.Rule.node_letter.Goals as goal

pub pow-requires : goal.pow-requires
pow-requires c = rw c.k.ensures.states (omega (arith, power-below c.k.ensures.rule c.from.result (omega arith)))

pub nonzero_div-result : goal.nonzero_div-result
nonzero_div-result c = rw (c.pow.ensures, c.k.ensures.states) (power-below c.k.ensures.rule c.from.result (omega arith)).0

pub returns : goal.returns
returns c = record {
  letter = grind (arith, node_letter-digit);
}
