use Rattle.std.proofs.Common.{sym, subst, arith}
use Rattle.word_image.specs.LocalRules.{IsWord}
use Rattle.word_image.proofs.laws.RuleFaults.{IsWord-position}
use Rattle.word_image.proofs.rings.ring_image.Goals as goal

pub new_letters-requires-clause-ring : goal.new_letters-requires-clause-ring
new_letters-requires-clause-ring c = record {
  word = subst (λ k. IsWord k c.args.ring.now) c.k.ensures.states (IsWord-position c.k.result c.args.ring.now (sym c.in_default.ensures.place));
  some = grind arith;
}
