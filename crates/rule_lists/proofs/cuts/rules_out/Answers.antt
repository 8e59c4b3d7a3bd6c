use Rattle.std.proofs.Common.{sym, subst}
use Rattle.rule_lists.specs.RuledOut.{RulesOut}
use Rattle.rule_lists.proofs.cuts.rules_out.Goals as goal

pub returns-in-Conserving : goal.returns-in-Conserving
returns-in-Conserving c told = subst (λ p. RulesOut p c.args.shape.now.states c.args.shape.now.width c.args.letters.now) (sym c.in-Conserving.is) (c.rules_out_conserving.ensures told)
