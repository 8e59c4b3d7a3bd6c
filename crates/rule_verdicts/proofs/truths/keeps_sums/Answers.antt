use Rattle.std.proofs.Common.{length, sym, ap, ◌∙◌, arith}
use Rattle.word_image.proofs.Common.{false≢true}
use Rattle.ring_laws.proofs.SameWeights.{IsConserving-own}
use Rattle.rule_verdicts.proofs.laws.Means.{some_letters, no}
use Rattle.rule_verdicts.proofs.truths.keeps_sums.Goals as goal

pub keeps_ends-requires : goal.keeps_ends-requires
keeps_ends-requires c = let e = ap length c.table-table.ensures.table in omega (arith, e, some_letters c.k-k.ensures.rule)

pub returns-then-not-has_mean-clause-sums : goal.returns-then-not-has_mean-clause-sums
returns-then-not-has_mean-clause-sums c =
    let has = c.has_mean.ensures.conserving c.args.rule.now c.k-k.ensures.rule (sym c.k-k.ensures.states) (sym c.table-table.ensures.table) in
    no (λ keep. false≢true (sym c.if-not-has_mean.true ∙ has ((IsConserving-own c.k-k.ensures.rule).0 keep)))

pub returns-then-not-keeps_ends-clause-sums : goal.returns-then-not-keeps_ends-clause-sums
returns-then-not-keeps_ends-clause-sums c =
    let keeps = c.keeps_ends.ensures.conserving c.args.rule.now c.k-k.ensures.rule (sym c.k-k.ensures.states) (sym c.table-table.ensures.table) in
    no (λ keep. false≢true (sym c.if-not-keeps_ends.true ∙ keeps ((IsConserving-own c.k-k.ensures.rule).0 keep)))

pub returns-clause-sums : goal.returns-clause-sums
returns-clause-sums c = rw (c.own.ensures.weights, c.k-k.ensures.states) at c.is_conserving.ensures
