use Rattle.std.proofs.Common.{sym, ◌∙◌, arith, below_more}
use Rattle.word_image.proofs.Common.{false≢true}
use Rattle.moved_configs.specs.Trims.{Goes}
use Rattle.moved_configs.proofs.trims.goes_on.Goals as goal

pub loop-letter-preserved : goal.loop-letter-preserved
loop-letter-preserved c = below_more (λ a. ¬ Goes c.args.side c.args.rule.now c.args.place c.args.nodes c.args.node a) c.loop-letter.letter c.loop-letter.invariant
    (λ goes. false≢true (sym c.if-goes.false ∙ c.goes.ensures.1 goes))

pub returns : goal.returns
returns c = (λ t. absurd cc, λ (a, letter, goes). absurd (c.loop-letter.invariant a (omega (arith, letter)) goes))
