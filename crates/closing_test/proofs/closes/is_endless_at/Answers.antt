use Rattle.std.proofs.Common.{sym, ◌∙◌, ap, arith, below_more}
use Rattle.word_image.proofs.Common.{false≢true, LocalRule}
use Rattle.closing_test.specs.EndlessFirsts.{IsEndlessWith}
use Rattle.closing_test.proofs.closes.is_endless_at.Goals as goal

pub loop-letter-preserved : goal.loop-letter-preserved
loop-letter-preserved c = below_more (λ a. ¬ IsEndlessWith c.args.side c.args.endless.now c.args.window a) c.loop-letter.letter c.loop-letter.invariant
    (λ with. false≢true (sym c.if-is_endless_with.false ∙ c.is_endless_with.ensures.1 with))

pub returns : goal.returns
returns c =
    let states = ap (λ (r : LocalRule). r.states) c.rule.ensures.value in
    (λ t. absurd cc, λ (a, letter, with). absurd (c.loop-letter.invariant a (omega (arith, letter)) with))
