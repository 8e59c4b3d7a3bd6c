use Rattle.std.proofs.Common.{◌^◌, refl, sym, ◌∙◌, ap, arith, below_more}
use Rattle.word_image.proofs.Common.{false≢true, LocalRule}
use Rattle.closing_test.specs.EndlessFirsts.{IsEndlessAt}
use Rattle.closing_test.proofs.EndlessFirsts.{closing_windows}
use Rattle.closing_test.proofs.closes.closes.Goals as goal

pub loop-window-preserved : goal.loop-window-preserved
loop-window-preserved c = below_more (λ w. ¬ IsEndlessAt c.args.side c.args.endless.now w) c.loop-window.window c.loop-window.invariant
    (λ at. false≢true (sym c.if-is_endless_at.false ∙ c.is_endless_at.ensures.1 at))

pub returns-then-is_endless_at : goal.returns-then-is_endless_at
returns-then-is_endless_at c =
    let (a, letter, with) = c.is_endless_at.ensures.0 c.if-is_endless_at.true in
    (λ t. absurd cc, λ closing. absurd ((closing_windows c.args.side c.rule.ensures.rule).0 closing c.loop-window.window a with))

pub returns : goal.returns
returns c =
    let size = ap (λ (r : LocalRule). r.states ^ r.width) c.rule.ensures.value in
    (λ t. (closing_windows c.args.side c.rule.ensures.rule).1 (λ w a with. c.loop-window.invariant w (omega (arith, with.first.window)) (a, with.first.letter, with)), λ closing. refl)
