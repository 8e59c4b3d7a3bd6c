use Rattle.std.proofs.Common.{◌≡◌, ◌-◌, sym, ◌∙◌, arith}
use Rattle.word_image.proofs.Common.{false≢true}
use Rattle.tail_laws.proofs.Common.{IsInjective-window}
use Rattle.garden_laws.proofs.Preinjective.{IsSurjective-injective}
use Rattle.inverse_window.proofs.FirstSearches.{earlier-most}
use Rattle.inverse_window.proofs.LeastWindows.{IsFirstWindowOf-next, IsLeastDetermined-first, IsInjective-least}
use Rattle.inverse_window.proofs.windows.window.Goals as goal

-- a rule that isn't injective has no determined window
pub returns-then-not-is_injective-clause-least : goal.returns-then-not-is_injective-clause-least
returns-then-not-is_injective-clause-least c n place determined =
    let told = rw (c.endless.ensures, c.requires.of_rule) at c.is_injective.ensures in
    false≢true (sym c.if-not-is_injective.true ∙ told.injective.1 ((IsInjective-window told.rule).1 (n, place, determined)))

pub loop-place-preserved : goal.loop-place-preserved
loop-place-preserved c = (
  IsFirstWindowOf-next c.args.rule.now c.loop-place.place c.start_past-start.result c.loop-place.first c.earlier-first.result c.start_past-start.ensures.start
      (rw c.window_past.ensures.window at c.earlier-first.ensures) c.loop-place.invariant.0,
  earlier-most c.loop-place.first c.window_past.result c.earlier-first.result c.earlier-first.ensures c.loop-place.invariant.1 c.window_past.ensures.most,
)

pub returns-clause-least : goal.returns-clause-least
returns-clause-least c =
    let all : c.loop-place.place ≡ c.args.rule.now.width - 1 = omega arith in
    IsLeastDetermined-first c.m-place-end.ensures.rule c.loop-place.first (rw all at c.loop-place.invariant.0)

pub returns-clause-injective : goal.returns-clause-injective
returns-clause-injective c = IsInjective-least c.m-place-end.ensures.rule c.loop-place.first (returns-clause-least c)

pub returns-clause-surjective : goal.returns-clause-surjective
returns-clause-surjective c = λ some. IsSurjective-injective c.m-place-end.ensures.rule ((returns-clause-injective c).0 some)
