use Rattle.std.proofs.Common.{◌≡◌, ◌^◌, refl, arith}
use Rattle.word_image.proofs.Common.{PairGoes, IsFirstOf}
use Rattle.closing_test.specs.LeastAheads.{IsLeastFor}
use Rattle.closing_test.proofs.LookAheads.{IsLeastFor-next, IsLeastFor-windows, ord_max-le, IsLeastRightAhead-first}
use Rattle.pair_laws.proofs.Common.{no_ahead}
use Rattle.tail_laws.proofs.Common.{not_closing, closing_ahead}
use Rattle.closing_test.proofs.look_ahead.least_ahead.Goals as goal

pub loop-window-preserved : goal.loop-window-preserved
loop-window-preserved c = record {
  least = IsLeastFor-next c.args.side c.size-window-end.ensures.rule c.loop-window.invariant.least c.in_ok-ahead_at.ensures.least c.max-ahead.ensures;
  most = ord_max-le 121 c.max-ahead.ensures c.loop-window.invariant.most c.in_ok-ahead_at.ensures.most;
}

pub returns-in_err-ahead_at-clause-closing : goal.returns-in_err-ahead_at-clause-closing
returns-in_err-ahead_at-clause-closing c =
    rw c.from_residual.ensures (λ some. absurd cc, λ closing. absurd (not_closing c.args.side c.size-window-end.ensures.rule c.in_err-ahead_at.ensures.least closing))

pub returns-in_err-ahead_at-clause-none : goal.returns-in_err-ahead_at-clause-none
returns-in_err-ahead_at-clause-none c = rw c.from_residual.ensures (no_ahead c.args.side c.size-window-end.ensures.rule c.in_err-ahead_at.ensures.least)

all_windows : (c : goal.After-loop-window)
    → IsLeastFor (IsFirstOf c.args.side c.args.rule.now) (PairGoes c.args.side c.args.rule.now) c.loop-window.ahead
all_windows c =
    let all : c.loop-window.window ≡ c.args.rule.now.states ^ c.args.rule.now.width = omega (arith, c.loop-window.auto.window-end, c.loop-window-test.false, c.size-window-end.ensures.size) in
    IsLeastFor-windows c.args.side c.loop-window.ahead c.size-window-end.ensures.rule
    (rw all at c.loop-window.invariant.least)

pub returns-clause-least : goal.returns-clause-least
returns-clause-least c = IsLeastRightAhead-first c.args.side c.size-window-end.ensures.rule (all_windows c)

pub returns-clause-closing : goal.returns-clause-closing
returns-clause-closing c = (λ some. (closing_ahead c.args.side c.size-window-end.ensures.rule).1 (c.loop-window.ahead, (returns-clause-least c).ahead), λ closing. refl)
