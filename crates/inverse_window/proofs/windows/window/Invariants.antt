use Rattle.std.proofs.Common.{◌≤◌, IfSome}
use Rattle.inverse_window.specs.FirstWindows.{IsFirstWindowOf}
use Rattle.inverse_window.proofs.LeastWindows.{IsBefore}
use Rattle.inverse_window.proofs.windows.window.Given as goal

abbrev pub invariant-loop-place : goal.invariant-loop-place
invariant-loop-place l = IsFirstWindowOf l.rule (IsBefore l.place) l.first × IfSome l.first (λ w. w.n ≤ 240)
