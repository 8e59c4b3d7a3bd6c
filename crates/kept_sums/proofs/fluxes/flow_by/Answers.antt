use Rattle.std.proofs.Common.{◌≡◌, ℕ, ◌+◌, ◌*◌, ◌/◌, ◌^◌, ◌<◌, ◌-ℤ◌, to_z, w64, below_more, sym, ap, ap₂, ◌∙◌, arith}
use Rattle.kept_sums.specs.Rows.{at}
use Rattle.kept_sums.proofs.Casts.{back, back-sub}
use Rattle.kept_sums.proofs.laws.Ranges.{pow-next}
use Rattle.kept_sums.proofs.laws.Trivials.{window_ends}
use Rattle.kept_sums.proofs.laws.Windows.{words-half}
use Rattle.kept_sums.proofs.fluxes.flow_by.Goals as goal

pub loop-window-preserved : goal.loop-window-preserved
loop-window-preserved c =
    let k = c.args.k in
    let n = c.args.letters in
    let v = c.loop-window.window in
    let states = c.requires.states in
    let gains = c.args.gains.now in
    let flux = c.args.flux.now in
    let size : c.pow-words.result ≡ k ^ n = c.pow-words.ensures ∙ ap (λ j. k ^ j) c.from.ensures in
    let within : v < k ^ (n + 1) = omega (arith, pow-next k n, ap (λ j. j * k) size) in
    let ends = window_ends k n v (omega arith) within in
    let half = words-half k n states c.requires.few in
    let first : c.from-in-loop-window.result ≡ v / k = c.from-in-loop-window.ensures in
    let whole : c.from-in-loop-window-3.result ≡ v = c.from-in-loop-window-3.ensures in
    let all = c.requires.gains c.from-in-loop-window-3.result (omega arith) in
    below_more _ _ c.loop-window.invariant
    (ap (at gains) (sym whole)
    ∙ sym (back w64 (at gains c.from-in-loop-window-3.result) (2 ^ 57) all (omega arith))
    ∙ ap (to_z w64) c.if-gains-from.false
    ∙ back-sub (at flux c.from-in-loop-window.result) (at flux c.from-in-loop-window-2.result)
    (omega arith) (omega arith)
    ∙ ap₂ (λ (x y : ℕ). at flux x -ℤ at flux y) first c.from-in-loop-window-2.ensures)
