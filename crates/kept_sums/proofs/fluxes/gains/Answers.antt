use Rattle.std.proofs.Common.{◌≡◌, ℕ, ◌+◌, ◌-◌, ◌^◌, ◌≤◌, get_or-set_other, slice_index_or, ℤ, pos, to_z, of_z, w64, refl, ap, ap₂, ◌∙◌, arith, unsigned_abs, length-set}
use Rattle.word_image.proofs.Common.{ints, set_more, word_of}
use Rattle.kept_sums.specs.Fluxes.{window_gain}
use Rattle.kept_sums.proofs.Casts.{back}
use Rattle.kept_sums.proofs.laws.Zeros.{at-replicate}
use Rattle.kept_sums.proofs.laws.Windows.{windows-most}
use Rattle.kept_sums.proofs.fluxes.gains.Goals.{After-from-letters, After-pow-window-end}
use Rattle.kept_sums.proofs.fluxes.gains.Goals as goal

-- how many windows there are, as it is computed
all_is : (c : After-from-letters) → c.from-k.result ^ c.from-letters.result ≡ c.args.rule.now.states ^ (c.args.rule.now.width + c.args.range - 1)
all_is c = ap₂ (λ (x y : ℕ). x ^ y) (c.from-k.ensures ∙ c.k.ensures.states) (c.from-letters.ensures ∙ ap (λ n. n + c.args.range - 1) c.m.ensures.width)

pub pow-window-end-requires : goal.pow-window-end-requires
pow-window-end-requires c = omega (arith, windows-most c.m.ensures.rule c.args.range (c.args.rule.now.width + c.args.range - 1) (omega (arith, c.m.ensures.rule.shape.least_width)) c.requires.few, all_is c)

pub loop-window-init : goal.loop-window-init
loop-window-init c = record { many = refl; done = λ v l. absurd (omega arith); rest = λ v l. at-replicate 256 v }

-- there are at most 256 windows
few_windows : (c : After-pow-window-end) → c.pow-window-end.result ≤ 256
few_windows c = grind (arith, windows-most)

pub bounds-gains-from : goal.bounds-gains-from
bounds-gains-from c = omega (arith, few_windows (goal.at.bounds-gains-from c).After-pow-window-end)

pub loop-window-preserved : goal.loop-window-preserved
loop-window-preserved c =
    let r = c.args.rule.now in
    let few = few_windows (goal.at.loop-window-preserved c).After-pow-window-end in
    let window = c.loop-window.window in
    let place = c.from.result in
    let gain : ℕ → ℤ = λ v. window_gain r c.args.range (λ a. slice_index_or c.args.weights.now a (pos 0)) (word_of r.states (r.width + c.args.range - 1) v) in
    let P : ℕ → ℤ → Type 0 = λ v z. (z ≡ gain v) × (unsigned_abs z ≤ 2 ^ 57) in
    let x = to_z w64 (of_z w64 c.gain.result) in
    let same : x ≡ c.gain.result = back w64 c.gain.result (2 ^ 57) c.gain.ensures.most (omega arith) in
    record {
      many = length-set c.loop-window.gains place x ∙ c.loop-window.invariant.many;
      done = set_more P c.loop-window.gains window place (pos 0) x (omega arith) c.from.ensures c.loop-window.invariant.done (same ∙ c.gain.ensures.gain, omega (arith, ints, same, c.gain.ensures.most));
      rest = λ v l. get_or-set_other c.loop-window.gains place v x (pos 0) (λ e. omega arith) ∙ c.loop-window.invariant.rest v (omega arith);
    }
