use Rattle.std.proofs.Common.{◌≡◌, ℕ, ◌-◌, ◌^◌, ◌≤◌, refl, ap₂, subst₂, ◌∙◌, arith}
use Rattle.word_image.proofs.Common.{pow-le-pow_right}
use Rattle.kept_sums.proofs.laws.Zeros.{entry-zeros}
use Rattle.kept_sums.proofs.laws.Starts.{AreUnits, IsStage-start}
use Rattle.kept_sums.proofs.kept.start.Goals as goal

pub loop-place-init : goal.loop-place-init
loop-place-init c = (refl, λ i l h. absurd (omega arith), λ i l a. entry-zeros 16 i a, λ i l a. entry-zeros 16 i a)

pub returns : goal.returns
returns c =
    let r = c.args.rule.now in
    let k = r.states in
    let range = c.args.range in
    let first : c.pow-first.result ≡ k ^ (range - 1) = c.pow-first.ensures ∙ ap₂ (λ (i j : ℕ). i ^ (j - 1)) c.k-k.ensures.states c.from.ensures in
    let size : c.pow-size.result ≡ k ^ range = c.pow-size.ensures ∙ ap₂ (λ (i j : ℕ). i ^ j) c.k-k.ensures.states c.from-2.ensures in
    let less : k ^ (range - 1) ≤ k ^ range = pow-le-pow_right (omega arith) {i = range - 1} {j = range} (omega arith) in
    let place : c.loop-place.place ≡ k ^ range = omega arith in
    let (long, units, before, after) = c.loop-place.invariant in
    let all = subst₂ (λ (m n : ℕ). AreUnits m n c.loop-place.rows) first place (record { units = units; before = before; after = after }) in
    record { stage = IsStage-start r range c.loop-place.rows c.k-k.ensures.rule c.requires.some c.requires.few all }
