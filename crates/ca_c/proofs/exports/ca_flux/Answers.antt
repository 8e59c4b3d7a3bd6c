use Rattle.std.proofs.Common.{ℕ, ◌^◌, List, ℤ, subst, subst₂, sym, ◌∙◌}
use Rattle.word_image.proofs.Common.{false≢true, LocalRule}
use Rattle.kept_sums.specs.Sums.{IsKept}
use Rattle.kept_sums.specs.Rows.{at, IsSmall}
use Rattle.kept_sums.specs.Fluxes.{IsFluxList}
use Rattle.c_structs.specs.RuleSums.{IsFluxCall}
use Rattle.ca_c.specs.Weights.{first_weights}
use Rattle.ca_c.proofs.exports.ca_flux.Goals as goal

pub returns-in-Err : goal.returns-in-Err
returns-in-Err c =
    let P : ℕ → Type 0 = λ n. IsFluxCall c.args.states c.args.width c.args.table.now c.args.range (first_weights (c.args.states ^ c.args.range) c.args.weights.now) c.args.numbers.now n c.args.numbers.now in
    subst P (sym c.fault_number.ensures) (IsFluxCall.NoRule c.in-Err.fault (sym c.in-Err.ensures.fault))

pub returns-in-Err-check_range : goal.returns-in-Err-check_range
returns-in-Err-check_range c =
    let P : ℕ → Type 0 = λ n. IsFluxCall c.args.states c.args.width c.args.table.now c.args.range (first_weights (c.args.states ^ c.args.range) c.args.weights.now) c.args.numbers.now n c.args.numbers.now in
    subst P (sym c.range_number.ensures) (IsFluxCall.NoRange c.in-Err-check_range.fault (sym c.in-Ok.ensures.fault) (sym c.in-Err-check_range.ensures))

pub returns-then-not-are_small : goal.returns-then-not-are_small
returns-then-not-are_small c =
    IsFluxCall.Great (sym c.in-Ok.ensures.fault) (sym c.in_default.ensures)
    (λ small. false≢true (sym c.if-not-are_small.true ∙ c.are_small.ensures.1 (subst IsSmall (sym c.first_weights-weights.ensures) small)))

pub returns-in-Some : goal.returns-in-Some
returns-in-Some c =
    IsFluxCall.Found c.in-Some.found (sym c.in-Ok.ensures.fault) (sym c.in_default.ensures)
    (subst IsSmall c.first_weights-weights.ensures (c.are_small.ensures.0 c.if-not-are_small.false))
    (subst₂ (λ (w : List ℤ) (r : LocalRule). IsFluxList c.args.range (at w) r c.in-Some.found) c.first_weights-weights.ensures c.in-Ok.ensures.rule c.in-Some.ensures.flux)

pub returns-in-None : goal.returns-in-None
returns-in-None c =
    let lost = subst₂ (λ (w : List ℤ) (r : LocalRule). ¬ IsKept c.args.range (at w) r) c.first_weights-weights.ensures c.in-Ok.ensures.rule (λ kept. false≢true (c.in-None.ensures.kept.1 kept)) in
    IsFluxCall.Lost (sym c.in-Ok.ensures.fault) (sym c.in_default.ensures) (subst IsSmall c.first_weights-weights.ensures (c.are_small.ensures.0 c.if-not-are_small.false)) lost
