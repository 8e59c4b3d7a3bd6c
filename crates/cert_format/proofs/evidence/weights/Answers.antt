use Rattle.std.proofs.Common.{◌≡◌, ◌≢◌, refl, sym, ap, length, ◌∙◌}
use Rattle.word_image.proofs.Common.{false≢true, handed_on}
use Rattle.serde_json.specs.View.{view}
use Rattle.cert_format.proofs.laws.Evidence.{IsWeightsFor-array, no_weights_array, no_weights_long}
use Rattle.cert_format.proofs.evidence.weights.Goals as goal

pub returns-in_err-numbers-clause-none : goal.returns-in_err-numbers-clause-none
returns-in_err-numbers-clause-none c =
    handed_on _ c.from_residual.result c.from_residual.ensures.1 (λ shape. no_weights_array c.args.rule.now (view c.args.value.now) (c.in_err-numbers.ensures.none shape))

pub returns-clause-none : goal.returns-clause-none
returns-clause-none c shape =
    let r = c.args.rule.now in
    let items = c.in_ok-numbers.numbers.items in
    let other : length items ≢ r.states = λ same. false≢true (c.in-Err.ensures.accepted.1 (ap length c.deref.ensures.value ∙ same ∙ sym c.k.ensures.states)) in
    no_weights_long r (view c.args.value.now) items c.in_ok-numbers.ensures.items other

pub returns-in-Ok-clause-weights : goal.returns-in-Ok-clause-weights
returns-in-Ok-clause-weights c =
    let r = c.args.rule.now in
    let long : length c.in_ok-numbers.numbers.items ≡ r.states = ap length (sym c.deref.ensures.value) ∙ c.in-Ok.ensures.accepted.0 refl ∙ c.k.ensures.states in
    rw (c.in-Ok.ensures.weights, c.deref.ensures.value) (IsWeightsFor-array r (view c.args.value.now) c.in_ok-numbers.numbers.items c.in_ok-numbers.ensures.items long)
