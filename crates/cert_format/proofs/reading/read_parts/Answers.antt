use Rattle.std.proofs.Common.{◌≡◌, ◌∙◌, refl, sym, true, true≢false, inr, rules}
use Rattle.serde_json.specs.View.{view}
use Rattle.word_image.proofs.Common.{handed_on}
use Rattle.cert_values.specs.declared.shape_fault.Key.TheVariants as key
use Rattle.cert_values.specs.Parts.{IsWeightShape}
use Rattle.cert_values.specs.CertificateTexts.{HasNoOther}
use Rattle.cert_format.specs.Readings.{members_in}
use Rattle.cert_values.proofs.laws.WeightMembers.{IsWeightShape-has}
use Rattle.cert_format.proofs.laws.Steps.{IsPartFault-step}
use Rattle.cert_format.proofs.reading.read_parts.Goals as goal

-- the first step that fails, where those before it pass

pub returns-in_err-surjective-clause-fault : goal.returns-in_err-surjective-clause-fault
returns-in_err-surjective-clause-fault c =
    handed_on _ c.from_residual.result c.from_residual.ensures.1 (IsPartFault-step c.args.version c.args.rule (members_in (view c.args.value.now)) 0 key.Surjective _ refl tt c.in_err-surjective.ensures.fault)

pub returns-in_err-injective-clause-fault : goal.returns-in_err-injective-clause-fault
returns-in_err-injective-clause-fault c =
    handed_on _ c.from_residual-in_err-injective.result c.from_residual-in_err-injective.ensures.1 (IsPartFault-step c.args.version c.args.rule (members_in (view c.args.value.now)) 1 key.Injective _ refl
    ((_, c.in_ok-surjective.ensures.part), tt) c.in_err-injective.ensures.fault)

pub returns-in_err-right-clause-fault : goal.returns-in_err-right-clause-fault
returns-in_err-right-clause-fault c =
    handed_on _ c.from_residual-in_err-right.result c.from_residual-in_err-right.ensures.1 (IsPartFault-step c.args.version c.args.rule (members_in (view c.args.value.now)) 2 key.Right _ refl
    ((_, c.in_ok-surjective.ensures.part), ((_, c.in_ok-injective.ensures.part), tt)) c.in_err-right.ensures.fault)

pub returns-in_err-left-clause-fault : goal.returns-in_err-left-clause-fault
returns-in_err-left-clause-fault c =
    handed_on _ c.from_residual-in_err-left.result c.from_residual-in_err-left.ensures.1 (IsPartFault-step c.args.version c.args.rule (members_in (view c.args.value.now)) 3 key.Left _ refl
    ((_, c.in_ok-surjective.ensures.part), ((_, c.in_ok-injective.ensures.part), ((_, c.in_ok-right.ensures.part), tt))) c.in_err-left.ensures.fault)

pub returns-in_err-conserving-clause-fault : goal.returns-in_err-conserving-clause-fault
returns-in_err-conserving-clause-fault c =
    handed_on _ c.from_residual-in_err-conserving.result c.from_residual-in_err-conserving.ensures.1 (IsPartFault-step c.args.version c.args.rule (members_in (view c.args.value.now)) 4 key.Conserving _ refl
    ((_, c.in_ok-surjective.ensures.part), ((_, c.in_ok-injective.ensures.part), ((_, c.in_ok-right.ensures.part), ((_, c.in_ok-left.ensures.part), tt)))) c.in_err-conserving.ensures.fault)

pub returns-in_err-weights-clause-fault : goal.returns-in_err-weights-clause-fault
returns-in_err-weights-clause-fault c =
    handed_on _ c.from_residual-in_err-weights.result c.from_residual-in_err-weights.ensures.1 (IsPartFault-step c.args.version c.args.rule (members_in (view c.args.value.now)) 5 key.Weights _ refl
    ((_, c.in_ok-surjective.ensures.part), ((_, c.in_ok-injective.ensures.part), ((_, c.in_ok-right.ensures.part), ((_, c.in_ok-left.ensures.part), ((_, c.in_ok-conserving.ensures.part), tt))))) c.in_err-weights.ensures.fault)

pub returns-in_err-forward-clause-fault : goal.returns-in_err-forward-clause-fault
returns-in_err-forward-clause-fault c =
    handed_on _ c.from_residual-in_err-forward.result c.from_residual-in_err-forward.ensures.1 (IsPartFault-step c.args.version c.args.rule (members_in (view c.args.value.now)) 6 key.Ranks _ refl
    ((_, c.in_ok-surjective.ensures.part), ((_, c.in_ok-injective.ensures.part), ((_, c.in_ok-right.ensures.part), ((_, c.in_ok-left.ensures.part), ((_, c.in_ok-conserving.ensures.part), ((_, c.in_ok-weights.ensures.weights), tt)))))) c.in_err-forward.ensures.fault)

pub returns-then-not-has_no_other-clause-fault : goal.returns-then-not-has_no_other-clause-fault
returns-then-not-has_no_other-clause-fault c =
    let ms = members_in (view c.args.value.now) in
    let other : ¬ HasNoOther c.args.version ms = λ no_other. absurd (let none : c.has_no_other.result ≡ true = c.has_no_other.ensures.1 no_other in true≢false (sym none ∙ c.if-not-has_no_other.true)) in
    IsPartFault-step c.args.version c.args.rule ms 7 key.Unknown _ refl
    ((_, c.in_ok-surjective.ensures.part), ((_, c.in_ok-injective.ensures.part), ((_, c.in_ok-right.ensures.part), ((_, c.in_ok-left.ensures.part), ((_, c.in_ok-conserving.ensures.part), ((_, c.in_ok-weights.ensures.weights), ((_, _, c.in_ok-forward.ensures.rows), tt)))))))
    (inr (refl, other))

pub returns-clause-parts : goal.returns-clause-parts
returns-clause-parts c =
    let none : c.has_no_other.result ≡ true = c.if-not-has_no_other.false in
    record {
      surjective = c.in_ok-surjective.ensures.part;
      injective = c.in_ok-injective.ensures.part;
      right = c.in_ok-right.ensures.part;
      left = c.in_ok-left.ensures.part;
      conserving = c.in_ok-conserving.ensures.part;
      weights = c.in_ok-weights.ensures.weights;
      ranks = c.in_ok-forward.ensures.rows;
      no_other = c.has_no_other.ensures.0 none;
    }

pub invariant_of-result : goal.invariant_of-result
invariant_of-result c =
    let weights : IsWeightShape c.args.version c.args.rule c.in_ok-weights.weights = IsWeightShape-has c.requires c.in_ok-weights.ensures.weights in
    search rules
