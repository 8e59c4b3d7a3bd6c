use Rattle.serde_json.specs.View.{view}
use Rattle.cert_values.specs.declared.shape_fault.Key.TheVariants as key
use Rattle.cert_format.specs.Readings.{members_in}
use Rattle.cert_values.specs.CertificateTexts.{HasRanks}
use Rattle.std.proofs.Common.{ℕ, List, Option, sym}
use Rattle.cert_format.proofs.laws.Steps.{IsStepFault-at, no_ranks}
use Rattle.cert_format.proofs.steps.ranks_step.Goals as goal

pub returns-in-Err-clause-fault : goal.returns-in-Err-clause-fault
returns-in-Err-clause-fault c =
    let r = c.args.rule.now in
    let ms = members_in (view c.args.value.now) in
    IsStepFault-at c.in-Err.fault key.Ranks c.fault_at-in-Err.result ((forward backward : List (Option ℕ)) × HasRanks r ms forward backward) c.fault_at-in-Err.ensures.shape c.fault_at-in-Err.ensures.memory
    (λ shape. no_ranks r ms (view c.in-Some.rows.now) (sym c.in-Some.ensures) (c.in-Err.ensures.none shape))
