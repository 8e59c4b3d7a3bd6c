use Rattle.std.proofs.Common.{◌≡◌, ◌∙◌, sym, true}
use Rattle.serde_json.specs.View.{view}
use Rattle.cert_format.proofs.laws.Steps.{IsCertFault-json, IsCertFault-top}
use Rattle.cert_format.proofs.reading.read_object.Goals as goal

pub returns-in-Err-2-clause-fault : goal.returns-in-Err-2-clause-fault
returns-in-Err-2-clause-fault c =
    IsCertFault-json c.args.bytes.now (c.in-Err.ensures.err (λ memory. absurd (let full : c.is_memory.result ≡ true = c.is_memory.ensures.1 memory in cc)))

pub returns-then-not-is_object-clause-fault : goal.returns-then-not-is_object-clause-fault
returns-then-not-is_object-clause-fault c =
    IsCertFault-top c.args.bytes.now (view c.in-Ok.value) c.in-Ok.ensures.ok.0 c.in-Ok.ensures.ok.1 (sym c.is_object.ensures ∙ c.if-not-is_object.true)
