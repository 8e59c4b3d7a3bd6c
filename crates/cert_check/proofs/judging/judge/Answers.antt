use Rattle.std.proofs.Common.{◌≡◌, Ok, Err, inl, inr, sym, ap, ◌∙◌, ⊎_elim}
use Rattle.word_image.proofs.Common.{err_from_is_err_and, handed_on}
use Rattle.cert_conditions.proofs.Common.{AreTrue-accepted}
use Rattle.cert_conditions.specs.Refusals.IsRefusal.{NoShape, Unmet}
use Rattle.cert_conditions.proofs.laws.Breaches.{unmet_fails}
use Rattle.cert_conditions.proofs.laws.OneBreach.{one_unmet}
use Rattle.cert_check.proofs.laws.Judging.{accepted-read, refusal-read, refusal-named}
use Rattle.cert_check.proofs.judging.judge.Goals as goal

pub returns-in_err-check_all-in-Ok-clause-refused : goal.returns-in_err-check_all-in-Ok-clause-refused
returns-in_err-check_all-in-Ok-clause-refused c =
    handed_on _ c.from_residual.result c.from_residual.ensures.1 (inr (Unmet c.in-Ok.cert c.in_err-check_all-in-Ok.field-0.0 c.in-Ok.ensures.cert c.in_err-check_all-in-Ok.ensures))

pub returns-in_err-check_all-in-Ok-clause-every_accepted : goal.returns-in_err-check_all-in-Ok-clause-every_accepted
returns-in_err-check_all-in-Ok-clause-every_accepted c = λ v h.
    absurd (unmet_fails c.in_err-check_all-in-Ok.ensures (accepted-read c.from_bytes.ensures.every_cert c.in-Ok.is h).1)

pub returns-in_err-check_all-in-Ok-clause-every_refusal : goal.returns-in_err-check_all-in-Ok-clause-every_refusal
returns-in_err-check_all-in-Ok-clause-every_refusal c = λ f h.
    let p = err_from_is_err_and c.from_residual.result c.from_residual.ensures.1 in
    rw (p.1, p.2) (inl (ap Err (one_unmet c.in_err-check_all-in-Ok.ensures (refusal-read c.from_bytes.ensures.every_cert c.from_bytes.ensures.every_fault c.in-Ok.is h))))

pub returns-in_ok-check_all-in-Ok-clause-verdicts : goal.returns-in_ok-check_all-in-Ok-clause-verdicts
returns-in_ok-check_all-in-Ok-clause-verdicts c =
    AreTrue-accepted (record { certificate = c.in-Ok.cert; text = c.in-Ok.ensures.cert; meets = c.in_ok-check_all-in-Ok.ensures; verdicts = c.of.ensures })

pub returns-in_ok-check_all-in-Ok-clause-every_accepted : goal.returns-in_ok-check_all-in-Ok-clause-every_accepted
returns-in_ok-check_all-in-Ok-clause-every_accepted c = λ v h.
    let same : c.of.result ≡ v = c.of.ensures ∙ sym (accepted-read c.from_bytes.ensures.every_cert c.in-Ok.is h).0 in
    inl (ap Ok same)

pub returns-in_ok-check_all-in-Ok-clause-every_refusal : goal.returns-in_ok-check_all-in-Ok-clause-every_refusal
returns-in_ok-check_all-in-Ok-clause-every_refusal c = λ f h.
    absurd (unmet_fails (refusal-read c.from_bytes.ensures.every_cert c.from_bytes.ensures.every_fault c.in-Ok.is h) c.in_ok-check_all-in-Ok.ensures)

pub returns-in-Err-Format-clause-refused : goal.returns-in-Err-Format-clause-refused
returns-in-Err-Format-clause-refused c =
    ⊎_elim
    (λ memory. absurd (cc))
    (λ (s, same, fault). let named : s ≡ c.in-Err-Format.fault = cc in inr (rw (← named) (NoShape s fault)))
    c.in-Err-Format.ensures.fault

pub returns-in-Err-Format-clause-every_accepted : goal.returns-in-Err-Format-clause-every_accepted
returns-in-Err-Format-clause-every_accepted c = λ v h.
    ⊎_elim (λ same. absurd (cc)) (λ none. absurd (cc)) (c.from_bytes.ensures.every_cert h.certificate h.text)

pub returns-in-Err-Format-clause-every_refusal : goal.returns-in-Err-Format-clause-every_refusal
returns-in-Err-Format-clause-every_refusal c = λ f h.
    inl (ap Err (refusal-named {s = c.in-Err-Format.fault} c.from_bytes.ensures.every_cert c.from_bytes.ensures.every_fault (cc) h))
