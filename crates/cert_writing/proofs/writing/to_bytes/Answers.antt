use Rattle.std.proofs.Common.{◌∙◌, ap, Result, Ok, Err, arith, Some, IfOk}
use Rattle.word_image.proofs.Common.{IfOk-weaker}
use Rattle.serde_json.specs.View.{view}
use Rattle.serde_json.specs.Written.{compact_text}
use Rattle.cert_writing.proofs.laws.PlainValues.{IsPlain, IsPlain-certificate}
use Rattle.cert_values.proofs.laws.Written.{IsCertificateText-written}
use Rattle.cert_writing.proofs.writing.to_bytes.Goals as goal

-- two facts of the value there is give a third
both_ok : {T E : Type 0} {P Q R : T → Type 0} (r : Result T E) → ((x : T) → P x → Q x → R x) → IfOk r P → IfOk r Q → IfOk r R
both_ok (Ok x) gives p q = gives x p q
both_ok (Err e) gives p q = tt

pub returns-clause-text : goal.returns-clause-text
returns-clause-text c =
    let value = c.in_ok-certificate_value.ensures.value in
    let plain : IsPlain 3 (view c.in_ok-certificate_value.field-0) = rw value (IsPlain-certificate c.args.cert.now) in
    IfOk-weaker c.to_vec.result _ _ (λ text h. h plain.no_float ∙ ap compact_text value) c.to_vec.ensures.text

pub returns-clause-read_back : goal.returns-clause-read_back
returns-clause-read_back c =
    let cert = c.args.cert.now in
    let value = c.in_ok-certificate_value.ensures.value in
    let plain : IsPlain 3 (view c.in_ok-certificate_value.field-0) = rw value (IsPlain-certificate cert) in
    both_ok c.to_vec.result (λ text utf8 reads. IsCertificateText-written {c = cert} (utf8, reads (omega (arith, plain.depth)) ∙ ap Some value) c.in_ok-certificate_value.ensures.shaped)
    c.to_vec.ensures.utf8 c.to_vec.ensures.reads_back
