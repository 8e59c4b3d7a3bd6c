use Rattle.std.proofs.Common.{[], ◌∷◌, string_bytes, codes, if◌then◌else◌}
use Rattle.word_image.proofs.Common.{Contains-append_left}
use Rattle.cert_values.specs.Versions.{names_weights}
use Rattle.cert_values.specs.CertificateTexts.{keys}
use Rattle.cert_format.proofs.laws.Objects.{list_any-keys}
use Rattle.cert_format.proofs.members.is_key.Goals as goal

pub returns-then-contains : goal.returns-then-contains
returns-then-contains c =
    let name = string_bytes c.args.name.now in
    let known = (list_any-keys keys name c.contains.result (rw c.as_str.ensures.value at c.contains.ensures.value)).0 c.if-contains.true in
    (λ t. Contains-append_left keys (if names_weights c.args.version then codes "weights" ∷ [] else []) name known, λ k. c.if-contains.true)
