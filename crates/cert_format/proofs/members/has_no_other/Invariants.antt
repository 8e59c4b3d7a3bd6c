use Rattle.std.proofs.Common.{All, Contains, string_bytes}
use Rattle.cert_values.specs.CertificateTexts.{keys_of}
use Rattle.cert_format.proofs.members.has_no_other.Given as goal

-- each name so far is a key of a certificate
abbrev pub invariant-loop-key : goal.invariant-loop-key
invariant-loop-key l = All (λ name. Contains (keys_of l.version) (string_bytes name.now)) l.yielded
