-- A certificate names its version, which is 1, 2 or 3. This file replaces the version by another one.
use Rattle.cert_values.specs.declared.cert_version.CertVersion.{CertVersion}
use Rattle.cert_values.specs.Certificates.{Certificate}

-- the certificate c with its version replaced by `version`
abbrev pub in_version : CertVersion → Certificate → Certificate
in_version version c = record {
  version = version;
  rule = c.rule;
  surjective = c.surjective;
  injective = c.injective;
  right = c.right;
  left = c.left;
  conserving = c.conserving;
  weights = c.weights;
  forward = c.forward;
  backward = c.backward;
}
