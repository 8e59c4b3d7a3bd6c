-- Certificates have three versions. This file says how the versions differ.
use Rattle.std.specs.Prelude.{ℕ, Bool, true, false}
use Rattle.cert_values.specs.declared.cert_version.CertVersion.{CertVersion}
use Rattle.cert_values.specs.declared.cert_version.CertVersion.TheVariants.{One, Two, Three}

-- the number of a version
abbrev pub number_of : CertVersion → ℕ
number_of One = 1
number_of Two = 2
number_of Three = 3

-- whether a certificate of this version may name the weights of the letters (versions 2 and 3)
abbrev pub names_weights : CertVersion → Bool
names_weights One = false
names_weights Two = true
names_weights Three = true

-- whether a certificate of this version may list pairs of nodes (version 3)
abbrev pub lists_pairs : CertVersion → Bool
lists_pairs One = false
lists_pairs Two = false
lists_pairs Three = true
