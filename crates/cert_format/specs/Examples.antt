-- The texts of six certificates, worked out by hand. The prover computes the same texts.
use Rattle.std.specs.Prelude.{◌≡◌, ℕ, ℤ, List, [], ◌∷◌, codes, refl, pos, negsuc, Option, Some, None}
use Rattle.std.specs.Fmt.{digits}
use Rattle.serde_json.proofs.OnLiterals.{serde_json_on_literals}
use Rattle.word_image.specs.LocalRules.{LocalRule}
use Rattle.tail_config.specs.TailValues.{config_of}
use Rattle.cert_values.specs.declared.cert_version.CertVersion.{CertVersion}
use Rattle.cert_values.specs.declared.cert_version.CertVersion.TheVariants.{One, Two, Three}
use Rattle.cert_values.specs.Certificates.{Certificate}
use Rattle.cert_values.specs.Evidence.{SurjectiveEvidence}
use Rattle.cert_values.specs.Evidence.SurjectiveEvidence.{Sets, Pairs, Orphan}
use Rattle.cert_values.specs.Evidence.InjectiveEvidence.{Window, Twins}
use Rattle.cert_values.specs.Evidence.SideEvidence.{Ahead, Split}
use Rattle.cert_values.specs.Evidence.SumEvidence.{Flux, Ring}
use Rattle.cert_values.specs.WrittenTexts.{certificate_text}

-- the rule of two states, width 2 and offset 0 with this table
abbrev two_state_rule : List ℕ → LocalRule
two_state_rule table = record { states = 2; width = 2; offset = pos 0; table = table }

-- the claims of a certificate that claims nothing for any of the four pairs of nodes
abbrev no_claims : List (Option ℕ)
no_claims = None ∷ None ∷ None ∷ None ∷ []

-- a certificate of the shift to the left by one cell, with this version, flux and weights

abbrev shift_with : CertVersion → List ℤ → List ℕ → Certificate
shift_with version flux weights = record {
  version = version;
  rule = two_state_rule (0 ∷ 1 ∷ 0 ∷ 1 ∷ []);
  surjective = Sets (3 ∷ 1 ∷ 2 ∷ []);
  injective = Window 1 1;
  right = Ahead 1;
  left = Ahead 2;
  conserving = Flux flux;
  weights = weights;
  forward = no_claims;
  backward = None ∷ Some 0 ∷ Some 0 ∷ None ∷ [];
}

abbrev shift_cert : Certificate
shift_cert = shift_with One (pos 0 ∷ negsuc 0 ∷ []) (0 ∷ 1 ∷ [])

certificate_text-shift : certificate_text shift_cert ≡ codes "{\"conserving\":{\"flux\":[0,-1]},\"injective\":{\"c\":1,\"n\":1},\"left\":{\"ahead\":2},\"ranks\":{\"backward\":[null,0,0,null],\"forward\":[null,null,null,null]},\"right\":{\"ahead\":1},\"rule\":\"2:2:0:t0101\",\"surjective\":{\"sets\":[3,1,2]},\"version\":1}"
unfolding digits serde_json_on_literals
certificate_text-shift = refl

-- the certificate of the rule that gives 1 if both cells are 1, and 0 if not

abbrev both_cert : Certificate
both_cert = record {
  version = One;
  rule = two_state_rule (0 ∷ 0 ∷ 0 ∷ 1 ∷ []);
  surjective = Orphan (1 ∷ 0 ∷ 1 ∷ []);
  injective = Twins (0 ∷ 0 ∷ []) (0 ∷ 1 ∷ []);
  right = Split (config_of (0 ∷ []) [] (0 ∷ 0 ∷ [])) (config_of (0 ∷ []) [] (1 ∷ 0 ∷ []));
  left = Split (config_of (0 ∷ 0 ∷ []) [] (0 ∷ [])) (config_of (0 ∷ 1 ∷ []) [] (0 ∷ []));
  conserving = Ring (0 ∷ 1 ∷ []);
  weights = 0 ∷ 1 ∷ [];
  forward = no_claims;
  backward = no_claims;
}

certificate_text-both : certificate_text both_cert ≡ codes "{\"conserving\":{\"ring\":\"01\"},\"injective\":{\"twins\":[\"00\",\"01\"]},\"left\":{\"split\":[\"00||0\",\"01||0\"]},\"ranks\":{\"backward\":[null,null,null,null],\"forward\":[null,null,null,null]},\"right\":{\"split\":[\"0||00\",\"0||10\"]},\"rule\":\"2:2:0:t0001\",\"surjective\":{\"orphan\":\"101\"},\"version\":1}"
unfolding digits serde_json_on_literals
certificate_text-both = refl

-- a certificate of the sum of two cells modulo 2, with this version and this evidence that the rule is surjective

abbrev sum_with : CertVersion → SurjectiveEvidence → Certificate
sum_with version surjective = record {
  version = version;
  rule = two_state_rule (0 ∷ 1 ∷ 1 ∷ 0 ∷ []);
  surjective = surjective;
  injective = Twins (0 ∷ []) (1 ∷ []);
  right = Ahead 1;
  left = Ahead 1;
  conserving = Ring (1 ∷ []);
  weights = 0 ∷ 1 ∷ [];
  forward = no_claims;
  backward = no_claims;
}

abbrev sum : Certificate
sum = sum_with One (Sets (3 ∷ []))

certificate_text-sum : certificate_text sum ≡ codes "{\"conserving\":{\"ring\":\"1\"},\"injective\":{\"twins\":[\"0\",\"1\"]},\"left\":{\"ahead\":1},\"ranks\":{\"backward\":[null,null,null,null],\"forward\":[null,null,null,null]},\"right\":{\"ahead\":1},\"rule\":\"2:2:0:t0110\",\"surjective\":{\"sets\":[3]},\"version\":1}"
unfolding digits serde_json_on_literals
certificate_text-sum = refl

-- the certificate of the sum of two cells in version 2, and its text

abbrev second : Certificate
second = sum_with Two (Sets (3 ∷ []))

certificate_text-second : certificate_text second ≡ codes "{\"conserving\":{\"ring\":\"1\"},\"injective\":{\"twins\":[\"0\",\"1\"]},\"left\":{\"ahead\":1},\"ranks\":{\"backward\":[null,null,null,null],\"forward\":[null,null,null,null]},\"right\":{\"ahead\":1},\"rule\":\"2:2:0:t0110\",\"surjective\":{\"sets\":[3]},\"version\":2}"
unfolding digits serde_json_on_literals
certificate_text-second = refl

-- the certificate of the shift to the left with a weight of 2 for the letter 1, and its text

abbrev weighted : Certificate
weighted = shift_with Two (pos 0 ∷ negsuc 1 ∷ []) (0 ∷ 2 ∷ [])

certificate_text-weighted : certificate_text weighted ≡ codes "{\"conserving\":{\"flux\":[0,-2]},\"injective\":{\"c\":1,\"n\":1},\"left\":{\"ahead\":2},\"ranks\":{\"backward\":[null,0,0,null],\"forward\":[null,null,null,null]},\"right\":{\"ahead\":1},\"rule\":\"2:2:0:t0101\",\"surjective\":{\"sets\":[3,1,2]},\"version\":2,\"weights\":[0,2]}"
unfolding digits serde_json_on_literals
certificate_text-weighted = refl

-- the certificate of the sum of two cells with a list of pairs, which is empty since no pair is reached, and its text

abbrev with_pairs : Certificate
with_pairs = sum_with Three (Pairs [])

certificate_text-with_pairs : certificate_text with_pairs ≡ codes "{\"conserving\":{\"ring\":\"1\"},\"injective\":{\"twins\":[\"0\",\"1\"]},\"left\":{\"ahead\":1},\"ranks\":{\"backward\":[null,null,null,null],\"forward\":[null,null,null,null]},\"right\":{\"ahead\":1},\"rule\":\"2:2:0:t0110\",\"surjective\":{\"pairs\":[]},\"version\":3}"
unfolding digits serde_json_on_literals
certificate_text-with_pairs = refl
