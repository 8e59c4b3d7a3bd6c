-- A certificate has evidence for each verdict about a rule, a weight for each letter, and claims. A claim is an upper
-- bound of the rank of a pair of nodes, which says how long two walks from its nodes, or to them, can have equal
-- labels. This file defines which bytes are the JSON text of which certificate.
use Rattle.std.specs.Prelude.{◌≡◌, ℕ, List, [], ◌∷◌, ◌++◌, codes, Option, Some, None, Contains, IsUtf8, ℤ, option_and_then, if◌then◌else◌, true}
use Rattle.std.specs.List.{AllZip}
use Rattle.serde_json.specs.Data.{Data, null, array, object, Items, no_items, item, Members, no_members, member}
use Rattle.serde_json.specs.Read.{read}
use Rattle.serde_json.specs.Find.{get_member, as_number, as_str, as_object, as_u64, as_i64}
use Rattle.word_image.specs.LocalRules.{LocalRule}
use Rattle.word_image.specs.Weights.{AreWeights, own_weights}
use Rattle.tail_config.specs.Tails.{TailConfig}
use Rattle.tail_config.specs.TailTexts.{Spells, HasParts}
use Rattle.rule_text.specs.RuleTexts.{IsRuleText}
use Rattle.cert_values.specs.declared.cert_version.CertVersion.{CertVersion}
use Rattle.cert_values.specs.Versions.{number_of, names_weights}
use Rattle.cert_values.specs.Evidence.{SurjectiveEvidence, InjectiveEvidence, SideEvidence, SumEvidence, Sets, Pairs, Orphan, Window, Twins, Ahead, Split, Flux, Ring}
use Rattle.cert_values.specs.Certificates.{Certificate, IsSurjectiveShape, IsInjectiveShape, IsSideShape, IsSumShape, IsRankShape}

-- The JSON value of each part

-- the bytes are UTF-8 and JSON with this value; if a key occurs twice, the last member counts
abbrev pub IsJson : List ℕ → Data → Type 0
IsJson bytes d = IsUtf8 bytes × (read bytes ≡ Some d)

-- the value is this whole number below 2 ^ 64, without sign, point or exponent
abbrev pub IsWhole : Data → ℕ → Type 0
IsWhole d n = option_and_then as_u64 (as_number d) ≡ Some n

-- the value is this whole number, which is from -2^63 to 2^63 - 1
abbrev pub IsSigned : Data → ℤ → Type 0
IsSigned d z = option_and_then as_i64 (as_number d) ≡ Some z

-- the value is a string of the hexadecimal digits of this word, in lower or upper case
abbrev pub IsDigits : Data → List ℕ → Type 0
IsDigits d w = (text : List ℕ) × (as_str d ≡ Some text) × Spells text w

-- the value is a string of this configuration: its left period, its middle and its right period, with bars between them
abbrev pub IsTailString : Data → TailConfig → Type 0
IsTailString d t = (text : List ℕ) × (as_str d ≡ Some text) × HasParts text t

-- the value is this claim: null if nothing is claimed, or a whole number
abbrev pub IsClaimValue : Data → Option ℕ → Type 0
IsClaimValue d None = d ≡ null
IsClaimValue d (Some n) = IsWhole d n

-- the items of an array in order
abbrev pub list_of : Items → List Data
list_of no_items = []
list_of (item d ds) = d ∷ list_of ds

-- the value d is an array, and `R` relates its items, in order, to the elements of the list `xs`
abbrev pub IsArrayOf : {A : Type 0} → (Data → A → Type 0) → Data → List A → Type 0
IsArrayOf R d xs = (ds : Items) × (d ≡ array ds) × AllZip R (list_of ds) xs

-- the value d is an object with only the key k, and v is its value
abbrev pub HasOnly : List ℕ → Data → Data → Type 0
HasOnly k v d = as_object d ≡ Some (member k v no_members)

-- the value d is an object with only the keys k and l, in ascending order; v is the value of k, and u is the value of l
abbrev pub HasOnlyBoth : List ℕ → Data → List ℕ → Data → Data → Type 0
HasOnlyBoth k v l u d = as_object d ≡ Some (member k v (member l u no_members))

-- the value is {"sets":[..]}, {"pairs":[..]} or {"orphan":".."}, with the sets, the pairs or the word of this evidence
abbrev pub IsSurjectiveValue : Data → SurjectiveEvidence → Type 0
IsSurjectiveValue d (Sets sets) = (v : Data) × HasOnly (codes "sets") v d × IsArrayOf IsWhole v sets
IsSurjectiveValue d (Pairs pairs) = (v : Data) × HasOnly (codes "pairs") v d × IsArrayOf IsWhole v pairs
IsSurjectiveValue d (Orphan w) = (v : Data) × HasOnly (codes "orphan") v d × IsDigits v w

-- the value is {"c":C,"n":N} or {"twins":["..",".."]}, with the window or the two words of this evidence
abbrev pub IsInjectiveValue : Data → InjectiveEvidence → Type 0
IsInjectiveValue d (Window n c) = (v u : Data) × HasOnlyBoth (codes "c") v (codes "n") u d × IsWhole v c × IsWhole u n
IsInjectiveValue d (Twins x y) = (v : Data) × HasOnly (codes "twins") v d × IsArrayOf IsDigits v (x ∷ y ∷ [])

-- the value is {"ahead":A} or {"split":["..",".."]}, with the look-ahead or the two configurations of this evidence
abbrev pub IsSideValue : Data → SideEvidence → Type 0
IsSideValue d (Ahead n) = (v : Data) × HasOnly (codes "ahead") v d × IsWhole v n
IsSideValue d (Split x y) = (v : Data) × HasOnly (codes "split") v d × IsArrayOf IsTailString v (x ∷ y ∷ [])

-- the value is {"flux":[..]} or {"ring":".."}, with the flux or the word of this evidence
abbrev pub IsSumValue : Data → SumEvidence → Type 0
IsSumValue d (Flux phi) = (v : Data) × HasOnly (codes "flux") v d × IsArrayOf IsSigned v phi
IsSumValue d (Ring p) = (v : Data) × HasOnly (codes "ring") v d × IsDigits v p

-- the value is {"backward":[..],"forward":[..]} with these backward claims and these forward claims
abbrev pub IsRanksValue : Data → List (Option ℕ) → List (Option ℕ) → Type 0
IsRanksValue d forward backward = (v u : Data) × HasOnlyBoth (codes "backward") v (codes "forward") u d × IsArrayOf IsClaimValue v backward × IsArrayOf IsClaimValue u forward

-- The members of the whole object

-- the bytes are a JSON object with these members
abbrev pub IsObject : List ℕ → Members → Type 0
IsObject bytes ms = IsJson bytes (object ms)

-- there is a member with the key k, and `P` holds for its value
abbrev pub HasMember : Members → List ℕ → (Data → Type 0) → Type 0
HasMember ms k P = (d : Data) × (get_member k ms ≡ Some d) × P d

-- there is a member "version", whose value is this number
abbrev pub HasVersion : Members → ℕ → Type 0
HasVersion ms v = HasMember ms (codes "version") (λ d. IsWhole d v)

-- there is a member "rule", whose value is a string with this text
abbrev pub HasRuleText : Members → List ℕ → Type 0
HasRuleText ms text = HasMember ms (codes "rule") (λ d. as_str d ≡ Some text)

-- the keys that each certificate has, ascending
abbrev pub keys : List (List ℕ)
keys = codes "conserving" ∷ codes "injective" ∷ codes "left" ∷ codes "ranks" ∷ codes "right" ∷ codes "rule" ∷ codes "surjective" ∷ codes "version" ∷ []

-- the keys that a certificate of this version may have; "weights" is one of them unless the version is 1
abbrev pub keys_of : CertVersion → List (List ℕ)
keys_of version = keys ++ (if names_weights version then codes "weights" ∷ [] else [])

-- the members have no keys except those that a certificate of this version may have
abbrev pub HasNoOther : CertVersion → Members → Type 0
HasNoOther version ms = (k : List ℕ) (d : Data) → get_member k ms ≡ Some d → Contains (keys_of version) k

-- the member "surjective" has the evidence e, and e is within the limits of the version and of the rule
abbrev pub HasSurjective : CertVersion → LocalRule → Members → SurjectiveEvidence → Type 0
HasSurjective version r ms e = HasMember ms (codes "surjective") (λ d. IsSurjectiveValue d e) × IsSurjectiveShape version r e

-- the member "injective" has the evidence e, and e is within the limits of the rule
abbrev pub HasInjective : LocalRule → Members → InjectiveEvidence → Type 0
HasInjective r ms e = HasMember ms (codes "injective") (λ d. IsInjectiveValue d e) × IsInjectiveShape r e

-- the member with the key k, which is "right" or "left", has the evidence e, and e is within the limits of the rule
abbrev pub HasSide : List ℕ → LocalRule → Members → SideEvidence → Type 0
HasSide k r ms e = HasMember ms k (λ d. IsSideValue d e) × IsSideShape r e

-- the member "conserving" has the evidence e, and e is within the limits of the rule
abbrev pub HasConserving : LocalRule → Members → SumEvidence → Type 0
HasConserving r ms e = HasMember ms (codes "conserving") (λ d. IsSumValue d e) × IsSumShape r e

-- the weights are the value of the member "weights"; without such a member, and in version 1, each letter weighs its own value
pub data HasWeights (version : CertVersion) (r : LocalRule) (ms : Members) (weights : List ℕ) : Type 0 where
  Named : names_weights version ≡ true → HasMember ms (codes "weights") (λ d. IsArrayOf IsWhole d weights) → AreWeights r.states weights → HasWeights version r ms weights
  Own : (names_weights version ≡ true → get_member (codes "weights") ms ≡ None) → weights ≡ own_weights r.states → HasWeights version r ms weights

-- the member "ranks" has these forward claims and these backward claims, and they are within the limits of the rule
abbrev pub HasRanks : LocalRule → Members → List (Option ℕ) → List (Option ℕ) → Type 0
HasRanks r ms forward backward = HasMember ms (codes "ranks") (λ d. IsRanksValue d forward backward) × IsRankShape r forward × IsRankShape r backward

-- the members contain each part of the certificate, and there are no other keys
pub record AreParts (ms : Members) (c : Certificate) : Type 0 where
  pub surjective : HasSurjective c.version c.rule ms c.surjective
  pub injective : HasInjective c.rule ms c.injective
  pub right : HasSide (codes "right") c.rule ms c.right
  pub left : HasSide (codes "left") c.rule ms c.left
  pub conserving : HasConserving c.rule ms c.conserving
  pub weights : HasWeights c.version c.rule ms c.weights
  pub ranks : HasRanks c.rule ms c.forward c.backward
  pub no_other : HasNoOther c.version ms

-- the bytes are the text of the certificate c: JSON with its version, its rule, its other parts, and no other keys
pub record IsCertificateText (bytes : List ℕ) (c : Certificate) : Type 0 where
  pub members : Members
  pub text : List ℕ
  pub json : IsObject bytes members
  pub version : HasVersion members (number_of c.version)
  pub rule_text : HasRuleText members text
  pub rule : IsRuleText text c.rule
  pub parts : AreParts members c
