-- Which JSON values are which parts of a certificate, and which fault is returned if bytes can't be read as a
-- certificate. A claim is an upper bound of the rank of a pair of nodes, or None if nothing is claimed. The rank says
-- how long two walks from the nodes, or to them, can have equal labels.
use Rattle.std.specs.Prelude.{◌≡◌, ℕ, ◌⊎◌, ◌+◌, ◌-◌, ◌≤◌, length, All, ℤ, List, [], ◌∷◌, Option, alloc_error}
use Rattle.serde_json.specs.Data.{Data, null, boolean, number, string, array, object, Members, no_members}
use Rattle.word_image.specs.LocalRules.{LocalRule, IsWord, node_count}
use Rattle.word_image.specs.Weights.{AreWeights}
use Rattle.tail_config.specs.Tails.{TailConfig}
use Rattle.tail_config.specs.TailTexts.{Spells, IsShortTail}
use Rattle.cert_values.specs.declared.cert_version.CertVersion.{CertVersion}
use Rattle.cert_values.specs.declared.shape_fault.Key.{Key}
use Rattle.cert_values.specs.declared.shape_fault.ShapeFault.TheVariants as shape
use Rattle.cert_format.specs.declared.cert_fault.CertFault.{CertFault}
use Rattle.cert_format.specs.declared.cert_fault.CertFault.TheVariants as fault
use Rattle.cert_values.specs.Evidence.{SurjectiveEvidence, InjectiveEvidence, SideEvidence, SumEvidence}
use Rattle.cert_values.specs.Certificates.{IsSurjectiveShape, IsInjectiveShape, IsSideShape, IsNear, IsSumShape, IsRankShape, IsClaim}
use Rattle.cert_values.specs.CertificateTexts.{IsWhole, IsSigned, IsDigits, IsTailString, IsClaimValue, IsArrayOf, IsSurjectiveValue, IsInjectiveValue, IsSideValue, IsSumValue, IsRanksValue}
use Rattle.cert_values.specs.ShapeFaults.{IsFirstWithout, Passes, part_steps, IsShapeFault}
use Rattle.cert_values.specs.declared.shape_fault.ShapeFault.{ShapeFault}

-- the members of a JSON value; a value that isn't an object has none
abbrev pub members_in : Data → Members
members_in null = no_members
members_in (boolean b) = no_members
members_in (number n) = no_members
members_in (string s) = no_members
members_in (array ds) = no_members
members_in (object ms) = ms

-- the text consists of the hexadecimal digits of the word w, and the letters of w are below k
abbrev pub IsLetters : ℕ → List ℕ → List ℕ → Type 0
IsLetters k text w = Spells text w × IsWord k w

-- the JSON value is a string of the word w, whose letters are below k
abbrev pub IsWordValue : ℕ → Data → List ℕ → Type 0
IsWordValue k d w = IsDigits d w × IsWord k w

-- the JSON value is an array of two strings, of the words x and y, whose letters are below k
abbrev pub IsWordsValue : ℕ → Data → List ℕ → List ℕ → Type 0
IsWordsValue k d x y = IsArrayOf IsDigits d (x ∷ y ∷ []) × IsWord k x × IsWord k y

-- the JSON value is a string of the configuration t, whose letters are below k and whose parts have at most 1,024 letters
abbrev pub IsTailValue : ℕ → Data → TailConfig → Type 0
IsTailValue k d t = IsTailString d t × IsShortTail k t

-- the JSON value is an array of two strings, of the configurations x and y, whose letters are below k and whose parts have at most 1,024 letters
abbrev pub IsTailsValue : ℕ → Data → TailConfig → TailConfig → Type 0
IsTailsValue k d x y = IsArrayOf IsTailString d (x ∷ y ∷ []) × IsShortTail k x × IsShortTail k y

-- the JSON value is the whole number n, which is at most 65,535
abbrev pub IsShort : Data → ℕ → Type 0
IsShort d n = IsWhole d n × (n ≤ 65535)

-- the JSON value is this claim: null, or a whole number of at most 65,535
abbrev pub IsRankValue : Data → Option ℕ → Type 0
IsRankValue d o = IsClaimValue d o × IsClaim o

-- the JSON value is this whole number from -1,000,000 to 1,000,000
abbrev pub IsFlow : Data → ℤ → Type 0
IsFlow d z = IsSigned d z × IsNear z

-- the JSON value is an array of these whole numbers, each at most `most`
abbrev pub AreNumbers : ℕ → Data → List ℕ → Type 0
AreNumbers most d ns = IsArrayOf IsWhole d ns × All (λ n. n ≤ most) ns

-- the two JSON values are the numbers n and c of a window, and these are within the limits of the rule
abbrev pub IsWindowFor : LocalRule → Data → Data → ℕ → ℕ → Type 0
IsWindowFor r d e n c = IsWhole d n × IsWhole e c × (1 ≤ n) × (n ≤ 65535) × (c ≤ n + r.width - 2) × (c ≤ 65535)

-- the JSON value is this look-ahead, a number from 1 to 65,535
abbrev pub IsAhead : Data → ℕ → Type 0
IsAhead d n = IsWhole d n × (1 ≤ n) × (n ≤ 65535)

-- the JSON value is an array of these numbers: one number from -1,000,000 to 1,000,000 for each node
abbrev pub IsFluxFor : LocalRule → Data → List ℤ → Type 0
IsFluxFor r d phi = IsArrayOf IsSigned d phi × (length phi ≡ node_count r) × All IsNear phi

-- the JSON value is the whole number n, which is at most 255
abbrev pub IsByte : Data → ℕ → Type 0
IsByte d n = IsWhole d n × (n ≤ 255)

-- the JSON value is an array of these weights: one weight from 0 to 255 for each letter
abbrev pub IsWeightsFor : LocalRule → Data → List ℕ → Type 0
IsWeightsFor r d weights = IsArrayOf IsWhole d weights × AreWeights r.states weights

-- the JSON value is this evidence on surjectivity, which is within the limits of the version and of the rule
abbrev pub IsSurjectiveFor : CertVersion → LocalRule → Data → SurjectiveEvidence → Type 0
IsSurjectiveFor version r d e = IsSurjectiveValue d e × IsSurjectiveShape version r e

-- the JSON value is this evidence on injectivity, which is within the limits of the rule
abbrev pub IsInjectiveFor : LocalRule → Data → InjectiveEvidence → Type 0
IsInjectiveFor r d e = IsInjectiveValue d e × IsInjectiveShape r e

-- the JSON value is this evidence on closing on a side, which is within the limits of the rule
abbrev pub IsSideFor : LocalRule → Data → SideEvidence → Type 0
IsSideFor r d e = IsSideValue d e × IsSideShape r e

-- the JSON value is this evidence on conservation, which is within the limits of the rule
abbrev pub IsSumFor : LocalRule → Data → SumEvidence → Type 0
IsSumFor r d e = IsSumValue d e × IsSumShape r e

-- the JSON value is an array of the claims in the row: one claim for each pair of nodes
abbrev pub IsRowFor : LocalRule → Data → List (Option ℕ) → Type 0
IsRowFor r d row = IsArrayOf IsClaimValue d row × IsRankShape r row

-- the JSON value has the forward claims and the backward claims: one of each for each pair of nodes
abbrev pub AreRanksFor : LocalRule → Data → List (Option ℕ) → List (Option ℕ) → Type 0
AreRanksFor r d forward backward = IsRanksValue d forward backward × IsRankShape r forward × IsRankShape r backward

-- f is a fault of the step that reads the part with the key k: there is no memory, or the step fails, and then P, which says that this part can be read, is false
abbrev pub IsStepFault : Key → Type 0 → CertFault → Type 0
IsStepFault k P f = (f ≡ fault.Memory alloc_error) ⊎ ((f ≡ fault.Format (shape.Shape k)) × ¬ P)

-- f is a fault of reading the parts: there is no memory, or f names the first part whose step fails
abbrev pub IsPartFault : CertVersion → LocalRule → Members → CertFault → Type 0
IsPartFault version r ms f = (f ≡ fault.Memory alloc_error) ⊎ ((k : Key) × (f ≡ fault.Format (shape.Shape k)) × IsFirstWithout (Passes version r ms) part_steps k)

-- the reason f why no certificate is read from the bytes: there is no memory, or f is the first fault of the bytes
abbrev pub IsCertFault : List ℕ → CertFault → Type 0
IsCertFault bytes f = (f ≡ fault.Memory alloc_error) ⊎ ((s : ShapeFault) × (f ≡ fault.Format s) × IsShapeFault bytes s)
