-- Which step of reading a certificate fails.
use Rattle.std.proofs.Common.{◌≡◌, refl, sym, ◌∙◌, subst, List, ◌∷◌, ◌++◌, take, drop, ◌+◌, ℕ, inl, inr, Result, Ok, Err, Option, Some, None, false, is_some, codes, alloc_error, IsUtf8, IfErr}
use Rattle.word_image.proofs.Common.{AllByRecursion, All-from_recursion, none-some, LocalRule}
use Rattle.serde_json.specs.Data.{Data, object, Members}
use Rattle.serde_json.specs.Read.{read}
use Rattle.serde_json.specs.Find.{get_member, as_object}
use Rattle.rule_text.specs.RuleTexts.{IsRuleText}
use Rattle.cert_format.specs.declared.misread.Misread.{Misread}
use Rattle.cert_format.specs.declared.misread.Misread.TheVariants as misread
use Rattle.cert_values.specs.declared.shape_fault.Key.{Key}
use Rattle.cert_values.specs.declared.shape_fault.Key.TheVariants as key
use Rattle.cert_values.specs.declared.shape_fault.ShapeFault.TheVariants as shape
use Rattle.cert_format.specs.declared.cert_fault.CertFault.{CertFault}
use Rattle.cert_format.specs.declared.cert_fault.CertFault.TheVariants as fault
use Rattle.cert_values.specs.declared.cert_version.CertVersion.{CertVersion}
use Rattle.cert_values.specs.Certificates.{Certificate}
use Rattle.cert_values.specs.Versions.{number_of}
use Rattle.cert_values.specs.CertificateTexts.{IsObject, IsRanksValue, HasVersion, HasRuleText, HasRanks}
use Rattle.cert_values.specs.ShapeFaults.{Passes, part_steps}
use Rattle.cert_values.specs.ShapeFaults.IsShapeFault.{NoJson, NoObject, BadPart}
use Rattle.cert_format.specs.Readings.{AreRanksFor, IsStepFault, IsPartFault, IsCertFault}
use Rattle.cert_values.proofs.laws.Uniqueness.{one_some}

-- the step of the ranks fails where the member is no ranks
pub no_ranks : (r : LocalRule) (ms : Members) (d : Data) → get_member (codes "ranks") ms ≡ Some d
    → ((forward backward : List (Option ℕ)) → ¬ AreRanksFor r d forward backward)
    → ¬ ((forward backward : List (Option ℕ)) × HasRanks r ms forward backward)
no_ranks r ms d is none h = none h.0 h.1 (subst (λ d. IsRanksValue d h.0 h.1) (one_some h.2.0.1 is) h.2.0.2, h.2.1, h.2.2)

-- the fault of a step, by what isn't read
pub IsStepFault-at : (m : Misread) (k : Key) (f : CertFault) (P : Type 0) → (m ≡ misread.Shape → f ≡ fault.Format (shape.Shape k))
    → (m ≡ misread.Memory alloc_error → f ≡ fault.Memory alloc_error)
    → (m ≡ misread.Shape → ¬ P) → IsStepFault k P f
IsStepFault-at misread.Shape k f P shape memory fails = inr (shape refl, fails refl)
IsStepFault-at (misread.Memory e) k f P shape memory fails = inl (memory refl)

-- where the n steps before pass, it is the fault of the parts
pub IsPartFault-step : (v : CertVersion) (r : LocalRule) (ms : Members) (n : ℕ) (k : Key) (f : CertFault)
    → part_steps ≡ take n part_steps ++ k ∷ drop (n + 1) part_steps
    → AllByRecursion (Passes v r ms) (take n part_steps) → IsStepFault k (Passes v r ms k) f → IsPartFault v r ms f
IsPartFault-step v r ms n k f list earlier (inl memory) = inl memory
IsPartFault-step v r ms n k f list earlier (inr (is, fails)) =
    inr (k, is, record { before = take n part_steps; after = drop (n + 1) part_steps; list = list; earlier = All-from_recursion (Passes v r ms) (take n part_steps) earlier; fails = fails })

-- with the head of a certificate, the fault of its parts is that of the bytes
pub IsCertFault-parts : (bytes : List ℕ) (ms : Members) (v : CertVersion) (r : LocalRule) (answer : Result Certificate CertFault) → IsObject bytes ms
    → HasVersion ms (number_of v) → (text : List ℕ) × HasRuleText ms text × IsRuleText text r
    → IfErr answer (IsPartFault v r ms) → IfErr answer (IsCertFault bytes)
IsCertFault-parts bytes ms v r (Ok c) json version head wrong = tt
IsCertFault-parts bytes ms v r (Err f) json version head (inl memory) = inl memory
IsCertFault-parts bytes ms v r (Err f) json version head (inr (k, is, first)) = inr (shape.Shape k, is, BadPart ms v head.0 r k json version head.1 head.2 first)

-- the faults before an object

as_object-None : (d : Data) → is_some (as_object d) ≡ false → as_object d ≡ None
as_object-None (object ms) is = absurd (cc)
as_object-None _ is = refl

pub IsCertFault-json : (bytes : List ℕ) → (IsUtf8 bytes → read bytes ≡ None) → IsCertFault bytes (fault.Format shape.NotJson)
IsCertFault-json bytes none = inr (shape.NotJson, refl, NoJson (λ d json. none-some d (sym (none json.0) ∙ json.1)))

pub IsCertFault-top : (bytes : List ℕ) (d : Data) → IsUtf8 bytes → read bytes ≡ Some d → is_some (as_object d) ≡ false
    → IsCertFault bytes (fault.Format (shape.Shape key.Top))
IsCertFault-top bytes d utf8 is none = inr (shape.Shape key.Top, refl, NoObject d (utf8, is) (as_object-None d none))
