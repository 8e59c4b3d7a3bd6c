-- A certificate is read from bytes in steps, in a fixed order. If bytes aren't the text of a certificate, some step
-- fails. This file defines which one fails first.
use Rattle.std.specs.Prelude.{◌≡◌, ◌≢◌, ℕ, List, [], ◌∷◌, ◌++◌, codes, Option, None, All, ⊤}
use Rattle.serde_json.specs.Data.{Data, Members}
use Rattle.serde_json.specs.Find.{as_object}
use Rattle.word_image.specs.LocalRules.{LocalRule}
use Rattle.rule_text.specs.RuleTexts.{IsRuleText, IsTextFault}
use Rattle.rule_text.specs.declared.text_fault.TextFault.{TextFault}
use Rattle.cert_values.specs.declared.cert_version.CertVersion.{CertVersion}
use Rattle.cert_values.specs.declared.shape_fault.Key.{Key}
use Rattle.cert_values.specs.declared.shape_fault.Key.TheVariants as key
use Rattle.cert_values.specs.declared.shape_fault.ShapeFault.{ShapeFault}
use Rattle.cert_values.specs.declared.shape_fault.ShapeFault.TheVariants as fault
use Rattle.cert_values.specs.Evidence.{SurjectiveEvidence, InjectiveEvidence, SideEvidence, SumEvidence}
use Rattle.cert_values.specs.Versions.{number_of}
use Rattle.cert_values.specs.CertificateTexts.{IsJson, IsObject, HasVersion, HasRuleText, HasSurjective, HasInjective, HasSide, HasConserving, HasWeights, HasRanks, HasNoOther}

-- the members pass the step that reads the part with this key; the first three keys are read before the parts and count as passed
abbrev pub Passes : CertVersion → LocalRule → Members → Key → Type 0
Passes version r ms key.Top = ⊤
Passes version r ms key.Version = ⊤
Passes version r ms key.Rule = ⊤
Passes version r ms key.Surjective = (e : SurjectiveEvidence) × HasSurjective version r ms e
Passes version r ms key.Injective = (e : InjectiveEvidence) × HasInjective r ms e
Passes version r ms key.Right = (e : SideEvidence) × HasSide (codes "right") r ms e
Passes version r ms key.Left = (e : SideEvidence) × HasSide (codes "left") r ms e
Passes version r ms key.Conserving = (e : SumEvidence) × HasConserving r ms e
Passes version r ms key.Weights = (weights : List ℕ) × HasWeights version r ms weights
Passes version r ms key.Ranks = (forward backward : List (Option ℕ)) × HasRanks r ms forward backward
Passes version r ms key.Unknown = HasNoOther version ms

-- the steps that read the parts of a certificate, in their order
abbrev pub part_steps : List Key
part_steps = key.Surjective ∷ key.Injective ∷ key.Right ∷ key.Left ∷ key.Conserving ∷ key.Weights ∷ key.Ranks ∷ key.Unknown ∷ []

-- x is the first element of the list xs that doesn't have the property P
pub record IsFirstWithout {A : Type 0} (P : A → Type 0) (xs : List A) (x : A) : Type 0 where
  pub before : List A
  pub after : List A
  pub list : xs ≡ before ++ x ∷ after
  pub earlier : All P before
  pub fails : ¬ P x

-- The first step that fails: the bytes aren't JSON, aren't an object, have no version or an unknown one, have no rule or a wrong one, or a later part is wrong.
pub data IsShapeFault (bytes : List ℕ) : ShapeFault → Type 0 where
  NoJson : ((d : Data) → ¬ IsJson bytes d) → IsShapeFault bytes fault.NotJson
  NoObject : (d : Data) → IsJson bytes d → as_object d ≡ None → IsShapeFault bytes (fault.Shape key.Top)
  NoVersion : (ms : Members) → IsObject bytes ms → ((v : ℕ) → ¬ HasVersion ms v) → IsShapeFault bytes (fault.Shape key.Version)
  OtherVersion : (ms : Members) (v : ℕ) → IsObject bytes ms → HasVersion ms v → ((version : CertVersion) → v ≢ number_of version) → IsShapeFault bytes (fault.Version v)
  NoRule : (ms : Members) (version : CertVersion) → IsObject bytes ms → HasVersion ms (number_of version) → ((text : List ℕ) → ¬ HasRuleText ms text) → IsShapeFault bytes (fault.Shape key.Rule)
  BadRule : (ms : Members) (version : CertVersion) (text : List ℕ) → IsObject bytes ms → HasVersion ms (number_of version) → HasRuleText ms text
      → (f : TextFault) → IsTextFault text f → IsShapeFault bytes (fault.Rule f)
  BadPart : (ms : Members) (version : CertVersion) (text : List ℕ) (r : LocalRule) (k : Key) → IsObject bytes ms → HasVersion ms (number_of version) → HasRuleText ms text
      → IsRuleText text r → IsFirstWithout (Passes version r ms) part_steps k → IsShapeFault bytes (fault.Shape k)
