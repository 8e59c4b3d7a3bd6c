-- A finding is the answer to a question about rules. If a question has no answer, a cause says why. This file defines
-- findings and causes, and which of them are right for a question. Two words are an erasable pair if they can replace
-- each other in any configuration without a change of the image.
use Rattle.std.specs.Prelude.{◌≡◌, ◌≢◌, ℕ, ◌^◌, ◌<◌, ◌≤◌, List, length, slice_index, Bool, Option, Some, None, ℤ, ⊤}
use Rattle.word_image.specs.LocalRules.{LocalRule, IsRule, mirrored}
use Rattle.word_image.specs.Words.{IsSurjective}
use Rattle.word_image.specs.Erasure.{IsErasable, IsLeastErasable}
use Rattle.word_image.specs.Rings.{IsLeastTwins}
use Rattle.word_image.specs.Weights.{own_weights}
use Rattle.word_image.specs.Windows.{IsLeastDetermined}
use Rattle.tail_config.specs.Tails.{TailConfig, IsInjective}
use Rattle.tail_config.specs.TailFaults.{tail_fault}
use Rattle.tail_config.specs.declared.faults.TailFault.{TailFault}
use Rattle.rule_algebra.specs.Algebra.{shifted, IsTrimmed, IsWidened, IsRecolouring, IsRecoloured, IsComposed}
use Rattle.rule_algebra.specs.AlgebraFaults.{shift_fault, widen_fault, compose_fault}
use Rattle.rule_algebra.specs.declared.fault.AlgebraFault.{AlgebraFault}
use Rattle.rule_algebra.specs.declared.fault.AlgebraFault.TheVariants as algebra
use Rattle.rule_classes.specs.Classes.{IsLeastOfClass}
use Rattle.rule_classes.specs.Lifts.{lifted, unlifted, lift_fault}
use Rattle.rule_classes.specs.declared.lifts.LiftFault.{LiftFault}
use Rattle.image_minimal.specs.ImageLanguages.{Automaton, IsLeastAutomaton, HaveSameOrphans, Separates}
use Rattle.tail_config.specs.InverseMaps.{WindowMap, IsInverseMap}
use Rattle.inverse_table.specs.InverseMaps.{map_rule, GivesBack}
use Rattle.tail_preimage.specs.Preimages.{PlacedConfig, IsFrom, IsGap}
use Rattle.cert_values.specs.declared.cert_version.CertVersion.{CertVersion}
use Rattle.cert_values.specs.Certificates.{Certificate}
use Rattle.certificate_laws.specs.LeastEvidence.{Evidence, IsOrphanPart, IsLeastEvidence}
use Rattle.certificate_laws.specs.WrittenCertificates.{IsWritten}
use Rattle.ca_questions.specs.Questions.{AreFor, Question}
use Rattle.rule_text.specs.PrintedRules.{number_found}
use Rattle.ca_questions.specs.Counts.{Counts, AreCounts, AreLeastRules}

-- a finding, which answers a question, with one case for each kind of answer
pub data Finding : Type 0 where
  Report : (evidence : Evidence) → Finding
  Written : (certificate : Certificate) → Finding
  Orphan : (orphan : Option (List ℕ)) → Finding
  Number : (number : Option ℕ) → Finding
  Rule : (rule : LocalRule) → Finding
  Inverse : (n c : ℕ) (map : WindowMap) (rule : Option LocalRule) → Finding
  Language : (automaton : Automaton) → Finding
  Same : (word : Option (List ℕ)) → Finding
  Erased : (pair : Option (List ℕ × List ℕ)) → Finding
  Preimage : (placed : PlacedConfig) → Finding
  Gap : (before after : ℕ) (word : List ℕ) → Finding
  Summary : (counts : Counts) → Finding
  Classes : (counts : Counts) (classes : ℕ) → Finding

-- a cause, which is the reason why a question has no finding
pub data Cause : Type 0 where
  Twins : (x y : List ℕ) → Cause
  Wide : (n : ℕ) → Cause
  Colours : Cause
  Lift : (fault : LiftFault) → Cause
  Algebra : (fault : AlgebraFault) → Cause
  Tail : (fault : TailFault) → Cause
  Weights : Cause
  States : Cause

-- The weights of a question

-- the weight of each letter: the weight that the question names, or the value of the letter if it names no weights
abbrev pub weight_by : Option (List ℕ) → ℕ → ℕ
weight_by None = λ a. a
weight_by (Some weights) = slice_index weights

-- the weights of all letters of the rule r: the named weights, or the value of each letter if no weights are named
abbrev pub weights_by : Option (List ℕ) → LocalRule → List ℕ
weights_by None r = own_weights r.states
weights_by (Some weights) r = weights

-- Which findings and causes are right

-- the result is the map g as a rule, or None if this rule would break a limit of accepted rules
abbrev pub IsMapRule : WindowMap → Option LocalRule → Type 0
IsMapRule g None = ¬ IsRule (map_rule g)
IsMapRule g (Some r) = IsRule (map_rule g) × (r ≡ map_rule g)

-- the rule r is injective, (n, c) is its least determined window, g is its inverse map on this window, and `rule` is g as a rule, or None if g breaks a limit of rules
pub record IsInverseFound (r : LocalRule) (n c : ℕ) (g : WindowMap) (rule : Option LocalRule) : Type 0 where
  pub injective : IsInjective r
  pub least : IsLeastDetermined r n c
  pub few : r.states ^ n ≤ 65536
  pub map : IsInverseMap r n c g
  pub gives_back : GivesBack r n c g
  pub as_rule : IsMapRule g rule

-- if there is no word, the rules r and s have the same orphans; if there is one, it is the least word that is an orphan of only one of them
abbrev pub IsSameFound : LocalRule → LocalRule → Option (List ℕ) → Type 0
IsSameFound r s None = HaveSameOrphans r s
IsSameFound r s (Some w) = Separates r s w

-- if there is no pair, the rule is surjective and has no erasable pair; if there is one, the rule isn't surjective, and it is the least erasable pair
abbrev pub IsErasedFound : LocalRule → Option (List ℕ × List ℕ) → Type 0
IsErasedFound r None = IsSurjective r × ((x y : List ℕ) → ¬ IsErasable r x y)
IsErasedFound r (Some pair) = ¬ IsSurjective r × IsLeastErasable r pair.0 pair.1

-- the finding is a right answer to the question
pub data IsFinding : Question → Finding → Type 0 where
  Report : (r : LocalRule) (weights : Option (List ℕ)) (e : Evidence) → AreFor weights r → e.weights ≡ weights_by weights r
      → IsLeastEvidence (weight_by weights) r e → IsFinding (Question.Report r weights) (Finding.Report e)
  Written : (v : CertVersion) (r : LocalRule) (weights : Option (List ℕ)) (c : Certificate) → AreFor weights r
      → IsWritten v r (weights_by weights r) c → IsFinding (Question.Certify v r weights) (Finding.Written c)
  Orphan : (r : LocalRule) (orphan : Option (List ℕ)) → IsOrphanPart r orphan → IsFinding (Question.Orphan r) (Finding.Orphan orphan)
  Number : (r : LocalRule) → IsFinding (Question.Number r) (Finding.Number (number_found r))
  Reflect : (r : LocalRule) → IsRule (mirrored r) → IsFinding (Question.Reflect r) (Finding.Rule (mirrored r))
  Trim : (r g : LocalRule) → IsTrimmed r g → IsRule g → IsFinding (Question.Trim r) (Finding.Rule g)
  Shift : (r : LocalRule) (by : ℤ) → shift_fault r by ≡ None → IsRule (shifted r by) → IsFinding (Question.Shift r by) (Finding.Rule (shifted r by))
  Widen : (r : LocalRule) (width : ℕ) (g : LocalRule) → widen_fault r width ≡ None → IsWidened r width g → IsRule g
      → IsFinding (Question.Widen r width) (Finding.Rule g)
  Permute : (r : LocalRule) (letters : List ℕ) (g : LocalRule) → IsRecolouring r.states letters → IsRecoloured letters r g → g.offset ≡ r.offset → IsRule g
      → IsFinding (Question.Permute r letters) (Finding.Rule g)
  Compose : (r s g : LocalRule) → compose_fault r s ≡ None → IsComposed r s g → IsRule g → IsFinding (Question.Compose r s) (Finding.Rule g)
  Least : (r : LocalRule) (mirror : Bool) (g : LocalRule) → r.states ≤ 6 → IsLeastOfClass r mirror g → IsRule g → IsFinding (Question.Least r) (Finding.Rule g)
  Lift : (r : LocalRule) → lift_fault r ≡ None → IsRule (lifted r) → IsFinding (Question.Lift r) (Finding.Rule (lifted r))
  Unlift : (r : LocalRule) → lift_fault r ≡ None → IsRule (unlifted r) → IsFinding (Question.Unlift r) (Finding.Rule (unlifted r))
  Inverse : (r : LocalRule) (n c : ℕ) (g : WindowMap) (rule : Option LocalRule) → IsInverseFound r n c g rule
      → IsFinding (Question.Inverse r) (Finding.Inverse n c g rule)
  Language : (r : LocalRule) (m : Automaton) → IsLeastAutomaton r m → IsFinding (Question.Language r) (Finding.Language m)
  Same : (r s : LocalRule) (word : Option (List ℕ)) → r.states ≡ s.states → IsSameFound r s word → IsFinding (Question.Same r s) (Finding.Same word)
  Erase : (r : LocalRule) (pair : Option (List ℕ × List ℕ)) → IsErasedFound r pair → IsFinding (Question.Erase r) (Finding.Erased pair)
  Preimage : (r : LocalRule) (t : TailConfig) (p : PlacedConfig) → tail_fault r.states t ≡ None → IsFrom r t p → IsFinding (Question.Preimage r t) (Finding.Preimage p)
  Gap : (r : LocalRule) (t : TailConfig) (before after : ℕ) (w : List ℕ) → tail_fault r.states t ≡ None → IsGap r t before after w
      → IsFinding (Question.Preimage r t) (Finding.Gap before after w)
  Summary : (rules : List LocalRule) (counts : Counts) → AreCounts rules counts → IsFinding (Question.Summary rules) (Finding.Summary counts)
  Classes : (rules leasts : List LocalRule) (counts : Counts) → AreCounts rules counts → AreLeastRules rules leasts
      → IsFinding (Question.Classes rules) (Finding.Classes counts (length leasts))

-- the cause is right: it is why the question has no finding
pub data IsCauseFor : Question → Cause → Type 0 where
  Report : (r : LocalRule) (weights : List ℕ) → length weights ≢ r.states → IsCauseFor (Question.Report r (Some weights)) Cause.Weights
  Written : (v : CertVersion) (r : LocalRule) (weights : List ℕ) → length weights ≢ r.states → IsCauseFor (Question.Certify v r (Some weights)) Cause.Weights
  Shift : (r : LocalRule) (by : ℤ) (f : AlgebraFault) → shift_fault r by ≡ Some f → IsCauseFor (Question.Shift r by) (Cause.Algebra f)
  Widen : (r : LocalRule) (width : ℕ) (f : AlgebraFault) → widen_fault r width ≡ Some f → IsCauseFor (Question.Widen r width) (Cause.Algebra f)
  Permute : (r : LocalRule) (letters : List ℕ) → ¬ IsRecolouring r.states letters → IsCauseFor (Question.Permute r letters) (Cause.Algebra algebra.NotPermutation)
  Compose : (r s : LocalRule) (f : AlgebraFault) → compose_fault r s ≡ Some f → IsCauseFor (Question.Compose r s) (Cause.Algebra f)
  Least : (r : LocalRule) → 7 ≤ r.states → IsCauseFor (Question.Least r) Cause.Colours
  Lift : (r : LocalRule) (f : LiftFault) → lift_fault r ≡ Some f → IsCauseFor (Question.Lift r) (Cause.Lift f)
  Unlift : (r : LocalRule) (f : LiftFault) → lift_fault r ≡ Some f → IsCauseFor (Question.Unlift r) (Cause.Lift f)
  Twins : (r : LocalRule) (x y : List ℕ) → ¬ IsInjective r → IsLeastTwins r x y → IsCauseFor (Question.Inverse r) (Cause.Twins x y)
  Wide : (r : LocalRule) (n c : ℕ) → IsLeastDetermined r n c → 65536 < r.states ^ n → IsCauseFor (Question.Inverse r) (Cause.Wide n)
  Tail : (r : LocalRule) (t : TailConfig) (f : TailFault) → tail_fault r.states t ≡ Some f → IsCauseFor (Question.Preimage r t) (Cause.Tail f)
  States : (r s : LocalRule) → r.states ≢ s.states → IsCauseFor (Question.Same r s) Cause.States
