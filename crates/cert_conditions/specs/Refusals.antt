-- The judge checks certificates. It refuses bytes if they have a fault and aren't the text of a certificate, or if the
-- certificate doesn't meet some condition. This file defines the refusal, which names the first such fault or condition,
-- and the first place at which the condition isn't met.
use Rattle.std.specs.Prelude.{◌≡◌, ◌≢◌, ℕ, ◌^◌, ◌≤◌, List, length, slice_index, Contains, ℤ}
use Rattle.word_image.specs.LocalRules.{LocalRule, word_of}
use Rattle.word_image.specs.Rings.{ring_image}
use Rattle.word_image.specs.Graphs.{full_set, first_of, second_of, pair_count}
use Rattle.tail_config.specs.Tails.{TailConfig, Different, ShareImage}
use Rattle.cert_values.specs.Certificates.{Certificate}
use Rattle.cert_values.specs.Evidence.{Sets, Pairs, Orphan, Window, Twins, Ahead, Split, Flux, Ring}
use Rattle.cert_values.specs.CertificateTexts.{IsCertificateText}
use Rattle.cert_values.specs.ShapeFaults.{IsShapeFault, IsFirstWithout}
use Rattle.cert_values.specs.declared.shape_fault.ShapeFault.{ShapeFault}
use Rattle.cert_conditions.specs.declared.condition.Condition.{Condition}
use Rattle.cert_conditions.specs.declared.condition.Condition.TheVariants as condition
use Rattle.word_image.specs.declared.side.Side.{Side}
use Rattle.word_image.specs.FirstPairs.{IsFirstOf}
use Rattle.cert_conditions.specs.declared.refusal.TwinCause.{TwinCause}
use Rattle.cert_conditions.specs.declared.refusal.TwinCause.TheVariants as twin
use Rattle.cert_conditions.specs.declared.refusal.SplitCause.{SplitCause}
use Rattle.cert_conditions.specs.declared.refusal.SplitCause.TheVariants as split
use Rattle.cert_conditions.specs.declared.refusal.Refusal.{Refusal}
use Rattle.cert_conditions.specs.declared.refusal.Refusal.TheVariants as refusal
use Rattle.cert_conditions.specs.Breaches.{EachBelow, IsFirstBreach}
use Rattle.cert_conditions.specs.Claims.{Falls, IsWindowPair, IsAheadPair}
use Rattle.cert_conditions.specs.Sets.{StepIsKept, LeadsTo}
use Rattle.cert_conditions.specs.Pairs.{FirstIsListed, StepsAreListed, IsFirstLeaving}
use Rattle.cert_conditions.specs.Sides.{AgreeBehind, claims_on, evidence_on}
use Rattle.cert_conditions.specs.Sums.{Flows, IsLossy}
use Rattle.cert_conditions.specs.Conditions.{conditions, Holds}

-- the reason why two words aren't twins: they don't have the same length, or are empty, or are equal, or their rings have different images
pub data IsTwinsBreach (r : LocalRule) (x y : List ℕ) : TwinCause → Type 0 where
  Length : ¬ ((length x ≡ length y) × (1 ≤ length x)) → IsTwinsBreach r x y twin.Length
  Same : length x ≡ length y → 1 ≤ length x → x ≡ y → IsTwinsBreach r x y twin.Same
  Image : length x ≡ length y → 1 ≤ length x → x ≢ y → ring_image r x ≢ ring_image r y → IsTwinsBreach r x y twin.Image

-- the reason why two configurations aren't a split: they are equal, or they don't agree as `Agree` asks, or their images differ
pub data IsSplitBreach (r : LocalRule) (Agree : TailConfig → TailConfig → Type 0) (x y : TailConfig) : SplitCause → Type 0 where
  Same : ¬ Different x y → IsSplitBreach r Agree x y split.Same
  Apart : Different x y → ¬ Agree x y → IsSplitBreach r Agree x y split.Apart
  Image : Different x y → Agree x y → ¬ ShareImage r x y → IsSplitBreach r Agree x y split.Image

-- the condition isn't met; the refusal names the first pair, place, letter, window or cause for which it isn't met
pub data IsBreach (c : Certificate) : Condition → Refusal → Type 0 where
  Rising : (side : Side) (p : ℕ) → IsFirstBreach (pair_count c.rule) (Falls side c.rule (claims_on c side)) p → IsBreach c (condition.SideClaims side) (refusal.Rank side p)
  NoFull : (sets : List ℕ) → c.surjective ≡ Sets sets → ¬ Contains sets (full_set c.rule) → IsBreach c condition.FullListed refusal.NoFull
  Empty : (sets : List ℕ) (i : ℕ) → c.surjective ≡ Sets sets → IsFirstBreach (length sets) (λ i. slice_index sets i ≢ 0) i → IsBreach c condition.NoneEmpty (refusal.EmptySet i)
  NotClosed : (sets : List ℕ) (i a : ℕ) → c.surjective ≡ Sets sets
      → IsFirstBreach (length sets) (λ i. EachBelow c.rule.states (StepIsKept c.version c.rule sets (slice_index sets i))) i
      → IsFirstBreach c.rule.states (StepIsKept c.version c.rule sets (slice_index sets i)) a → IsBreach c condition.Closed (refusal.NotClosed i a)
  NoFirst : (pairs : List ℕ) (p : ℕ) → c.surjective ≡ Pairs pairs → IsFirstBreach (pair_count c.rule) (FirstIsListed c.rule pairs) p → IsBreach c condition.FirstsListed (refusal.NoFirst p)
  Diagonal : (pairs : List ℕ) (i : ℕ) → c.surjective ≡ Pairs pairs
      → IsFirstBreach (length pairs) (λ i. first_of c.rule (slice_index pairs i) ≢ second_of c.rule (slice_index pairs i)) i → IsBreach c condition.OffDiagonal (refusal.Diagonal i)
  Leaves : (pairs : List ℕ) (i a b : ℕ) → c.surjective ≡ Pairs pairs
      → IsFirstBreach (length pairs) (λ i. StepsAreListed c.rule pairs (slice_index pairs i)) i
      → IsFirstLeaving c.rule pairs (slice_index pairs i) a b → IsBreach c condition.PairsClosed (refusal.Leaves i a b)
  NoOrphan : (w : List ℕ) → c.surjective ≡ Orphan w → ¬ LeadsTo c.rule (full_set c.rule) w 0 → IsBreach c condition.OrphanRead refusal.Orphan
  NoWindow : (n at p : ℕ) → c.injective ≡ Window n at → IsFirstBreach (pair_count c.rule) (IsWindowPair c.rule c.forward c.backward n at) p
      → IsBreach c condition.WindowClaims (refusal.Window p)
  NoTwins : (x y : List ℕ) (cause : TwinCause) → c.injective ≡ Twins x y → IsTwinsBreach c.rule x y cause → IsBreach c condition.TwinsAlike (refusal.Twins cause)
  NoAhead : (side : Side) (n p : ℕ) → evidence_on c side ≡ Ahead n → IsFirstBreach (pair_count c.rule) (IsAheadPair (IsFirstOf side c.rule) (claims_on c side) n) p
      → IsBreach c (condition.SideAhead side) (refusal.Ahead side p)
  NoSplit : (side : Side) (x y : TailConfig) (cause : SplitCause) → evidence_on c side ≡ Split x y → IsSplitBreach c.rule (AgreeBehind side) x y cause
      → IsBreach c (condition.SideSplit side) (refusal.Split side cause)
  NoFlux : (phi : List ℤ) (v : ℕ) → c.conserving ≡ Flux phi
      → IsFirstBreach (c.rule.states ^ c.rule.width) (λ v. Flows (slice_index c.weights) c.rule phi (word_of c.rule.states c.rule.width v)) v → IsBreach c condition.FluxFlows (refusal.Flux v)
  NoRing : (p : List ℕ) → c.conserving ≡ Ring p → ¬ IsLossy (slice_index c.weights) c.rule p → IsBreach c condition.RingLossy refusal.Ring

-- the refusal f names the first condition that the certificate doesn't meet, and the first place at which it doesn't
pub record IsFirstUnmet (c : Certificate) (f : Refusal) : Type 0 where
  pub unmet : Condition
  pub first : IsFirstWithout (Holds c) conditions unmet
  pub breach : IsBreach c unmet f

-- why the bytes are refused: they aren't the text of a certificate, or they are the text of a certificate that doesn't meet a condition
pub data IsRefusal (bytes : List ℕ) : Refusal → Type 0 where
  NoShape : (f : ShapeFault) → IsShapeFault bytes f → IsRefusal bytes (refusal.Format f)
  Unmet : (c : Certificate) (f : Refusal) → IsCertificateText bytes c → IsFirstUnmet c f → IsRefusal bytes f
