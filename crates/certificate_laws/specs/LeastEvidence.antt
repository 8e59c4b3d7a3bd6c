-- A report on a rule has five verdicts, each with evidence. This file defines when the evidence is right: each verdict
-- is true, and its evidence is the least of its kind.
use Rattle.std.specs.Prelude.{◌≡◌, ℕ, List, slice_get, Option, Some, None, pos}
use Rattle.word_image.specs.LocalRules.{LocalRule, mirrored}
use Rattle.word_image.specs.Words.{IsSurjective, IsLeastOrphan}
use Rattle.word_image.specs.Rings.{IsConserving, IsFlux, IsLeastLossyRing, IsLeastTwins}
use Rattle.word_image.specs.Windows.{IsLeastDetermined, IsLeastRightAhead}
use Rattle.tail_config.specs.Tails.{IsInjective, IsRightClosing, IsLeftClosing}
use Rattle.tail_config.specs.Splits.{IsLeastRightSplit, IsLeastLeftSplit}
use Rattle.cert_values.specs.Evidence.{InjectiveEvidence, SideEvidence, SumEvidence, Window, Twins, Ahead, Split, Flux, Ring}

-- the evidence about a rule with weights: the orphan, or None if the rule is surjective, and for four more properties evidence that the rule has it or doesn't have it
pub record Evidence : Type 0 where
  pub rule : LocalRule
  pub weights : List ℕ
  pub orphan : Option (List ℕ)
  pub injective : InjectiveEvidence
  pub right : SideEvidence
  pub left : SideEvidence
  pub conserving : SumEvidence

-- if there is no orphan, the rule is surjective; if there is one, it is the least orphan of the rule
abbrev pub IsOrphanPart : LocalRule → Option (List ℕ) → Type 0
IsOrphanPart r None = IsSurjective r
IsOrphanPart r (Some w) = IsLeastOrphan r w

-- if the evidence is a window, the rule is injective and this is its least determined window; if it is twins, the rule isn't injective and these are its least twins
abbrev pub IsInjectivePart : LocalRule → InjectiveEvidence → Type 0
IsInjectivePart r (Window n c) = IsInjective r × IsLeastDetermined r n c
IsInjectivePart r (Twins x y) = ¬ IsInjective r × IsLeastTwins r x y

-- if the evidence is a look-ahead, the rule is right-closing and this is its least look-ahead; if it is a split, the rule isn't right-closing and this is its least normal right split
abbrev pub IsRightPart : LocalRule → SideEvidence → Type 0
IsRightPart r (Ahead n) = IsRightClosing r × IsLeastRightAhead r n
IsRightPart r (Split x y) = ¬ IsRightClosing r × IsLeastRightSplit r x y

-- if the evidence is a look-ahead, the rule is left-closing and this is its least look-ahead; if it is a split, the rule isn't left-closing and this is its least normal left split
abbrev pub IsLeftPart : LocalRule → SideEvidence → Type 0
IsLeftPart r (Ahead n) = IsLeftClosing r × IsLeastRightAhead (mirrored r) n
IsLeftPart r (Split x y) = ¬ IsLeftClosing r × IsLeastLeftSplit r x y

-- if the evidence is a flux, the rule is conserving and the flux is 0 at node 0; if it is a ring, the rule isn't conserving and this is the least ring that doesn't keep its sum
abbrev pub IsConservingPart : (ℕ → ℕ) → LocalRule → SumEvidence → Type 0
IsConservingPart weight r (Flux phi) = IsConserving weight r × IsFlux weight r phi × (slice_get phi 0 ≡ Some (pos 0))
IsConservingPart weight r (Ring p) = ¬ IsConserving weight r × IsLeastLossyRing weight r p

-- the evidence is right: each verdict is true of the rule r, and its evidence is the least
pub record IsLeastEvidence (weight : ℕ → ℕ) (r : LocalRule) (e : Evidence) : Type 0 where
  pub rule : e.rule ≡ r
  pub surjective : IsOrphanPart r e.orphan
  pub injective : IsInjectivePart r e.injective
  pub right : IsRightPart r e.right
  pub left : IsLeftPart r e.left
  pub conserving : IsConservingPart weight r e.conserving
