-- What the judge accepts is true: each verdict of a certificate that meets the conditions, a yes and a no alike.
use Rattle.std.proofs.Common.{Bool, true, false, refl, sym, subst, List, ℕ, slice_index, ◌↔◌, ◌&&◌, IsTrue}
use Rattle.word_image.proofs.Common.{false≢true}
use Rattle.rule_text.proofs.laws.AcceptedRules.{IsRule-text}
use Rattle.cert_values.proofs.Common.{Certificate, IsShaped, IsCertificateText, IsWeightShape-has}
use Rattle.cert_conditions.specs.declared.condition.Condition.TheVariants.{SideClaims, FullListed, NoneEmpty, Closed, FirstsListed, OffDiagonal, PairsClosed, OrphanRead, WindowClaims, TwinsAlike, SideAhead, SideSplit, FluxFlows, RingLossy}
use Rattle.word_image.specs.declared.side.Side.TheVariants.{Right, Left}
use Rattle.cert_conditions.specs.declared.verdicts.Verdicts.{Verdicts}
use Rattle.cert_conditions.specs.Conditions.{MeetsConditions}
use Rattle.cert_conditions.specs.Accepted.{IsAccepted, AreTrue, verdicts_of}
use Rattle.cert_conditions.proofs.laws.SurjectiveConditions.{IsSurjective-said}
use Rattle.cert_conditions.proofs.laws.ClaimConditions.{IsInjective-said, IsRightClosing-said, IsLeftClosing-said}
use Rattle.cert_conditions.proofs.laws.SumConditions.{IsConserving-said}

-- two verdicts together are yes exactly where both things are true
pub both_true : {A B : Type 0} (a b : Bool) → IsTrue a ↔ A → IsTrue b ↔ B → IsTrue (a && b) ↔ (A × B)
both_true true true first second = ((λ _. (first.0 refl, second.0 refl)), (λ _. refl))
both_true true false first second = ((λ no. absurd (false≢true no)), (λ both. second.1 both.1))
both_true false b first second = ((λ no. absurd (false≢true no)), (λ both. first.1 both.0))

-- the verdicts of a certificate within its limits that meets the conditions are true of its rule
pub AreTrue-meets : {c : Certificate} → IsShaped c → MeetsConditions c → AreTrue (verdicts_of c)
AreTrue-meets {c} shaped meets =
    let right = IsRightClosing-said shaped.rule c.forward (meets (SideClaims Right)) c.right shaped.right (meets (SideAhead Right)) (meets (SideSplit Right)) in
    let left = IsLeftClosing-said shaped.rule c.backward (meets (SideClaims Left)) c.left shaped.left (meets (SideAhead Left)) (meets (SideSplit Left)) in
    record {
      surjective = IsSurjective-said shaped.rule c.version c.surjective shaped.surjective (meets FullListed) (meets NoneEmpty) (meets Closed)
          (meets FirstsListed) (meets OffDiagonal) (meets PairsClosed) (meets OrphanRead);
      injective = IsInjective-said shaped.rule c.forward c.backward (meets (SideClaims Right)) (meets (SideClaims Left)) c.injective shaped.injective (meets WindowClaims) (meets TwinsAlike);
      right = right;
      left = left;
      open_ = both_true _ _ right left;
      conserving = IsConserving-said shaped.rule (slice_index c.weights) c.conserving shaped.conserving (meets FluxFlows) (meets RingLossy);
    }

-- what bytes say as a certificate is within its limits
pub IsShaped-text : {bytes : List ℕ} {c : Certificate} → IsCertificateText bytes c → IsShaped c
IsShaped-text {c = c} h =
    let rule = IsRule-text h.rule in
    let parts = h.parts in
    record {
      rule = rule;
      surjective = parts.surjective.1;
      injective = parts.injective.1;
      right = parts.right.1;
      left = parts.left.1;
      conserving = parts.conserving.1;
      weights = IsWeightShape-has rule parts.weights;
      forward = parts.ranks.1;
      backward = parts.ranks.2;
    }

-- what is accepted is true
pub AreTrue-accepted : {bytes : List ℕ} {v : Verdicts} → IsAccepted bytes v → AreTrue v
AreTrue-accepted h = subst AreTrue (sym h.verdicts) (AreTrue-meets (IsShaped-text h.text) h.meets)
