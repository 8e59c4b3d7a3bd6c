-- A question has one right finding, and where nothing fits it, one cause.
use Rattle.std.proofs.Common.{◌≡◌, refl, sym, ap, ap₂, ◌∙◌}
use Rattle.cert_values.proofs.Common.{one_some}
use Rattle.tail_laws.proofs.Common.{IsInjective-determined}
use Rattle.tail_preimage.proofs.laws.LeastPreimages.{IsLeastPreimage-unique}
use Rattle.image_minimal.proofs.laws.ClassLists.{IsLeastAutomaton-unique}
use Rattle.rule_classes.proofs.laws.Classes.{IsLeastOfClass-unique}
use Rattle.ca_questions.proofs.Common.{Question, AreRules, Finding, Cause, IsFinding, IsCauseFor}
use Rattle.answer_laws.proofs.Least.{IsLeastTwins-unique, IsLeastDetermined-unique}
use Rattle.answer_laws.proofs.Evidence.{IsOrphanPart-unique, IsLeastEvidence-unique}
use Rattle.answer_laws.proofs.Certificates.{IsWritten-unique}
use Rattle.answer_laws.proofs.Tables.{IsWidened-unique, IsTrimmed-unique, IsComposed-unique, IsRecoloured-unique}
use Rattle.answer_laws.proofs.Inverses.{IsInverseFound-unique}
use Rattle.answer_laws.proofs.Words.{IsSameFound-unique, IsErasedFound-unique, IsGap-unique}
use Rattle.answer_laws.proofs.Counts.{AreCounts-unique, length-AreLeastRules}

-- a question of accepted rules has one right finding
pub IsFinding-unique : {q : Question} {f g : Finding} → AreRules q → IsFinding q f → IsFinding q g → f ≡ g
IsFinding-unique rule (IsFinding.Report r _ e _ weights least) (IsFinding.Report _ _ f _ also other) = ap Finding.Report (IsLeastEvidence-unique rule (weights ∙ sym also) least other)
IsFinding-unique rule (IsFinding.Written v r _ c _ written) (IsFinding.Written _ _ _ d _ also) = ap Finding.Written (IsWritten-unique rule written also)
IsFinding-unique rule (IsFinding.Orphan r o part) (IsFinding.Orphan _ p also) = ap Finding.Orphan (IsOrphanPart-unique r o p part also)
IsFinding-unique rule (IsFinding.Number r) (IsFinding.Number _) = refl
IsFinding-unique rule (IsFinding.Reflect r made) (IsFinding.Reflect _ _) = refl
IsFinding-unique rule (IsFinding.Trim r g trimmed made) (IsFinding.Trim _ h also other) = ap Finding.Rule (IsTrimmed-unique rule made other trimmed also)
IsFinding-unique rule (IsFinding.Shift r by fits made) (IsFinding.Shift _ _ _ _) = refl
IsFinding-unique rule (IsFinding.Widen r width g fits widened made) (IsFinding.Widen _ _ h _ also other) = ap Finding.Rule (IsWidened-unique rule made other widened also)
IsFinding-unique rule (IsFinding.Permute r letters g fits new offset made) (IsFinding.Permute _ _ h _ also offset' other) =
    ap Finding.Rule (IsRecoloured-unique made other fits (offset ∙ sym offset') new also)
IsFinding-unique rules (IsFinding.Compose r s g fits composed made) (IsFinding.Compose _ _ h _ also other) = ap Finding.Rule (IsComposed-unique made other composed also)
IsFinding-unique rule (IsFinding.Least r mirror g few least made) (IsFinding.Least _ mirror' h _ also _) = ap Finding.Rule (IsLeastOfClass-unique rule mirror mirror' least also)
IsFinding-unique rule (IsFinding.Lift r fits made) (IsFinding.Lift _ _ _) = refl
IsFinding-unique rule (IsFinding.Unlift r fits made) (IsFinding.Unlift _ _ _) = refl
IsFinding-unique rule (IsFinding.Inverse r n c g map found) (IsFinding.Inverse _ m d h other also) = IsInverseFound-unique found also
IsFinding-unique rule (IsFinding.Language r m least) (IsFinding.Language _ n also) = ap Finding.Language (IsLeastAutomaton-unique rule least also)
IsFinding-unique rules (IsFinding.Same r s word _ found) (IsFinding.Same _ _ other _ also) = ap Finding.Same (IsSameFound-unique r s word other found also)
IsFinding-unique rule (IsFinding.Erase r pair found) (IsFinding.Erase _ other also) = ap Finding.Erased (IsErasedFound-unique r pair other found also)
IsFinding-unique rule (IsFinding.Preimage r t p _ from) (IsFinding.Preimage _ _ q _ also) = ap Finding.Preimage (IsLeastPreimage-unique from.least also.least)
IsFinding-unique rule (IsFinding.Preimage r t p _ from) (IsFinding.Gap _ _ before after w _ gap) = absurd (gap.none p from.least.preimage.maps)
IsFinding-unique rule (IsFinding.Gap r t before after w _ gap) (IsFinding.Preimage _ _ p _ from) = absurd (gap.none p from.least.preimage.maps)
IsFinding-unique rule (IsFinding.Gap r t before after w _ gap) (IsFinding.Gap _ _ before' after' z _ also) = IsGap-unique gap also
IsFinding-unique rules (IsFinding.Summary _ t counts) (IsFinding.Summary _ u also) = ap Finding.Summary (AreCounts-unique counts also)
IsFinding-unique rules (IsFinding.Classes _ leasts t counts least) (IsFinding.Classes _ others u also other) =
    ap₂ Finding.Classes (AreCounts-unique counts also) (length-AreLeastRules rules least other)

-- a question of accepted rules that nothing fits has one cause
pub IsCauseFor-unique : {q : Question} {u v : Cause} → AreRules q → IsCauseFor q u → IsCauseFor q v → u ≡ v
IsCauseFor-unique rule (IsCauseFor.Report r weights other) (IsCauseFor.Report _ _ _) = refl
IsCauseFor-unique rule (IsCauseFor.Written v r weights other) (IsCauseFor.Written _ _ _ _) = refl
IsCauseFor-unique rule (IsCauseFor.Shift r by f unfits) (IsCauseFor.Shift _ _ g also) = ap Cause.Algebra (one_some unfits also)
IsCauseFor-unique rule (IsCauseFor.Widen r width f unfits) (IsCauseFor.Widen _ _ g also) = ap Cause.Algebra (one_some unfits also)
IsCauseFor-unique rule (IsCauseFor.Permute r letters unfits) (IsCauseFor.Permute _ _ _) = refl
IsCauseFor-unique rules (IsCauseFor.Compose r s f unfits) (IsCauseFor.Compose _ _ g also) = ap Cause.Algebra (one_some unfits also)
IsCauseFor-unique rule (IsCauseFor.Least r many) (IsCauseFor.Least _ _) = refl
IsCauseFor-unique rule (IsCauseFor.Lift r f unfits) (IsCauseFor.Lift _ g also) = ap Cause.Lift (one_some unfits also)
IsCauseFor-unique rule (IsCauseFor.Unlift r f unfits) (IsCauseFor.Unlift _ g also) = ap Cause.Lift (one_some unfits also)
IsCauseFor-unique rule (IsCauseFor.Twins r x y none twins) (IsCauseFor.Twins _ u v _ also) = let (first, second) = IsLeastTwins-unique twins also in ap₂ Cause.Twins first second
IsCauseFor-unique rule (IsCauseFor.Twins r x y none twins) (IsCauseFor.Wide _ n c least wide) = absurd (none (IsInjective-determined rule least.determined))
IsCauseFor-unique rule (IsCauseFor.Wide r n c least wide) (IsCauseFor.Twins _ x y none twins) = absurd (none (IsInjective-determined rule least.determined))
IsCauseFor-unique rule (IsCauseFor.Wide r n c least wide) (IsCauseFor.Wide _ m d also _) = ap Cause.Wide (IsLeastDetermined-unique least also).0
IsCauseFor-unique rule (IsCauseFor.Tail r t f unfits) (IsCauseFor.Tail _ _ g also) = ap Cause.Tail (one_some unfits also)
IsCauseFor-unique rules (IsCauseFor.States r s differ) (IsCauseFor.States _ _ _) = refl
