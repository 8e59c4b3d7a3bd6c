-- Properties that fixed letters rule out.
use Rattle.std.proofs.Common.{◌≡◌, ℕ, List, refl, sym, subst, arith}
use Rattle.word_image.proofs.Common.{LocalRule, IsRule, first_of, second_of, PairGoes}
use Rattle.word_image.specs.declared.side.Side.{Side}
use Rattle.word_image.specs.declared.side.Side.TheVariants.{Right, Left}
use Rattle.pair_laws.proofs.Common.{with_end, end_pair, IsFirst-ends}
use Rattle.garden_laws.specs.ReachedPairs.{IsReached}
use Rattle.garden_laws.proofs.ReachedPairs.{IsSurjective-reached}
use Rattle.tail_laws.proofs.Common.{IsClosing, not_closing}
use Rattle.rule_lists.specs.Completions.{IsCompletion, RulesOutSurjective}
use Rattle.rule_lists.specs.EndlessPairs.{AreEndlessOn, IsFixedEndless}
use Rattle.rule_lists.specs.Reached.{IsFixedReached}
use Rattle.rule_lists.specs.Reached.IsFixedReached.{First, On}
use Rattle.rule_lists.proofs.Sure.{shaped, is_shaped, IsRule-shaped}
use Rattle.rule_lists.proofs.FixedSteps.{PairStep-fixed, IsFirstOfRight-fixed, PairGoes-fixed}

-- what fixed letters lead to is reached
IsReached-fixed : (r s : LocalRule) (letters : List ℕ) → IsRule r → IsCompletion r.states r.width letters s → {p : ℕ} → IsFixedReached r letters p
    → IsReached s p
IsReached-fixed r s letters rule h (First p first) = IsReached.First p (IsFirstOfRight-fixed r s letters rule h p first)
IsReached-fixed r s letters rule h (On p q before step) =
    let on = PairStep-fixed r s letters rule h p q step in
    IsReached.On p on.a on.b q (IsReached-fixed r s letters rule h before) on.a_letter on.b_letter on.follows

-- where a pair of two equal nodes is reached in each rule that has the letters, none of them is surjective
pub RulesOutSurjective-reached : (r : LocalRule) (letters : List ℕ) (p : ℕ) → ((s : LocalRule) → IsCompletion r.states r.width letters s → IsReached s p)
    → first_of r p ≡ second_of r p → RulesOutSurjective r.states r.width letters
RulesOutSurjective-reached r letters p reached one s h surjective = grind (arith, IsSurjective-reached)

-- where fixed letters lead to a pair of two equal nodes, no rule that has them is surjective
pub RulesOutSurjective-fixed : (r : LocalRule) (letters : List ℕ) (p : ℕ) → IsRule r → IsFixedReached r letters p → first_of r p ≡ second_of r p
    → RulesOutSurjective r.states r.width letters
RulesOutSurjective-fixed r letters p rule is = RulesOutSurjective-reached r letters p (λ s h. IsReached-fixed r s letters rule h is)

-- the window with another letter at its end, and the pair of both ends, are those that the shape gives
with_end-shaped : (side : Side) (r s : LocalRule) (w a : ℕ) → with_end side (shaped r s) w a ≡ with_end side r w a
with_end-shaped Right r s w a = refl
with_end-shaped Left r s w a = refl

end_pair-shaped : (side : Side) (r s : LocalRule) (w a : ℕ) → end_pair side (shaped r s) w a ≡ end_pair side r w a
end_pair-shaped Right r s w a = refl
end_pair-shaped Left r s w a = refl

-- two windows with one fixed letter whose ends go on and on bar that a rule closes
pub RulesOutClosing-endless : (side : Side) (r s : LocalRule) (letters : List ℕ) (Set : ℕ → Type 0) (w a : ℕ) → IsRule r → AreEndlessOn side r letters Set
    → IsFixedEndless side r letters Set w a
    → IsCompletion r.states r.width letters s → ¬ IsClosing side s
RulesOutClosing-endless side r s letters Set w a rule endless f h =
    let t : LocalRule = shaped r s in
    let same = is_shaped r s letters h in
    let end = with_end-shaped side r s w a in
    let goes : (n : ℕ) → PairGoes side t (end_pair side t w a) n =
    λ n. subst (λ x. PairGoes side x (end_pair side t w a) n) (sym same) (PairGoes-fixed side r s letters Set rule endless h n _ (subst Set (sym (end_pair-shaped side r s w a)) f.endless)) in
    subst (λ x. ¬ IsClosing side x) same (not_closing side (IsRule-shaped r s letters h) (
      end_pair side t w a,
      IsFirst-ends side (IsRule-shaped r s letters h) w a (grind arith),
      goes,
    ))
