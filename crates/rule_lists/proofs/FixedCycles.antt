-- What walks by fixed letters show of each rule that has these letters.
use Rattle.std.proofs.Common.{◌≡◌, ◌≢◌, ℕ, zero, suc, ◌+◌, ◌<◌, List, refl, subst, arith}
use Rattle.word_image.proofs.Common.{LocalRule, IsRule, first_of, second_of, pair_count, PairStep, LeadsOn, PairGoes, IsFirstOf, other, IsEndless}
use Rattle.word_image.specs.declared.side.Side.{Side}
use Rattle.word_image.specs.declared.side.Side.TheVariants.{Right, Left}
use Rattle.pair_laws.proofs.Common.{first_of-below, second_of-below, IsFirstOf-step, PairGoes-push, PairGoes-less, Together-zero}
use Rattle.garden_laws.specs.ReachedPairs.{IsReached}
use Rattle.tail_laws.proofs.Common.{IsClosing, not_closing}
use Rattle.rule_lists.specs.EndlessPairs.{FixedLeadsOn}
use Rattle.rule_lists.specs.FixedWalks.{IsBefore, IsFixedWalk, IsFixedCycle, ComesAfterFirst}
use Rattle.rule_lists.proofs.Sure.{is_shaped}
use Rattle.rule_lists.proofs.FixedSteps.{LeadsOn-fixed}

-- what comes after a pair comes after each pair that is before this one
IsBefore-then : {side : Side} {s : LocalRule} {p q z : ℕ} → IsBefore side s p q → IsBefore side s q z → IsBefore side s p z
IsBefore-then a b = record { on = λ n h. a.on n (b.on n h); back = λ n h. b.back n (a.back n h); reached = λ right h. b.reached right (a.reached right h) }

-- a step on one side is a step back on the other
LeadsOn-other : (side : Side) (s : LocalRule) (p q : ℕ) → LeadsOn side s p q → LeadsOn (other side) s q p
LeadsOn-other Right s p q step = step
LeadsOn-other Left s p q step = step

-- a pair that steps on to a pair comes before it
IsBefore-step : (side : Side) {s : LocalRule} → IsRule s → (p q : ℕ) → LeadsOn side s p q → IsBefore side s p q
IsBefore-step side {s} rule p q step = record {
  on = λ n h. PairGoes-less side rule p n (n + 1) (omega arith) (PairGoes-push side rule p q n (n + 1) refl step h);
  back = λ n h. PairGoes-less (other side) rule q n (n + 1) (omega arith) (PairGoes-push (other side) rule q p n (n + 1) refl (LeadsOn-other side s p q step) h);
  reached = λ right h. let on : PairStep s p q = subst (λ x. LeadsOn x s p q) right step in IsReached.On p on.a on.b q h on.a_letter on.b_letter on.follows;
}

-- a walk, and one step more before it or behind it
pub walk-after : (side : Side) (r : LocalRule) (letters : List ℕ) (p q z : ℕ) → IsRule r → IsFixedWalk side r letters p q
    → FixedLeadsOn side r letters q z → IsFixedWalk side r letters p z
walk-after side r letters p q z rule walk step s h = IsBefore-then (walk s h) (IsBefore-step side h.rule q z (LeadsOn-fixed side r s letters rule h q z step))

pub walk-from : (side : Side) (r : LocalRule) (letters : List ℕ) (p q z : ℕ) → IsRule r → FixedLeadsOn side r letters p q
    → IsFixedWalk side r letters q z → IsFixedWalk side r letters p z
walk-from side r letters p q z rule step walk s h = IsBefore-then (IsBefore-step side h.rule p q (LeadsOn-fixed side r s letters rule h p q step)) (walk s h)

-- a pair that goes on for one more wherever it goes on does for ever
goes_ever : (side : Side) {s : LocalRule} → IsRule s → (p : ℕ) → p < pair_count s → ((n : ℕ) → PairGoes side s p n → PairGoes side s p (suc n))
    → IsEndless (PairGoes side s p)
goes_ever side {s} rule p below more zero = Together-zero side s (first_of s p) (second_of s p) (first_of-below rule p below) (second_of-below rule p)
goes_ever side rule p below more (suc n) = more n (goes_ever side rule p below more n)

-- a pair to which a walk leads back goes on for ever on both sides
pub IsFixedCycle-closed : (side : Side) (r : LocalRule) (letters : List ℕ) (p q : ℕ) → IsRule r → p < pair_count r → IsFixedWalk side r letters p q
    → FixedLeadsOn side r letters q p → IsFixedCycle r letters p
IsFixedCycle-closed side r letters p q rule inside walk step s h =
    let w : IsBefore side s p q = walk s h in
    let below : p < pair_count s = grind arith in
    let on : LeadsOn side s q p = LeadsOn-fixed side r s letters rule h q p step in
    each (λ to. IsEndless (PairGoes to s p)) side
    (goes_ever side h.rule p below (λ n goes. w.on (suc n) (PairGoes-push side h.rule q p n (suc n) (omega arith) on goes)))
    (goes_ever (other side) h.rule p below (λ n goes. PairGoes-push (other side) h.rule p q n (suc n) (omega arith) (LeadsOn-other side s q p on) (w.back n goes)))
  where
    each : (P : Side → Type 0) (side : Side) → P side → P (other side) → (to : Side) → P to
    each P Right here there Right = here
    each P Right here there Left = there
    each P Left here there Left = here
    each P Left here there Right = there

-- a walk that begins with a step from a pair of two equal nodes to two different ones shows a first pair
pub ComesAfterFirst-step : (side : Side) (r : LocalRule) (letters : List ℕ) (p q z : ℕ) → IsRule r → first_of r p ≡ second_of r p
    → first_of r q ≢ second_of r q
    → FixedLeadsOn side r letters p q → IsFixedWalk side r letters q z → ComesAfterFirst side r letters z
ComesAfterFirst-step side r letters p q z rule one different step walk s h =
    let nodes = subst (λ x. (first_of x p ≡ second_of x p) × (first_of x q ≢ second_of x q)) (is_shaped r s letters h) (one, different) in
    (q, IsFirstOf-step side h.rule p q nodes.0 nodes.1 (LeadsOn-fixed side r s letters rule h p q step), walk s h)

-- a pair that comes after a first one and goes on for ever rules out that the rule closes
pub IsClosing-after_first : (side : Side) {s : LocalRule} (p q : ℕ) → IsRule s → IsFirstOf side s q → IsBefore side s q p → IsEndless (PairGoes side s p)
    → ¬ IsClosing side s
IsClosing-after_first side p q rule first before goes = not_closing side rule (q, first, λ n. before.on n (goes n))
