-- Counts of rules, one rule more at a time.
use Rattle.std.proofs.Common.{◌≡◌, ℕ, Bool, true, false, ◌+◌, ◌≤◌, List, [], ◌∷◌, ◌++◌, length, refl, subst, arith, ◌↔◌, IsTrue}
use Rattle.word_image.proofs.Common.{from_bool, false≢true, LocalRule}
use Rattle.ca_questions.proofs.Common.{AreMany}
use Rattle.ca_questions.specs.Counts.AreMany.{None, One, Other}

-- no more rules have a property than there are
pub AreMany-le : {Has : LocalRule → Type 0} {rules : List LocalRule} {n : ℕ} → AreMany Has rules n → n ≤ length rules
AreMany-le None = omega arith
AreMany-le (One r rules n has rest) = let few = AreMany-le rest in omega arith
AreMany-le (Other r rules n lacks rest) = let few = AreMany-le rest in omega arith

-- of one rule as many have a property as its test says, 0 or 1
one_rule : {Has : LocalRule → Type 0} (r : LocalRule) (b : Bool) → (IsTrue b ↔ Has r) → AreMany Has (r ∷ []) (from_bool b)
one_rule r true is = One r [] 0 (is.0 refl) None
one_rule r false is = Other r [] 0 (λ has. false≢true (is.1 has)) None

-- of one rule more as many more have a property as its test says, 0 or 1
pub AreMany-push : {Has : LocalRule → Type 0} {rules : List LocalRule} {n : ℕ} (r : LocalRule) {b : Bool} {j : ℕ} → j ≡ from_bool b
    → (IsTrue b ↔ Has r)
    → AreMany Has rules n → AreMany Has (rules ++ r ∷ []) (n + j)
AreMany-push {Has = Has} r {b = b} one is None = subst (AreMany Has (r ∷ [])) (omega (arith, one)) (one_rule r b is)
AreMany-push {Has = Has} r {j = j} one is (One q rules n has rest) =
    subst (AreMany Has (q ∷ (rules ++ r ∷ []))) (omega arith) (One q (rules ++ r ∷ []) (n + j) has (AreMany-push r one is rest))
AreMany-push r one is (Other q rules n lacks rest) = Other q _ _ lacks (AreMany-push r one is rest)
