-- Steps of pairs with the letters that a trim takes.
use Rattle.std.proofs.Common.{◌≡◌, ℕ, Some, ◌+◌, ◌<◌, ◌↔◌, refl}
use Rattle.word_image.proofs.Common.{LocalRule, IsRule, pair_count, follow_on, PairGoes}
use Rattle.word_image.specs.declared.side.Side.{Side}
use Rattle.pair_laws.proofs.Common.{PairGoes-step, PairGoes-push, LeadsOn-follows}

-- a pair goes on for n + 1 exactly where some letters lead from it to one that does for n
pub PairGoes-steps : (side : Side) {r : LocalRule} → IsRule r → (p n : ℕ) → p < pair_count r
    → PairGoes side r p (n + 1) ↔ ((a : ℕ) × (b : ℕ) × (q : ℕ) × (a < r.states) × (b < r.states) × (follow_on side r p a b ≡ Some q) × PairGoes side r q n)
PairGoes-steps side rule p n inside = (
  (λ h.
      let (q, step, goes) = PairGoes-step side rule p n (n + 1) refl h in
      let (a, b, in_a, in_b, leads) = (LeadsOn-follows side rule p q inside).0 step in
      (a, b, q, in_a, in_b, leads, goes)),
  (λ (a, b, q, in_a, in_b, leads, goes). PairGoes-push side rule p q n (n + 1) refl ((LeadsOn-follows side rule p q inside).1 (a, b, in_a, in_b, leads)) goes),
)
