-- Sets that meet.
use Rattle.std.proofs.Common.{◌≢◌, ◌↔◌, ℕ, ◌^◌, ◌<◌, IsBitSet, bit_and, arith}
use Rattle.word_image.proofs.Common.{and_le_l, and_le_r, IsSetOf}
use Rattle.pair_laws.proofs.Common.{IsBitSet-apart, IsBitSet-below, IsBitSet-meet}

-- two sets meet in a node
pub sets_meet : (a b : ℕ) → b < 2 ^ 16 → (bit_and a b ≢ 0) ↔ ((v : ℕ) × IsBitSet a v × IsBitSet b v)
sets_meet a b small = (
  (λ some. IsBitSet-meet 16 a b (omega (arith, and_le_r a b)) some),
  (λ (v, first, second) none. IsBitSet-apart a b v none first second),
)

-- a set of those of which something holds meets another set exactly where it holds of one in that
pub IsSetOf-meets : {n : ℕ} {P : ℕ → Type 0} {a : ℕ} → IsSetOf n P a → (set : ℕ) → (bit_and a set ≢ 0) ↔ ((u : ℕ) × (u < n) × P u × IsBitSet set u)
IsSetOf-meets {n} {a = a} h set = (
  (λ some.
      let (u, first, second) = IsBitSet-meet n a set (let less = and_le_l a set in let small = h.within in omega arith) some in
      grind (arith, IsBitSet-below)),
  (λ (u, below, holds, bit) none. IsBitSet-apart a set u none ((h.nodes u below).1 holds) bit),
)
