-- A rule closes on a side exactly where no first pair of that side is endless.
use Rattle.std.proofs.Common.{◌==◌, ℕ, ◌/◌, ◌^◌, ◌↔◌, IsBitSet, IsTrue, bit_and}
use Rattle.word_image.proofs.Common.{LocalRule, IsRule, IsEndless, Together}
use Rattle.pair_laws.proofs.Common.{IsBitSet-test, some_ahead, end_pair, IsFirst-ends, first_ends}
use Rattle.word_image.specs.declared.side.Side.{Side}
use Rattle.tail_laws.proofs.Common.{IsClosing, closing_ahead, not_closing}
use Rattle.closing_test.specs.Sides.{IsFound}
use Rattle.closing_test.specs.EndlessFirsts.{IsEndlessWith}
use Rattle.closing_test.proofs.LookAheads.{end_pair-goes}

-- a rule is closing on a side exactly where no window has an endless first pair of the side
pub closing_windows : (side : Side) {r : LocalRule} → IsRule r → IsClosing side r ↔ ((w a : ℕ) → ¬ IsEndlessWith side r w a)
closing_windows side {r} rule = (
  λ closing w a h. not_closing side rule (end_pair side r w a, IsFirst-ends side rule w a h.first, h.endless) closing,
  λ none. (closing_ahead side rule).1 ((some_ahead side rule).1 (λ p first endless.
      let (w, a, here, pair) = first_ends side rule first in none w a (record { first = here; endless = rw (← pair) endless }))),
)

-- the bit of the second node in the row of the first tells
pub IsEndlessWith-bit : (side : Side) (r : LocalRule) (w a u v row : ℕ) → IsFound side r w a u v → (IsBitSet row v ↔ IsEndless (Together side r u v))
    → IsTrue (bit_and (row / 2 ^ v) 1 == 1) ↔ IsEndlessWith side r w a
IsEndlessWith-bit side r w a u v row found exact =
    let test = IsBitSet-test row v in (
      (λ one. let endless = exact.0 (test.0 one) in record { first = found.first; endless = λ n. (end_pair-goes side r w a u v n found.ends).1 (endless n) }),
      (λ h. test.1 (exact.1 (λ n. (end_pair-goes side r w a u v n found.ends).0 (h.endless n)))),
    )
