-- Words of which there are at most 16 have at most 4 letters.
use Rattle.std.proofs.Common.{◌≡◌, ℕ, suc, ◌+◌, ◌*◌, ◌^◌, ◌<◌, ◌≤◌, ap, ◌∙◌, arith, pow-suc}
use Rattle.word_image.proofs.Common.{pow-le-pow_left, pow-le-pow_right, LocalRule, IsRule}

-- a power grows with its base and with its exponent
pub pow-le-pow : (b e base top : ℕ) → b ≤ base → e ≤ top → 1 ≤ base → b ^ e ≤ base ^ top
pow-le-pow b e base top one two some =
    let first : b ^ e ≤ base ^ e = pow-le-pow_left one e in
    grind (arith, pow-le-pow_right)

-- a power that is at most 16 has a small exponent
pub exponent : (b c k n : ℕ) → 1 ≤ b → b ≤ k → 16 < b ^ c → k ^ n ≤ 16 → n < c
exponent b c k n some least more few = grind (arith, pow-le-pow)

-- words of which there are at most 16 have at most 4 letters
pub few : (k range : ℕ) → 2 ≤ k → k ^ range ≤ 16 → range ≤ 4
few k range some most = let less = exponent 2 5 k range (omega arith) some (omega arith) most in omega arith

-- one power more
pub pow-next : (k n : ℕ) → k ^ (n + 1) ≡ k ^ n * k
pow-next k n = let next : n + 1 ≡ suc n = omega arith in ap (λ e. k ^ e) next ∙ pow-suc k n

-- where there are at most sixteen words of `range` letters, the width and the range together are at most 9
pub short : {r : LocalRule} → IsRule r → (range : ℕ) → r.states ^ range ≤ 16 → r.width + range ≤ 9
short {r} rule range most = omega (arith, few r.states range rule.shape.least_states most)
