use Rattle.std.proofs.Common.{◌≡◌, ◌≤◌, ℕ, ◌/◌, ◌%◌, Bool, true, false, ap, arith, ◌==◌, ◌&&◌}
use Rattle.word_image.proofs.Common.{from_bool}
use Rattle.rule_verdicts.proofs.truths.Truths.from_byte.Goals as goal

-- a bit of a number
bit : (b : Bool) (n : ℕ) → n ≡ from_bool b → (n == 1) ≡ b
bit true n e = ap (λ i. i == 1) e
bit false n e = ap (λ i. i == 1) e

-- a truth value as a number is 0 or 1
small : (b : Bool) → from_bool b ≤ 1
small true = omega arith
small false = omega arith

pub returns : goal.returns
returns c t e =
    let n = c.args.byte in
    let s = small t.surjective in
    let i = small t.injective in
    let r = small t.right in
    let l = small t.left in
    let b = small (t.right && t.left) in
    let o = small t.conserving in
    let surjective = bit t.surjective (n % 2) (omega arith) in
    let injective = bit t.injective (n / 2 % 2) (omega arith) in
    let right = bit t.right (n / 4 % 2) (omega arith) in
    let left = bit t.left (n / 8 % 2) (omega arith) in
    let conserving = bit t.conserving (n / 32 % 2) (omega arith) in
    λ j. record { surjective = surjective j; injective = injective j; right = right j; left = left j; conserving = conserving j }
