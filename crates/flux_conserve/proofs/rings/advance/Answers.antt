use Rattle.std.proofs.Common.{◌≡◌, ◌+◌, ◌-◌, ◌^◌, ◌<◌, length, set, ap, arith, length-set}
use Rattle.word_image.proofs.Common.{All-set}
use Rattle.flux_conserve.proofs.Counter.{value-set_more, value-set_carry}
use Rattle.flux_conserve.proofs.rings.advance.Goals as goal

pub returns-then-word-place-clause-next : goal.returns-then-word-place-clause-next
returns-then-word-place-clause-next c = λ within.
    let w = c.loop-place.word in
    let (word, long, inside, carried) = c.loop-place.invariant in
    let more = value-set_more c.args.k w (c.loop-place.place - 1) (length w - c.loop-place.place) (omega arith) in
    omega (arith, carried, more)

pub loop-place-preserved : goal.loop-place-preserved
loop-place-preserved c =
    let k = c.args.k in
    let w = c.loop-place.word in
    let p = c.loop-place.place - 1 in
    let n = length w - c.loop-place.place in
    let (word, long, inside, carried) = c.loop-place.invariant in
    let same : length (set w p 0) ≡ length w = length-set w p 0 in
    let carry = value-set_carry k w p n (omega arith) (omega arith) in
    let after : length (set w p 0) - p ≡ n + 1 = omega arith in
    let power = ap (λ j. k ^ j) after in
    (All-set (λ a. a < k) w p 0 (omega arith) word, omega arith, omega arith, omega (arith, carried, carry, power))
