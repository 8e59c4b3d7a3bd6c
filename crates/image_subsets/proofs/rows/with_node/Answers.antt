use Rattle.std.proofs.Common.{◌≡◌, ℕ, ◌+◌, ◌-◌, ◌*◌, ◌%◌, ◌^◌, ◌<◌, IsBitSet, arith}
use Rattle.word_image.proofs.Common.{one_shl, bit_set_by_shift, pow_below}
use Rattle.image_subsets.proofs.RowMarks.{pow-le, with_low_node, with_high_node, with_no_node}
use Rattle.image_subsets.proofs.rows.with_node.Goals as goal

pub overflow_shl-result-then-u-lt-LOW_NODES : goal.overflow_shl-result-then-u-lt-LOW_NODES
overflow_shl-result-then-u-lt-LOW_NODES c =
    let low : c.args.u < 6 = c.if-u-lt-LOW_NODES.true in
    omega (arith, one_shl c.args.u 8 (omega (arith, low)), pow_below c.args.u 6 low)

pub overflow_sub-result-then-i-u-eq1 : goal.overflow_sub-result-then-i-u-eq1
overflow_sub-result-then-i-u-eq1 c =
    let v : ℕ = c.args.u - 6 in
    let some : IsBitSet c.args.i v = (bit_set_by_shift c.args.i v).0 c.if-i-u-eq1.true in
    omega (arith, one_shl v 64 (omega (arith, c.requires.node)), pow-le c.args.i v some)

pub returns-then-u-lt-LOW_NODES : goal.returns-then-u-lt-LOW_NODES
returns-then-u-lt-LOW_NODES c b inside =
    let low : c.args.u < 6 = c.if-u-lt-LOW_NODES.true in
    rw c.from.ensures (with_low_node c.args.rows.now c.args.i b c.args.u _ inside low (one_shl c.args.u 8 (omega (arith, low))))

pub returns-then-i-u-eq1 : goal.returns-then-i-u-eq1
returns-then-i-u-eq1 c b inside =
    let i : ℕ = c.args.i in
    let v : ℕ = c.args.u - 6 in
    let back : c.args.u ≡ 6 + v = omega (arith, c.if-u-lt-LOW_NODES.false) in
    let some : IsBitSet i v = (bit_set_by_shift i v).0 c.if-i-u-eq1.true in
    let at : i - 1 * 2 ^ v % 2 ^ 64 + 2 ^ v ≡ i = omega (arith, one_shl v 64 (omega (arith, c.requires.node)), pow-le i v some) in
    rw (← back) at (with_high_node c.args.rows.now i b v _ inside some at)

pub returns-else-i-u-eq1 : goal.returns-else-i-u-eq1
returns-else-i-u-eq1 c b inside =
    let i : ℕ = c.args.i in
    let v : ℕ = c.args.u - 6 in
    let back : c.args.u ≡ 6 + v = omega (arith, c.if-u-lt-LOW_NODES.false) in
    rw back (with_no_node c.args.rows.now i b v inside (λ some. c.if-i-u-eq1.false ((bit_set_by_shift i v).1 some)))
