use Rattle.std.proofs.Common.{arith, w16}
use Rattle.std.proofs.lemmas.Nat.Bits.{bit_at-trailing_zeros}
use Rattle.word_image.proofs.Common.{bit_at-IsBitSet}
use Rattle.tail_preimage.proofs.walks.least_node.Goals as goal

pub returns : goal.returns
returns c =
    let set = c.args.set in
    let (few, one, none) = bit_at-trailing_zeros w16 set (omega arith) (omega arith) in
    grind (arith, bit_at-IsBitSet)
