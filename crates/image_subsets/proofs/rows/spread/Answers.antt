use Rattle.std.proofs.Common.{◌*◌, ◌+◌, arith, ◌∙◌, length-set}
use mathlib.Core.Logic.Iff.{trans as iff_then}
use Rattle.image_subsets.proofs.MarkSpreads.{IsSpreadTo-row, HoldsWithout-same}
use Rattle.image_subsets.proofs.rows.spread.Goals as goal

pub loop-i-preserved : goal.loop-i-preserved
loop-i-preserved c =
    let h = c.loop-i.invariant in
    record {
      long = length-set c.loop-i.rows c.loop-i.i _ ∙ h.long;
      spread = IsSpreadTo-row c.with_node-more.result h.spread (omega arith) (λ b inside.
          iff_then (c.with_node-more.ensures b inside) (HoldsWithout-same h.spread c.requires.node (64 * c.loop-i.i + b) (omega arith)));
    }
