use Rattle.std.proofs.Common.{◌≡◌, ℕ, ◌<◌, ◌↔◌, length, IsTrue}
use Rattle.word_image.proofs.Common.{pair_count}
use Rattle.pair_graph.specs.PairSets.{holds, LeadsInto}
use Rattle.pair_graph.proofs.plain.plain.Given as goal

-- of the first pairs those are kept that lead into the set, and of the others all
abbrev pub invariant-loop-p : goal.invariant-loop-p
invariant-loop-p l = record {
  count : length l.kept ≡ pair_count l.pairs;
  pairs : (q : ℕ) → q < pair_count l.pairs → (IsTrue (holds l.kept q) ↔ (IsTrue (holds l.set q) × (q < l.p → LeadsInto l.fn.side l.pairs l.set q)));
}
