use Rattle.std.proofs.Common.{◌≡◌, ℕ, ◌<◌, length, slice_index}
use Rattle.word_image.proofs.Common.{IsEnds}
use Rattle.word_image.specs.declared.side.Side.TheVariants.{Right}
use Rattle.image_subsets.proofs.step_tables.ends_of.Given as goal

-- the first letters are done
abbrev pub invariant-loop-a : goal.invariant-loop-a
invariant-loop-a l = record {
  long : length l.row ≡ 16;
  ends : (b : ℕ) → b < l.a → IsEnds Right l.graph l.u b (slice_index l.row b);
}
