use Rattle.std.proofs.Common.{◌≡◌, ℕ, ◌<◌, length, slice_index, Some, slice_get}
use Rattle.least_walk.specs.declared.queue.Reached.{Reached}
use Rattle.least_walk.proofs.tree.index.Given as goal

-- the first places are in the index
abbrev pub invariant-loop-i : goal.invariant-loop-i
invariant-loop-i l = record {
  long : length l.places ≡ 512;
  leads : (j : ℕ) (x : Reached) → j < l.i → slice_get l.queue j ≡ Some x → slice_index l.places x.pair ≡ j;
}
