use Rattle.std.proofs.Common.{◌≡◌, ℕ, ◌<◌, slice_index}
use Rattle.word_image.proofs.Common.{node_count}
use Rattle.eden_law.specs.ReachedRows.{IsRowSearch}
use Rattle.eden_law.proofs.ReachedRows.{HasFirsts}
use Rattle.eden_law.proofs.surjective.is_surjective.Given as goal

-- the first pairs of the first nodes were found, and all steps from what was found were followed
abbrev pub invariant-loop-node : goal.invariant-loop-node
invariant-loop-node l = record {
  search : IsRowSearch l.graph l.found l.followed;
  all : (u : ℕ) → u < node_count l.graph → slice_index l.followed u ≡ slice_index l.found u;
  firsts : HasFirsts l.graph l.node l.found;
}
