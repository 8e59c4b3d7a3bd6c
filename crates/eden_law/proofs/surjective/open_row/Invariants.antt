use Rattle.std.proofs.Common.{◌≡◌, ℕ, ◌<◌, slice_index}
use Rattle.eden_law.proofs.surjective.open_row.Given as goal

-- all steps from the first nodes were followed
abbrev pub invariant-loop-node : goal.invariant-loop-node
invariant-loop-node l = (u : ℕ) → u < l.node → slice_index l.followed u ≡ slice_index l.found u
