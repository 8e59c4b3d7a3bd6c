use Rattle.std.proofs.Common.{◌≤◌, ℕ, ℤ, IsBitSet}
use Rattle.moved_configs.specs.Trims.{IsTrimmed, IsEndlessWalk}
use Rattle.moved_configs.proofs.trims.core.Given as goal

-- one trim after `nodes` comes `kept`, and endless walks stay in `nodes`
abbrev pub invariant-trims : goal.invariant-trims
invariant-trims l = record {
  trimmed : IsTrimmed l.rule l.place l.nodes l.kept;
  fewer : l.kept ≤ l.nodes;
  walks : (v : ℤ → ℕ) → IsEndlessWalk l.rule l.place v → (i : ℤ) → IsBitSet l.nodes (v i);
}

abbrev pub decreases-trims : goal.decreases-trims
decreases-trims l = l.nodes
