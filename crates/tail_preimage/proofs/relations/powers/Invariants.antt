use Rattle.std.proofs.Common.{◌≡◌, ℕ, ◌≤◌, [], length, get_or}
use Rattle.tail_preimage.specs.Relations.{IsRelation, Steps}
use Rattle.word_image.proofs.Common.{HasBit}
use Rattle.tail_preimage.proofs.relations.powers.Given as goal

-- the first relations are made
abbrev pub invariant-loop-n : goal.invariant-loop-n
invariant-loop-n l = record {
  long : length l.all ≡ 17;
  each : (j : ℕ) → j ≤ l.n → IsRelation l.graph (Steps (HasBit l.step) j) (get_or l.all j []);
}
