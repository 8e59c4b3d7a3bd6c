use Rattle.std.proofs.Common.{◌≡◌, ℕ, ◌-◌, ◌<◌, List, ◌++◌, length, take}
use Rattle.word_image.proofs.Common.{node_count}
use Rattle.moved_configs.specs.MovedRings.{LeadsTo, IsLeastReading}
use Rattle.moved_configs.proofs.rings.ring_from.Given as goal

-- the first letters are found: what is first from the node on makes with them what is first from the start on
abbrev pub invariant-loop-place : goal.invariant-loop-place
invariant-loop-place l = record {
  long : length l.letters ≡ 16;
  node : l.node < node_count l.rule;
  starts : l.place ≡ 0 → l.node ≡ l.fn.start;
  leads : 0 < l.place → LeadsTo l.rule l.rows (l.fn.count - l.place) l.fn.start l.node;
  whole : (c : List ℕ) → length c ≡ l.fn.count - l.place → IsLeastReading l.rule l.rows l.node l.fn.start c
      → IsLeastReading l.rule l.rows l.fn.start l.fn.start (take l.place l.letters ++ c);
}
