use Rattle.std.proofs.Common.{◌≡◌, ◌-◌, take, vec_capacity}
use Rattle.word_image.proofs.Common.{word_of}
use Rattle.tail_preimage.proofs.walks.write_node.Given as goal

-- the letters so far
abbrev pub invariant-loop-place : goal.invariant-loop-place
invariant-loop-place l = record {
  word : l.word.items ≡ take l.place (word_of l.rule.states (l.rule.width - 1) l.u);
  capacity : vec_capacity l.word ≡ vec_capacity l.fn.word;
}
