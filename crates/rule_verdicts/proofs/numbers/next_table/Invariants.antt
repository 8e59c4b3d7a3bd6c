use Rattle.std.proofs.Common.{◌≡◌, ◌+◌, ◌^◌, length, reverse, sum}
use Rattle.word_image.proofs.Common.{IsWord, value}
use Rattle.rule_verdicts.proofs.numbers.next_table.Given as goal

-- a step at the place is still to be carried
abbrev pub invariant-loop-place : goal.invariant-loop-place
invariant-loop-place l = record {
  word : IsWord l.k l.table;
  long : length l.table ≡ length l.fn.table;
  total : l.total ≡ sum l.table;
  carried : value l.k (reverse l.table) + l.k ^ l.place ≡ value l.k (reverse l.fn.table) + 1;
}
