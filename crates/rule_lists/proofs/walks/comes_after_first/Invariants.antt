use Rattle.std.proofs.Common.{◌<◌}
use Rattle.word_image.proofs.Common.{pair_count}
use Rattle.rule_lists.specs.FixedWalks.{IsFixedWalk}
use Rattle.rule_lists.proofs.walks.comes_after_first.Given as goal

-- from here on letters lead to the pair
abbrev pub invariant-loop : goal.invariant-loop
invariant-loop l = record {
  inside : l.at < pair_count l.shape;
  walk : IsFixedWalk l.side l.shape l.letters l.at l.pair;
}
