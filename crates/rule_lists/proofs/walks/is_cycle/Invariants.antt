use Rattle.std.proofs.Common.{◌<◌}
use Rattle.word_image.proofs.Common.{pair_count}
use Rattle.rule_lists.specs.FixedWalks.{IsFixedWalk}
use Rattle.rule_lists.proofs.walks.is_cycle.Given as goal

-- the pair leads to this one
abbrev pub invariant-loop : goal.invariant-loop
invariant-loop l = record {
  inside : l.at < pair_count l.shape;
  walk : IsFixedWalk l.side l.shape l.letters l.pair l.at;
}
