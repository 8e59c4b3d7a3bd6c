use Rattle.std.proofs.Common.{◌≤◌, ◌<◌, ◌^◌, arith}
use Rattle.word_image.proofs.Common.{one-le-pow, pow-le-pow_right, window_count-le}
use Rattle.rule_lists.proofs.classes.power.Goals.{After-from-2}
use Rattle.rule_lists.proofs.classes.power.Goals as goal

-- a power of the states, up to the number of windows
bounds : (c : After-from-2) → (0 < c.from.result ^ c.from-2.result) × (c.from.result ^ c.from-2.result ≤ 256)
bounds c = grind (arith, pow-le-pow_right, one-le-pow, window_count-le)

pub pow-requires : goal.pow-requires
pow-requires c = omega (arith, (bounds (goal.at.pow-requires c).After-from-2).1)

pub returns-clause-some : goal.returns-clause-some
returns-clause-some c = omega (arith, (bounds (goal.at.returns-clause-some c).After-from-2).0, c.pow.ensures)

pub returns-clause-few : goal.returns-clause-few
returns-clause-few c = omega (arith, (bounds (goal.at.returns-clause-few c).After-from-2).1, c.pow.ensures)
