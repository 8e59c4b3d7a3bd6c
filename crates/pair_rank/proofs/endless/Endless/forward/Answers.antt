use Rattle.pair_rank.proofs.TrimmedSets.{AreEndless-row}
use Rattle.pair_rank.proofs.endless.Endless.forward.Goals as goal

pub returns : goal.returns
returns c = AreEndless-row c.self.invariant.1 c.self.view_is c.args.u c.row.result c.requires c.row.ensures
