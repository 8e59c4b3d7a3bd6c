use Rattle.std.proofs.Common.{sym, subst}
use Rattle.least_walk.specs.Trees.{AreApart}
use Rattle.least_walk.proofs.TreeLaws.{AreApart-walking, ended}
use Rattle.least_walk.proofs.tree.WalkTree.limited.Goals as goal

pub index-places-requires : goal.index-places-requires
index-places-requires c =
    subst AreApart (sym c.as_slice.ensures.items) (AreApart-walking (ended c.search.result c.search.ensures.found c.search.ensures.none).walking)
