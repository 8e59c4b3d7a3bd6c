use Rattle.std.proofs.Common.{◌≡◌, ℕ, ◌<◌, length, get_or, Option, Some, None, ap, ◌∙◌, arith, slice_get}
use Rattle.word_image.proofs.Common.{slice_get-get_or}
use Rattle.image_subsets.specs.FamilyTrees.{FamilyTree, IsTree}
use Rattle.image_subsets.proofs.family.Family.parent.Goals as goal

-- the way that the index reads stands in the tree
read : (tree now : FamilyTree) (i : ℕ) (way : Option (ℕ × ℕ)) → tree ≡ now → IsTree tree → i < length now.sets → way ≡ get_or tree.parents i way
    → slice_get tree.parents i ≡ Some way
read tree now i way same h within at = grind (arith, slice_get-get_or)

pub returns-in-Some-clause-earlier : goal.returns-in-Some-clause-earlier
returns-in-Some-clause-earlier c =
    let tree = c.self.invariant.1 in
    let at = read _ _ c.args.i c.index.result.now c.self.view_is tree c.requires c.index.ensures in
    let earlier : c.in-Some.place < c.args.i = tree.earlier c.args.i (Some (c.in-Some.place, c.in-Some.letter)) (at ∙ ap Some c.in-Some.is) in
    omega (arith, c.from.ensures, earlier)

pub returns-in-None-clause-parent : goal.returns-in-None-clause-parent
returns-in-None-clause-parent c = grind (arith, read)

pub returns-in-None-clause-earlier : goal.returns-in-None-clause-earlier
returns-in-None-clause-earlier c =
    let tree = c.self.invariant.1 in
    let at = read _ _ c.args.i c.index.result.now c.self.view_is tree c.requires c.index.ensures in
    tree.earlier c.args.i None (at ∙ ap Some c.in-None.is)
