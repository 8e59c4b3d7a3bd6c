use Rattle.std.proofs.Common.{sym, ◌∙◌, subst, refl}
use Rattle.word_image.proofs.Common.{and_numeral}
use Rattle.image_subsets.specs.StepTables.{AreTables}
use Rattle.image_subsets.proofs.Steps.{IsStep-tables}
use Rattle.image_subsets.proofs.step_tables.StepTables.steps.Goals as goal

pub returns : goal.returns
returns c r a tables within letter =
    IsStep-tables (subst (AreTables r) (sym c.self.view_is) tables) c.args.set a _ _ _ _ within letter (c.from.ensures ∙ and_numeral c.args.set 254 refl) c.from-2.ensures c.index-low.ensures c.index-high.ensures
