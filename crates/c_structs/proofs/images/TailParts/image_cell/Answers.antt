use Rattle.std.proofs.Common.{sym, subst, rules}
use Rattle.word_image.proofs.Common.{IsWord}
use Rattle.tail_config.proofs.Common.{IsWord-run, cell-below}
use Rattle.c_structs.proofs.images.TailParts.image_cell.Goals as goal

pub apply-requires-clause-word : goal.apply-requires-clause-word
apply-requires-clause-word c =
    subst (IsWord c.args.rule.now.states) (sym c.write_cells.ensures) (IsWord-run (cell-below c.requires.config) _ _)

pub returns : goal.returns
returns c = rw (c.apply.ensures.value, c.write_cells.ensures) (search rules)
