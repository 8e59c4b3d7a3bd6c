use Rattle.rule_algebra.proofs.laws.Tables.{length-table_by}
use Rattle.rule_classes.specs.Colourings.{in_colours, new_letter}
use Rattle.rule_classes.proofs.laws.Tables.{HasZeros-padded}
use Rattle.rule_classes.proofs.best.Best.take.Goals as goal

pub fill-requires-clause-entries : goal.fill-requires-clause-entries
fill-requires-clause-entries c =
    let r = c.args.rule.now in
    let b = c.args.self.now in
    HasZeros-padded (in_colours r b.colouring).table c.requires.rule (length-table_by r.states r.width (new_letter r b.colouring)) c.requires.best.entries
