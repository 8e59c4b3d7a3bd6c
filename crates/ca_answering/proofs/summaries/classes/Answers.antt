use Rattle.ca_answering.proofs.summaries.classes.Goals as goal

pub returns : goal.returns
returns c = c.finding.ensures _ _ _ c.in_ok-tally.ensures
