use Rattle.std.proofs.Common.{nat_eq, ◌∙◌}
use Rattle.indexmap.proofs.CallerLemmas.{insert_entry-new}
use Rattle.ca_answering.proofs.class_tally.keep.Goals as goal

pub returns : goal.returns
returns c = c.in_ok-insert.ensures.entries ∙ insert_entry-new nat_eq c.args.known.now c.args.number c.args.truths.now c.requires
