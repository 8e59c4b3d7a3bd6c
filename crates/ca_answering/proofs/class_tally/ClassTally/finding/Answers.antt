use Rattle.word_image.proofs.Common.{length-map}
use Rattle.ca_questions.proofs.Common.{IsFinding, counts_of}
use Rattle.ca_answering.specs.ClassTallies.{rule_in, rules_in}
use Rattle.ca_answering.proofs.class_tally.ClassTally.finding.Goals as goal

pub returns : goal.returns
returns c k m rules is =
    let t = c.args.self.now in
    let entries = (t.leasts).entries in
    rw c.len.ensures.len (rw (length-map entries (rule_in k m)) at (IsFinding.Classes rules (rules_in k m entries) (counts_of t.counts) is.counts is.leasts))
