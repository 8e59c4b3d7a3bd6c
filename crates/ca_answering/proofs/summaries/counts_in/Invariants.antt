use Rattle.std.proofs.Common.{◌≡◌, ◌-◌, List, ◌++◌, length}
use Rattle.word_image.proofs.Common.{LocalRule}
use Rattle.ca_questions.specs.Samples.{sample_rules}
use Rattle.ca_questions.proofs.Common.{AreCounts, counts_of}
use Rattle.ca_answering.proofs.summaries.counts_in.Given as goal

-- the rules so far are counted, and the others go on from the state that they left
abbrev pub invariant-loop-i : goal.invariant-loop-i
invariant-loop-i l =
    (done : List LocalRule) × AreCounts done (counts_of l.counts) × (length done ≡ l._i) × (sample_rules l.k l.m l.seed l.count ≡ done ++ sample_rules l.k l.m l.generator (l.count - l._i))
