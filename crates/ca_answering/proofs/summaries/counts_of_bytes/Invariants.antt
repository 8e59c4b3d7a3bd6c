use Rattle.ca_questions.specs.Samples.{survey_rules}
use Rattle.ca_questions.proofs.Common.{AreCounts, counts_of}
use Rattle.ca_answering.proofs.summaries.counts_of_bytes.Given as goal

-- the rules so far are counted
abbrev pub invariant-loop-byte : goal.invariant-loop-byte
invariant-loop-byte l = AreCounts (survey_rules l.k l.m l.first l.byte-index) (counts_of l.counts)
