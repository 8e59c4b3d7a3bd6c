-- The definitions and lemmas that the proofs of crates above cite, passed on from one place. Declares nothing.
pub use Rattle.ca_questions.specs.Counts.{AreCounts, AreLeastRules, AreMany, Counts, IsLeastOfItsClass}
pub use Rattle.ca_questions.specs.Findings.{Finding, IsErasedFound, IsFinding, IsInverseFound, IsMapRule, IsSameFound, IsCauseFor, Cause, weight_by, weights_by}
pub use Rattle.ca_questions.specs.Questions.{AreFor, AreRules, Question}
pub use Rattle.ca_questions.specs.Replies.{Reply}
pub use Rattle.ca_questions.specs.Values.{Answers, automaton_of, counts_of, finding_of, preimage_of, reply_of}
