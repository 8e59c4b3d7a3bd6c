use Rattle.std.proofs.Common.{ℕ, ◌<◌}
use Rattle.word_image.proofs.Common.{next}
use Rattle.eden_law.specs.ReachedRows.{LeadsBeside, AreAdded}
use Rattle.eden_law.proofs.surjective.add_steps.Given as goal

-- the first letters were followed, and led to no pair of two equal nodes
abbrev pub invariant-loop-a : goal.invariant-loop-a
invariant-loop-a l = record {
  added : AreAdded l.graph l.node (LeadsBeside l.graph l.node l.set) l.a l.initial.found l.found;
  apart : (a : ℕ) → a < l.a → ¬ LeadsBeside l.graph l.node l.set a (next l.graph l.node a);
}
