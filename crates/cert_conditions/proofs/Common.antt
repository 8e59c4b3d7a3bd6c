-- The definitions and lemmas that the proofs of crates above cite, passed on from one place. Declares nothing.
pub use Rattle.cert_conditions.specs.Accepted.{AreTrue, IsAccepted, verdicts_of}
pub use Rattle.cert_conditions.specs.Breaches.{EachBelow, IsFirstBreach}
pub use Rattle.cert_conditions.specs.Claims.{Falls, IsAheadPair, IsBelow, IsWindowPair, claim}
pub use Rattle.cert_conditions.specs.Conditions.{Holds, MeetsConditions, OfAhead, OfFlux, OfOrphan, OfPairs, OfRing, OfSets, OfSplit, OfTwins, OfWindow, conditions}
pub use Rattle.cert_conditions.specs.Pairs.{FirstIsListed, IsFirstLeaving, StepIsListed, StepsAreListed}
pub use Rattle.cert_conditions.specs.Refusals.{IsBreach, IsFirstUnmet, IsRefusal, IsSplitBreach}
pub use Rattle.cert_conditions.specs.Refusals.IsBreach.{Diagonal, Empty, Leaves, NoAhead, NoFirst, NoFlux, NoFull, NoOrphan, NoRing, NoSplit, NoTwins, NoWindow, NotClosed, Rising}
pub use Rattle.cert_conditions.specs.Sets.{HasPart, IsKept, LeadsTo, StepIsKept}
pub use Rattle.cert_conditions.specs.Sides.{AgreeBehind, claims_on, evidence_on}
pub use Rattle.cert_conditions.specs.Sums.{Flows, IsLossy}
pub use Rattle.cert_conditions.proofs.laws.ExactEvidence.{AreLastSets, Contains-full, LeadsTo-orphan, StepIsKept-last_sets, nonempty-last_sets}
pub use Rattle.cert_conditions.proofs.laws.Soundness.{AreTrue-accepted, both_true}
