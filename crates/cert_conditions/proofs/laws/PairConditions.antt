-- Listed pairs that meet their conditions are a pair list.
use Rattle.std.proofs.Common.{◌≢◌, ℕ, List, length, slice_index, ◌<◌, All}
use Rattle.word_image.proofs.Common.{All-contains, LocalRule, IsRule, first_of, second_of, pair_count, IsPairList}
use Rattle.pair_laws.proofs.Common.{IsFirstOfRight-below}
use Rattle.cert_conditions.specs.Breaches.{EachBelow}
use Rattle.cert_conditions.specs.Pairs.{FirstIsListed, StepsAreListed}
use Rattle.cert_conditions.proofs.laws.StepConditions.{at_listed}

-- a list of pairs of two different nodes that has the first pairs and the steps of its own is a pair list
pub IsPairList-met : {r : LocalRule} → IsRule r → (pairs : List ℕ) → All (λ p. p < pair_count r) pairs
    → EachBelow (pair_count r) (FirstIsListed r pairs)
    → EachBelow (length pairs) (λ i. first_of r (slice_index pairs i) ≢ second_of r (slice_index pairs i))
    → EachBelow (length pairs) (λ i. StepsAreListed r pairs (slice_index pairs i)) → IsPairList r pairs
IsPairList-met {r} rule pairs below firsts apart closed = record {
  below = λ p listed. All-contains (λ p. p < pair_count r) pairs p below listed;
  firsts = λ p first. firsts p (IsFirstOfRight-below rule first) first;
  closed = λ p a b q listed in_a in_b leads. at_listed (StepsAreListed r pairs) pairs closed p listed a in_a b in_b q leads;
  off_diagonal = λ p listed. at_listed (λ p. first_of r p ≢ second_of r p) pairs apart p listed;
}
