-- The reached pairs of a surjective rule meet the conditions of listed pairs, and are few.
use Rattle.std.proofs.Common.{◌≢◌, ℕ, ◌<◌, ◌≤◌, List, length, get_or, slice_index, arith, All}
use Rattle.std.proofs.lemmas.Map.Made.{IsDistinct-from_AllPairs}
use Rattle.std.proofs.lemmas.Map.Steps.{length-le_from_distinct_below}
use Rattle.std.proofs.lemmas.Map.Views.{Contains-from_any}
use Rattle.word_image.proofs.Common.{Decides-eqb, Contains-get_or, LocalRule, IsRule, first_of, second_of, pair_count, IsPairList}
use Rattle.std.proofs.lemmas.List.Kept.{AllPairs-from_increasing}
use Rattle.garden_laws.proofs.ReachedPairs.{IsReached-below}
use Rattle.cert_conditions.proofs.Common.{EachBelow, FirstIsListed, StepsAreListed}
use Rattle.garden_laws.specs.ReachedPairs.{AreReached}

-- a pair list meets the conditions
pub pair_list-met : {r : LocalRule} {pairs : List ℕ} → IsPairList r pairs
    → EachBelow (pair_count r) (FirstIsListed r pairs) × EachBelow (length pairs) (λ i. first_of r (slice_index pairs i) ≢ second_of r (slice_index pairs i))
    × EachBelow (length pairs) (λ i. StepsAreListed r pairs (slice_index pairs i))
pair_list-met {pairs = pairs} list = grind (arith, Contains-get_or)

-- the reached pairs are pairs of nodes
pub below-reached : {r : LocalRule} {pairs : List ℕ} → IsRule r → AreReached r pairs → All (λ p. p < pair_count r) pairs
below-reached {pairs = pairs} rule reached i d within = IsReached-below rule ((reached.exactly (get_or pairs i d)).0 (Contains-get_or pairs i d within))

-- there are no more reached pairs than pairs of nodes
pub length-reached : {r : LocalRule} {pairs : List ℕ} → IsRule r → AreReached r pairs → length pairs ≤ pair_count r
length-reached {r} {pairs} rule reached =
    length-le_from_distinct_below pairs (pair_count r)
    (IsDistinct-from_AllPairs Decides-eqb pairs (λ i j d less within same. let rise = AllPairs-from_increasing pairs reached.ascending i j d less within in absurd (omega (arith, rise, same))))
    (λ p any. IsReached-below rule ((reached.exactly p).0 (Contains-from_any (λ x y same. (Decides-eqb x y).0 same) p pairs any)))
