-- A breach of a condition says that the condition isn't met, and a certificate has at most one first breach.
use Rattle.std.proofs.Common.{◌≡◌, ◌≢◌, List, length, take, drop, get_or, ℕ, suc, ◌<◌, ◌≤◌, arith, All}
use Rattle.word_image.proofs.Common.{slice_get-get_or, LocalRule, ring_image, slice_get-cut}
use Rattle.word_image.specs.declared.side.Side.TheVariants as side
use Rattle.tail_config.proofs.Common.{TailConfig, Different, ShareImage}
use Rattle.cert_values.proofs.Common.{Certificate}
use Rattle.cert_conditions.specs.declared.condition.Condition.{Condition}
use Rattle.cert_conditions.specs.declared.condition.Condition.TheVariants as condition
use Rattle.cert_conditions.specs.declared.refusal.TwinCause.{TwinCause}
use Rattle.cert_conditions.specs.declared.refusal.SplitCause.{SplitCause}
use Rattle.cert_conditions.specs.declared.refusal.Refusal.{Refusal}
use Rattle.cert_conditions.specs.Breaches.{EachBelow, IsFirstBreach}
use Rattle.cert_conditions.specs.Conditions.{conditions, Holds, MeetsConditions}
use Rattle.cert_conditions.specs.Refusals.{IsBreach, IsTwinsBreach, IsSplitBreach, IsFirstUnmet}
use Rattle.cert_conditions.specs.Refusals.IsBreach.{Rising, NoFull, Empty, NotClosed, NoFirst, Diagonal, Leaves, NoOrphan, NoWindow, NoTwins, NoAhead, NoSplit, NoFlux, NoRing}
use Rattle.cert_conditions.specs.Refusals.IsTwinsBreach.{Length, Same as SameWords, Image as OtherRings}
use Rattle.cert_conditions.specs.Refusals.IsSplitBreach.{Same as SameCells, Apart, Image as OtherImages}

first_fails : {n i : ℕ} {P : ℕ → Type 0} → IsFirstBreach n P i → ¬ EachBelow n P
first_fails {i} first each = first.fails (each i first.within)

twins_fail : {r : LocalRule} {x y : List ℕ} {cause : TwinCause} → IsTwinsBreach r x y cause
    → ¬ (((length x ≡ length y) × (1 ≤ length x)) × (x ≢ y) × (ring_image r x ≡ ring_image r y))
twins_fail (Length other) h = other h.0
twins_fail (SameWords _ _ equal) h = h.1 equal
twins_fail (OtherRings _ _ _ other) h = other h.2

split_fails : {r : LocalRule} {Agree : TailConfig → TailConfig → Type 0} {x y : TailConfig} {cause : SplitCause} → IsSplitBreach r Agree x y cause
    → ¬ (Different x y × Agree x y × ShareImage r x y)
split_fails (SameCells none) h = none h.0
split_fails (Apart _ none) h = none h.1
split_fails (OtherImages _ _ none) h = none h.2

-- a condition with a breach isn't met
pub breach_fails : {c : Certificate} {one : Condition} {f : Refusal} → IsBreach c one f → ¬ Holds c one
breach_fails (Rising side p first) h = first_fails first h
breach_fails (NoFull sets same other) h = other (rw same at h)
breach_fails (Empty sets i same first) h = first_fails first (rw same at h)
breach_fails (NotClosed sets i a same first letter) h = first_fails first (rw same at h)
breach_fails (NoFirst pairs p same first) h = first_fails first (rw same at h)
breach_fails (Diagonal pairs i same first) h = first_fails first (rw same at h)
breach_fails (Leaves pairs i a b same first letters) h = first_fails first (rw same at h)
breach_fails (NoOrphan w same other) h = other (rw same at h)
breach_fails (NoWindow n at p same first) h = first_fails first (rw same at h)
breach_fails (NoTwins x y cause same fails) h = twins_fail fails (rw same at h)
breach_fails (NoAhead side n p same first) h = first_fails first (rw same at h)
breach_fails (NoSplit side x y cause same fails) h = split_fails fails (rw same at h)
breach_fails (NoFlux phi v same first) h = first_fails first (rw same at h)
breach_fails (NoRing p same other) h = other (rw same at h)

-- what has a breach doesn't meet the conditions
pub unmet_fails : {c : Certificate} {f : Refusal} → IsFirstUnmet c f → ¬ MeetsConditions c
unmet_fails h meets = breach_fails h.breach (meets h.unmet)

-- where the conditions before a place are met, a breach of the one there is the first
pub IsFirstUnmet-at : {c : Certificate} {f : Refusal} (i : ℕ) (d : Condition) → i < length conditions → All (Holds c) (take i conditions)
    → IsBreach c (get_or conditions i d) f → IsFirstUnmet c f
IsFirstUnmet-at i d inside before breach =
    let one = get_or conditions i d in
    record {
      unmet = one;
      first = record { before = take i conditions; after = drop (suc i) conditions; list = slice_get-cut conditions i one (slice_get-get_or conditions i d inside); earlier = before; fails = breach_fails breach };
      breach = breach;
    }

-- where each condition of the list is met, all are
pub MeetsConditions-all : (c : Certificate) → All (Holds c) conditions → MeetsConditions c
MeetsConditions-all c all (condition.SideClaims side.Right) = all 0 condition.FullListed (omega arith)
MeetsConditions-all c all (condition.SideClaims side.Left) = all 1 condition.FullListed (omega arith)
MeetsConditions-all c all condition.FullListed = all 2 condition.FullListed (omega arith)
MeetsConditions-all c all condition.NoneEmpty = all 3 condition.FullListed (omega arith)
MeetsConditions-all c all condition.Closed = all 4 condition.FullListed (omega arith)
MeetsConditions-all c all condition.FirstsListed = all 5 condition.FullListed (omega arith)
MeetsConditions-all c all condition.OffDiagonal = all 6 condition.FullListed (omega arith)
MeetsConditions-all c all condition.PairsClosed = all 7 condition.FullListed (omega arith)
MeetsConditions-all c all condition.OrphanRead = all 8 condition.FullListed (omega arith)
MeetsConditions-all c all condition.WindowClaims = all 9 condition.FullListed (omega arith)
MeetsConditions-all c all condition.TwinsAlike = all 10 condition.FullListed (omega arith)
MeetsConditions-all c all (condition.SideAhead side.Right) = all 11 condition.FullListed (omega arith)
MeetsConditions-all c all (condition.SideSplit side.Right) = all 12 condition.FullListed (omega arith)
MeetsConditions-all c all (condition.SideAhead side.Left) = all 13 condition.FullListed (omega arith)
MeetsConditions-all c all (condition.SideSplit side.Left) = all 14 condition.FullListed (omega arith)
MeetsConditions-all c all condition.FluxFlows = all 15 condition.FullListed (omega arith)
MeetsConditions-all c all condition.RingLossy = all 16 condition.FullListed (omega arith)
