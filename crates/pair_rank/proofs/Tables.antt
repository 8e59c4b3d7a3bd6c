-- Tables of ranks, one pair more at a time.
use Rattle.std.proofs.Common.{◌≡◌, ℕ, ◌+◌, ◌-◌, ◌*◌, ◌^◌, ◌<◌, ◌≤◌, ◌↔◌, List, Option, Some, None, Bool, IsTrue, length, IsBitSet, bit_and, slice_set, ◌∙◌, arith, ⊎_elim, MatchOption, get_or-set_other, below_more}
use Rattle.word_image.proofs.Common.{get_or-set_at, LocalRule, IsRule, node_count, pair_of, IsRank, IsEndless, Together}
use Rattle.pair_graph.specs.PairSets.{holds}
use Rattle.word_image.specs.declared.side.Side.{Side}
use Rattle.pair_rank.specs.Sides.{AreRanks, HasFallen, AreEndless, rank_at}
use Rattle.pair_laws.proofs.Common.{Together-decide, Together-zero, pair_of-below, PairGoes-pair_of, IsBitSet-minus}
use Rattle.pair_rank.proofs.TrimmedSets.{AreTogether, AreTogether-nodes}

-- of the first w nodes those of the set have the rank n with u, and no other rank has changed
pub record IsGiven (set u n w : ℕ) (old new : List (Option ℕ)) : Type 0 where
  pub given : (v : ℕ) → v < w → IsBitSet set v → rank_at new u v ≡ Some n
  pub kept : (s v : ℕ) → v < 16 → (s ≡ u → v < w → ¬ IsBitSet set v) → rank_at new s v ≡ rank_at old s v

-- the next node is in the set
pub IsGiven-take : {set u n w : ℕ} {old new : List (Option ℕ)} → IsGiven set u n w old new → w < 16 → (i : ℕ) → i ≡ 16 * u + w → i < length new
    → IsBitSet set w
    → IsGiven set u n (w + 1) old (slice_set new i (Some n))
IsGiven-take {set} {u} {n} {w} {old} {new} h inside i at within present =
    let other_place : (s v : ℕ) → v < 16 → ¬ ((s ≡ u) × (v ≡ w)) → rank_at (slice_set new i (Some n)) s v ≡ rank_at new s v = λ s v small other.
    get_or-set_other new i (16 * s + v) (Some n) None (λ e. other (omega arith, omega arith)) in
    record {
      given = below_more (λ v. IsBitSet set v → rank_at (slice_set new i (Some n)) u v ≡ Some n) w
          (λ v less some. other_place u v (omega arith) (λ e. omega (arith, e.1)) ∙ h.given v less some) (λ _. get_or-set_at new i (16 * u + w) (Some n) None (omega arith) within);
      kept = λ s v small free.
          other_place s v small (λ (one, last). free one (omega (arith, last)) (rw last present)) ∙ h.kept s v small (λ same less. free same (omega arith));
    }

-- the next node isn't in the set: it is given nothing
pub IsGiven-skip : {set u n w : ℕ} {old new : List (Option ℕ)} → IsGiven set u n w old new → ¬ IsBitSet set w → IsGiven set u n (w + 1) old new
IsGiven-skip {set} {u} {n} {w} {old} {new} h absent = record {
  given = below_more (λ v. IsBitSet set v → rank_at new u v ≡ Some n) w h.given (λ some. absurd (absent some));
  kept = λ s v small free. h.kept s v small (λ same less. free same (omega arith));
}

-- what a row has more than the one after it has fallen
pub HasFallen-minus : (n : ℕ) (set after : List Bool) (u row next : ℕ) → next < 2 ^ 16
    → ((v : ℕ) → v < 16 → (IsBitSet row v ↔ ((v < n) × IsTrue (holds set (u * n + v)))))
    → ((v : ℕ) → v < 16 → (IsBitSet next v ↔ ((v < n) × IsTrue (holds after (u * n + v)))))
    → (v : ℕ) → v < 16 → IsBitSet (bit_and row (65535 - next)) v ↔ HasFallen n set after u v
HasFallen-minus n set after u row next small before later v inside =
    let both = IsBitSet-minus row next v small inside in (
      (λ some.
          let (first, none) = both.0 some in
          let (node, there) = (before v inside).0 first in
          record { node = node; before = there; no_more = λ still. none ((later v inside).1 (node, still)) }),
      (λ falls. both.1 ((before v inside).1 (falls.node, falls.before), (λ still. falls.no_more ((later v inside).0 still).1))),
    )

-- in the first w rows what has fallen has the rank n, and no other rank has changed
pub record IsNoted (nodes : ℕ) (set after : List Bool) (n w : ℕ) (old new : List (Option ℕ)) : Type 0 where
  pub fallen : (u v : ℕ) → u < w → v < 16 → HasFallen nodes set after u v → rank_at new u v ≡ Some n
  pub kept : (u v : ℕ) → v < 16 → (u < w → ¬ HasFallen nodes set after u v) → rank_at new u v ≡ rank_at old u v

-- the nodes of the next row that have fallen are given it
pub IsNoted-next : {nodes : ℕ} {set after : List Bool} {n w : ℕ} {old new : List (Option ℕ)} → IsNoted nodes set after n w old new
    → (row : ℕ) (next : List (Option ℕ)) → ((v : ℕ) → v < 16 → (IsBitSet row v ↔ HasFallen nodes set after w v)) → IsGiven row w n 16 new next
    → IsNoted nodes set after n (w + 1) old next
IsNoted-next {nodes} {set} {after} {n} {w} {old} {new} h row next exact given = record {
  fallen = λ u v less small falls. below_more (λ u. HasFallen nodes set after u v → rank_at next u v ≡ Some n) w
      (λ u less falls. given.kept u v small (λ same. absurd (omega (arith, same, less))) ∙ h.fallen u v less small falls)
      (λ falls. given.given v small ((exact v small).1 falls)) u less falls;
  kept = λ u v small free. given.kept u v small (λ same less some. free (omega arith) (rw same ((exact v small).0 some))) ∙ h.kept u v small (λ less. free (omega arith));
}

-- each two nodes have their rank, or go on together for n
abbrev pub AreRanksSoFar : Side → LocalRule → ℕ → List (Option ℕ) → Type 0
AreRanksSoFar side r n ranks = (u v : ℕ) → u < node_count r → v < node_count r → MatchOption (rank_at ranks u v) (Together side r u v n) (IsRank (Together side r u v))

-- at the beginning no rank is known
pub AreRanksSoFar-none : (side : Side) {r : LocalRule} → IsRule r → (ranks : List (Option ℕ))
    → ((u v : ℕ) → u < 16 → v < 16 → rank_at ranks u v ≡ None) → AreRanksSoFar side r 0 ranks
AreRanksSoFar-none side {r} rule ranks none u v in_u in_v =
    let few : node_count r ≤ 16 = rule.shape.most_nodes in
    rw (none u v (omega arith) (omega arith)) (Together-zero side r u v in_u in_v)

-- what is known of the ones without a rank may be another thing
known_as : (P Q : Type 0) (R : ℕ → Type 0) (o : Option ℕ) → (P → Q) → MatchOption o P R → MatchOption o Q R
known_as P Q R None f p = f p
known_as P Q R (Some n) f rank = rank

-- a round later the pairs that have fallen have the rank n
pub AreRanksSoFar-next : {side : Side} {r : LocalRule} → IsRule r → {n : ℕ} {set after : List Bool} → (old new : List (Option ℕ))
    → AreTogether side r n set → AreTogether side r (n + 1) after → AreRanksSoFar side r n old
    → ((u v : ℕ) → u < node_count r → v < 16 → HasFallen (node_count r) set after u v → rank_at new u v ≡ Some n)
    → ((u v : ℕ) → u < node_count r → v < 16 → ¬ HasFallen (node_count r) set after u v → rank_at new u v ≡ rank_at old u v)
    → AreRanksSoFar side r (n + 1) new
AreRanksSoFar-next {side} {r} rule {n} {set} {after} old new before next ranks fallen kept u v in_u in_v =
    let few : node_count r ≤ 16 = rule.shape.most_nodes in
    let now = AreTogether-nodes before u v in_u in_v in
    let later = AreTogether-nodes next u v in_u in_v in
    let stays : ¬ HasFallen (node_count r) set after u v → (Together side r u v n → Together side r u v (n + 1)) → MatchOption (rank_at new u v) (Together side r u v (n + 1)) (IsRank (Together side r u v)) = λ no on.
    rw (kept u v in_u (omega arith) no) (known_as (Together side r u v n) (Together side r u v (n + 1)) (IsRank (Together side r u v)) (rank_at old u v) on (ranks u v in_u in_v)) in
    ⊎_elim
    (λ more. stays (λ falls. falls.no_more (later.1 more)) (λ _. more))
    (λ no_more. ⊎_elim
    (λ goes.
    let falls : HasFallen (node_count r) set after u v = record { node = in_v; before = now.1 goes; no_more = λ still. no_more (later.0 still) } in
    rw (fallen u v in_u (omega arith) falls) (record { holds = goes; no_more = no_more }))
    (λ gone. stays (λ falls. gone (now.0 falls.before)) (λ goes. absurd (gone goes)))
    (Together-decide side rule n u v in_u in_v))
    (Together-decide side rule (n + 1) u v in_u in_v)

-- where the pairs that still go on are endless the ranks are exact
pub AreRanks-endless : {side : Side} {r : LocalRule} {n : ℕ} {set : List Bool} (ranks : List (Option ℕ)) → AreTogether side r n set
    → AreEndless side r set → AreRanksSoFar side r n ranks → AreRanks side r ranks
AreRanks-endless {side} {r} {n} {set} ranks now endless known u v in_u in_v =
    known_as (Together side r u v n) (IsEndless (Together side r u v)) (IsRank (Together side r u v)) (rank_at ranks u v)
    (λ goes j. (PairGoes-pair_of side r u v j in_v).0 ((endless.pairs (pair_of r u v) (pair_of-below r u v in_u in_v)).0 ((AreTogether-nodes now u v in_u in_v).1 goes) j))
    (known u v in_u in_v)
