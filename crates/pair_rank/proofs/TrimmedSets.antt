-- What a round leaves of a set of pairs.
use Rattle.std.proofs.Common.{◌≡◌, ℕ, ◌+◌, ◌*◌, ◌<◌, ◌≤◌, ◌↔◌, List, Bool, true, false, IsTrue, IsBitSet, length, replicate, sym, ◌∙◌, arith, ⊎_elim}
use mathlib.Core.Logic.Iff.{trans as iff_then}
use Rattle.word_image.proofs.Common.{cases_lt, false≢true, get_or-replicate, get_or_past, length-replicate, LocalRule, IsRule, node_count, first_of, second_of, pair_of, pair_count, IsEndless, Together, PairGoes}
use Rattle.pair_laws.proofs.Common.{first_of-below, second_of-below, pair_of-below, pair-below, PairGoes-pair_of, Together-zero, Together-below, Together-less, Together-rank, PairGoes-stable}
use Rattle.pair_graph.specs.PairSets.{holds, IsTrimmedSet}
use Rattle.word_image.specs.declared.side.Side.{Side}
use Rattle.pair_rank.specs.Sides.{AreEndless}
use Rattle.pair_rank.proofs.Sides.{PairGoes-steps}
use Rattle.pair_rank.proofs.MostRank.{IsRank-most}

-- what is in a set is one of its pairs
holds-below : (set : List Bool) (q : ℕ) → IsTrue (holds set q) → q < length set
holds-below set q there = ⊎_elim (λ less. less) (λ past. absurd (false≢true (sym (get_or_past set q false past) ∙ there))) (cases_lt q (length set))

-- a pair that goes on is a pair of nodes
goes-below : (side : Side) {r : LocalRule} → IsRule r → (q n : ℕ) → PairGoes side r q n → q < pair_count r
goes-below side {r} rule q n goes = pair-below rule q (Together-below side r (first_of r q) (second_of r q) n goes).0

-- the set has exactly the pairs that go on together for n
pub record AreTogether (side : Side) (r : LocalRule) (n : ℕ) (set : List Bool) : Type 0 where
  pub count : length set ≡ pair_count r
  pub pairs : (p : ℕ) → p < pair_count r → (IsTrue (holds set p) ↔ PairGoes side r p n)

-- all pairs go on for 0
pub AreTogether-all : (side : Side) {r : LocalRule} → IsRule r → AreTogether side r 0 (replicate (pair_count r) true)
AreTogether-all side {r} rule = record {
  count = length-replicate (pair_count r) true;
  pairs = λ p inside. (
    (λ t. Together-zero side r (first_of r p) (second_of r p) (first_of-below rule p inside) (second_of-below rule p)),
    (λ goes. get_or-replicate (pair_count r) p true false inside),
  );
}

-- after a round the set has the pairs that go on for one more
pub AreTogether-next : {side : Side} {r : LocalRule} → IsRule r → {n : ℕ} {set after : List Bool} → AreTogether side r n set
    → IsTrimmedSet side r set after → AreTogether side r (n + 1) after
AreTogether-next {side} {r} rule {n} {set} {after} h trimmed = record {
  count = trimmed.count;
  pairs = λ p inside.
      let kept = trimmed.pairs p inside in
      let steps = PairGoes-steps side rule p n inside in (
        (λ t.
            let (a, letter, into) = (kept.0 t).1 in
            steps.1 (a, into.second, into.pair, letter, into.letter, into.leads, (h.pairs into.pair (omega (arith, holds-below set into.pair into.there, h.count))).0 into.there)),
        (λ goes.
            let (a, b, q, in_a, in_b, leads, rest) = steps.0 goes in
            kept.1 (
              (h.pairs p inside).1 (Together-less side rule (first_of r p) (second_of r p) n (n + 1) (omega arith) goes),
              (a, in_a, record { second = b; letter = in_b; pair = q; leads = leads; there = (h.pairs q (goes-below side rule q n rest)).1 rest }),
            )),
      );
}

-- where a round leaves all, what is left is endless
pub AreEndless-stable : {side : Side} {r : LocalRule} → IsRule r → {n : ℕ} {set : List Bool} → AreTogether side r n set → IsTrimmedSet side r set set
    → AreEndless side r set
AreEndless-stable {side} {r} rule {n} {set} h trimmed =
    let next = AreTogether-next rule h trimmed in
    record {
      count = h.count;
      pairs = λ p inside. (
        (λ t. PairGoes-stable side rule n (λ q goes. let q_in = goes-below side rule q n goes in (next.pairs q q_in).0 ((h.pairs q q_in).1 goes)) p ((h.pairs p inside).0 t)),
        (λ endless. (h.pairs p inside).1 (endless n)),
      );
    }

-- after 120 rounds what is left is endless
pub AreEndless-all : {side : Side} {r : LocalRule} → IsRule r → {n : ℕ} {set : List Bool} → 120 ≤ n → AreTogether side r n set → AreEndless side r set
AreEndless-all {side} {r} rule {n} {set} many h = record {
  count = h.count;
  pairs = λ p inside.
      let u = first_of r p in
      let v = second_of r p in (
        (λ t. ⊎_elim
            (λ (m, rank). let few = IsRank-most side rule u v m rank in absurd (rank.no_more (Together-less side rule u v (m + 1) n (omega arith) ((h.pairs p inside).0 t))))
            (λ endless. endless)
            (Together-rank side rule u v (first_of-below rule p inside) (second_of-below rule p))),
        (λ endless. (h.pairs p inside).1 (endless n)),
      );
}

-- the pair of two nodes is in the set exactly where they go on together for n
pub AreTogether-nodes : {side : Side} {r : LocalRule} {n : ℕ} {set : List Bool} → AreTogether side r n set → (u v : ℕ) → u < node_count r
    → v < node_count r
    → IsTrue (holds set (pair_of r u v)) ↔ Together side r u v n
AreTogether-nodes {side} {r} {n} h u v first second = iff_then (h.pairs (pair_of r u v) (pair_of-below r u v first second)) (PairGoes-pair_of side r u v n second)

-- a row of the set has exactly the nodes with which a node is endless
pub AreEndless-row : {side : Side} {q r : LocalRule} {set : List Bool} → AreEndless side q set → q ≡ r → (u row : ℕ) → u < node_count r
    → ((n v : ℕ) → length set ≡ n * n → u < n → v < 16 → (IsBitSet row v ↔ ((v < n) × IsTrue (holds set (u * n + v))))) → (v : ℕ) → v < 16
    → (IsBitSet row v ↔ IsEndless (Together side r u v))
AreEndless-row {side} {q} {r} {set} of_rule same u row first at v small =
    let h = rw same at of_rule in
    let exact = at (node_count r) v h.count first small in (
      (λ some j.
          let (second, there) = exact.0 some in
          (PairGoes-pair_of side r u v j second).0 ((h.pairs (pair_of r u v) (pair_of-below r u v first second)).0 there j)),
      (λ endless.
          let second = (Together-below side r u v 0 (endless 0)).1 in
          exact.1 (second, (h.pairs (pair_of r u v) (pair_of-below r u v first second)).1 (λ j. (PairGoes-pair_of side r u v j second).1 (endless j)))),
    )
