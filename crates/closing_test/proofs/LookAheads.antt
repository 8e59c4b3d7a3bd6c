-- The least look-ahead on a side is 2 more than the greatest rank of a first pair, or 1 where there is none.
use Rattle.std.proofs.Common.{◌≡◌, ℕ, ◌+◌, ◌-◌, ◌<◌, ◌≤◌, ◌^◌, max, refl, ◌∙◌, ⊎_elim, arith, ◌↔◌, nat_cmp, below_more}
use Rattle.std.proofs.lemmas.Cmp.{ranked}
use Rattle.word_image.proofs.Common.{ord_max, cases_lt, LocalRule, IsRule, IsLeastRightAhead, IsRank, seen_from, Together, PairGoes, IsFirstOf}
use Rattle.pair_laws.proofs.Common.{PairGoes-pair_of, PairGoes-less, ahead_pairs, end_pair, IsFirst-ends, first_ends}
use Rattle.word_image.specs.declared.side.Side.{Side}
use Rattle.closing_test.specs.Sides.{AreEndNodes, IsFound}
use Rattle.closing_test.specs.LeastAheads.{IsLeastFor, IsFirstWith, IsFirstAt}

-- The least number for some pairs

-- the least number for the pairs of one kind is the one for the pairs of another, if the two kinds have the same pairs
pub IsLeastFor-same : {A B : ℕ → Type 0} {Goes : ℕ → ℕ → Type 0} {n : ℕ} → ((p : ℕ) → A p ↔ B p) → IsLeastFor A Goes n → IsLeastFor B Goes n
IsLeastFor-same same h = record {
  some = h.some;
  apart = λ p here. h.apart p ((same p).1 here);
  needed = λ j e. let found = h.needed j e in (found.0, (same found.0).0 found.1, found.2);
}

-- the greater of two numbers by their order is the one that `max` gives
ord_max-max : (m n : ℕ) → ord_max nat_cmp m n ≡ max m n
ord_max-max m n = let order = ranked n m (nat_cmp n m) refl in grind arith

-- the greater of two numbers is at most what both are
pub ord_max-le : {m n k : ℕ} (bound : ℕ) → k ≡ ord_max nat_cmp m n → m ≤ bound → n ≤ bound → k ≤ bound
ord_max-le {m} {n} bound e l h = omega (arith, e, ord_max-max m n)

-- the pairs of the numbers below i
abbrev pub Below : (ℕ → ℕ → Type 0) → ℕ → ℕ → Type 0
Below Of i p = (j : ℕ) × (j < i) × Of j p

-- the least number of the pairs of one number more is the greater one of both
pub IsLeastFor-next : (side : Side) {r : LocalRule} {Of : ℕ → ℕ → Type 0} {i m n k : ℕ} → IsRule r → IsLeastFor (Below Of i) (PairGoes side r) m
    → IsLeastFor (Of i) (PairGoes side r) n
    → k ≡ ord_max nat_cmp m n → IsLeastFor (Below Of (i + 1)) (PairGoes side r) k
IsLeastFor-next side {r} {Of} {i} {m} {n} {k} rule before here e =
    let most : k ≡ max m n = e ∙ ord_max-max m n in
    record {
      some = omega (arith, before.some);
      apart = λ p (j, l, of). below_more (λ j. Of j p → ¬ PairGoes side r p (k - 1)) i
          (λ j l of goes. before.apart p (j, l, of) (PairGoes-less side rule p (m - 1) (k - 1) (omega arith) goes))
          (λ of goes. here.apart p of (PairGoes-less side rule p (n - 1) (k - 1) (omega arith) goes)) j l of;
      needed = λ j two. ⊎_elim
          (λ less. let (p, of, goes) = here.needed j (omega arith) in (p, (i, omega arith, of), goes))
          (λ more. let (p, (l, below, of), goes) = before.needed j (omega arith) in (p, (l, omega (arith, below), of), goes))
          (cases_lt m n);
    }

-- the pair of the nodes at the ends goes on together as the nodes do
pub end_pair-goes : (side : Side) (r : LocalRule) (w a u v n : ℕ) → AreEndNodes side r w a u v
    → PairGoes side r (end_pair side r w a) n ↔ Together side r u v n
end_pair-goes side r w a u v n ends =
    rw (← ends.first, ← ends.second) (PairGoes-pair_of side r u v n ends.node)

-- where the nodes have a rank, the least number of their first pair is 2 more
pub IsLeastFor-rank : (side : Side) (r : LocalRule) (w a u v n : ℕ) → IsFound side r w a u v → IsRank (Together side r u v) n
    → IsLeastFor (IsFirstWith side r w a) (PairGoes side r) (n + 2)
IsLeastFor-rank side r w a u v n found rank =
    let less : n + 2 - 1 ≡ n + 1 = omega arith in
    let goes = λ (j : ℕ). end_pair-goes side r w a u v j found.ends in
    record {
      some = omega arith;
      apart = λ p (_, e) there. rank.no_more ((goes (n + 1)).0 (rw (e, less) at there));
      needed = λ j e. let same : j ≡ n = omega arith in (end_pair side r w a, (found.first, refl), (goes j).1 (rw same rank.holds));
    }

-- the least number over all windows is the one of all first pairs
pub IsLeastFor-windows : (side : Side) {r : LocalRule} (n : ℕ) → IsRule r
    → IsLeastFor (Below (IsFirstAt side r) (r.states ^ r.width)) (PairGoes side r) n
    → IsLeastFor (IsFirstOf side r) (PairGoes side r) n
IsLeastFor-windows side {r} n rule h =
    IsLeastFor-same (λ p. (
      λ (w, l, (a, here)). rw here.1 (IsFirst-ends side rule w a here.0),
      λ first. let ends = first_ends side rule first in (ends.0, ends.2.window, (ends.1, (ends.2, ends.3))),
    )) h

-- What the number says of the rule

-- the least number for all first pairs of a side is the least look-ahead
pub IsLeastRightAhead-first : (side : Side) {r : LocalRule} {n : ℕ} → IsRule r → IsLeastFor (IsFirstOf side r) (PairGoes side r) n
    → IsLeastRightAhead (seen_from side r) n
IsLeastRightAhead-first side {r} {n} rule h = record {
  ahead = (ahead_pairs side rule n).1 (h.some, h.apart);
  least = λ k l ahead.
      let pairs = (ahead_pairs side rule k).0 ahead in
      let found = h.needed (n - 2) (omega (arith, pairs.0)) in
      pairs.1 found.0 found.1 (PairGoes-less side rule found.0 (k - 1) (n - 2) (omega arith) found.2);
}
