-- A finite rank is less than the number of pairs of two different nodes, taken without order: each lesser number is a rank too, two nodes have one rank in either order, and a node is endless with itself.
use Rattle.std.proofs.Common.{◌≡◌, ℕ, zero, suc, ◌+◌, ◌-◌, ◌*◌, ◌<◌, ◌≤◌, ◌⊎◌, inl, inr, Option, Some, None, List, refl, sym, arith, ⊎_elim, MatchOption, IfSome, mul-le-mul_right}
use Rattle.word_image.proofs.Common.{cases_eq, cases_lt, same_from_place, LocalRule, IsRule, node_count, first_of, second_of, pair_of, pair_count, PairGoes, IsRank, IsEndless, twice_below, Together, HaveOneImage}
use Rattle.pair_laws.proofs.Common.{first_of-pair_of, second_of-pair_of, pair_of-below, IsRank-one, PairGoes-push, PairGoes-step, Together-below, Together-less}
use Rattle.word_image.specs.declared.side.Side.{Side}
use Rattle.word_image.specs.declared.side.Side.TheVariants.{Right, Left}
use Rattle.pair_laws.proofs.Mirrors.{Together-same}
use Rattle.pair_rank.specs.Sides.{AreRanks, rank_at, most_rank}

-- there is a pair of each rank up to that of any pair
lesser_rank : (side : Side) {r : LocalRule} → IsRule r → (n p : ℕ) → IsRank (PairGoes side r p) n → (i : ℕ) → i ≤ n
    → (q : ℕ) × IsRank (PairGoes side r q) i
lesser_rank side rule zero p rank i l = let none : i ≡ 0 = omega arith in (p, rw none rank)
lesser_rank side {r} rule (suc n) p rank i l =
    ⊎_elim (λ same. (p, rw same rank)) (λ other.
    let (q, step, goes) = PairGoes-step side rule p n (suc n) (omega arith) rank.holds in
    lesser_rank side rule n q (record { holds = goes; no_more = λ more. rank.no_more (PairGoes-push side rule p q (n + 1) (suc n + 1) (omega arith) step more) }) i (omega (arith, other)))
    (cases_eq i (suc n))

-- two words that have one image have it in the other order too
HaveOneImage-turned : {r : LocalRule} {n : ℕ} {x y : List ℕ} → HaveOneImage r n x y → HaveOneImage r n y x
HaveOneImage-turned h = record { first = h.second; second = h.first; first_long = h.second_long; second_long = h.first_long; one_image = sym h.one_image }

-- two nodes go on together in either order
Together-turned : (side : Side) (r : LocalRule) (u v n : ℕ) → Together side r u v n → Together side r v u n
Together-turned Right r u v n h = record { x = h.y; y = h.x; one_image = HaveOneImage-turned h.one_image; first = h.second; second = h.first }
Together-turned Left r u v n h = record { x = h.y; y = h.x; one_image = HaveOneImage-turned h.one_image; first = h.second; second = h.first }

-- two nodes have one rank in either order
IsRank-turned : (side : Side) (r : LocalRule) (u v n : ℕ) → IsRank (Together side r u v) n → IsRank (Together side r v u) n
IsRank-turned side r u v n rank = record { holds = Together-turned side r u v n rank.holds; no_more = λ more. rank.no_more (Together-turned side r v u (n + 1) more) }

-- two nodes of one rank, the lesser first
abbrev Ordered : Side → LocalRule → ℕ → Type 0
Ordered side r i = (u : ℕ) × (v : ℕ) × (u < v) × IsRank (Together side r u v) i

-- two nodes that have a rank differ, so one of them is the lesser
ordered : (side : Side) {r : LocalRule} → IsRule r → (u v i : ℕ) → IsRank (Together side r u v) i → Ordered side r i
ordered side {r} rule u v i rank =
    ⊎_elim (λ less. (u, v, less, rank)) (λ other. ⊎_elim
    (λ same. absurd (rank.no_more (rw (← same) (Together-same side rule (i + 1) u (Together-below side r u v i rank.holds).0))))
    (λ apart. (v, u, omega (arith, other, apart), IsRank-turned side r u v i rank))
    (cases_eq u v))
    (cases_lt u v)

-- two nodes have number i among those of each rank up to n: first the lesser first, then the lesser last, and then each node with itself
abbrev Kind : Side → LocalRule → ℕ → ℕ → ℕ → ℕ → Type 0
Kind side r n u v i =
    ((i ≤ n) × (u < v) × IsRank (Together side r u v) i)
    ⊎ (((n < i) × (v < u) × IsRank (Together side r u v) (i - suc n)) ⊎ ((n + suc n < i) × (u ≡ i - (suc n + suc n)) × (v ≡ u)))

record Listed (side : Side) (r : LocalRule) (n i : ℕ) : Type 0 where
  u : ℕ
  v : ℕ
  kind : Kind side r n u v i

listed : (side : Side) {r : LocalRule} → IsRule r → (n u v : ℕ) → IsRank (Together side r u v) n → (i : ℕ) → Listed side r n i
listed side {r} rule n u v rank i =
    let second = (Together-below side r u v n rank.holds).1 in
    let pair : IsRank (PairGoes side r (pair_of r u v)) n = rw (first_of-pair_of r u v second, second_of-pair_of r u v second) rank in
    let at : (j : ℕ) → j ≤ n → Ordered side r j = λ j l. let (q, of_rank) = lesser_rank side rule n (pair_of r u v) pair j l in ordered side rule (first_of r q) (second_of r q) j of_rank in
    ⊎_elim
    (λ later. ⊎_elim
    (λ last. record { u = i - (suc n + suc n); v = i - (suc n + suc n); kind = inr (inr (last, refl, refl)) })
    (λ within. let (s, t, less, its) = at (i - suc n) (omega (arith, within)) in record { u = t; v = s; kind = inr (inl (later, less, IsRank-turned side r s t (i - suc n) its)) })
    (cases_lt (n + suc n) i))
    (λ within. let (s, t, less, its) = at i within in record { u = s; v = t; kind = inl (within, less, its) })
    (cases_lt n i)

-- what is listed are nodes
listed-below : (side : Side) {r : LocalRule} {n i : ℕ} → i < suc n + suc n + node_count r → (l : Listed side r n i)
    → (l.u < node_count r) × (l.v < node_count r)
listed-below side {r} {n} {i} within l =
    ⊎_elim (λ k. Together-below side r l.u l.v i k.2.holds)
    (λ more. ⊎_elim (λ k. Together-below side r l.u l.v (i - suc n) k.2.holds) (λ k. (omega (arith, within, k.0, k.1), omega (arith, within, k.0, k.1, k.2))) more)
    l.kind

-- two nodes have one number
kind_once : (side : Side) {r : LocalRule} → IsRule r → (n u v i j : ℕ) → Kind side r n u v i → Kind side r n u v j → i ≡ j
kind_once side {r} rule n u v i j (inl k) (inl m) = IsRank-one (Together side r u v) (Together-less side rule u v) i j k.2 m.2
kind_once side rule n u v i j (inl k) (inr m) = ⊎_elim (λ other. omega arith) (λ other. omega arith) m
kind_once side rule n u v i j (inr k) (inl m) = ⊎_elim (λ other. omega arith) (λ other. omega arith) k
kind_once side {r} rule n u v i j (inr (inl k)) (inr (inl m)) = omega (arith, IsRank-one (Together side r u v) (Together-less side rule u v) (i - suc n) (j - suc n) k.2 m.2)
kind_once side rule n u v i j (inr (inl k)) (inr (inr m)) = omega arith
kind_once side rule n u v i j (inr (inr k)) (inr m) = ⊎_elim (λ other. omega arith) (λ other. omega arith) m

-- there are more ordered pairs of different nodes than twice as many as a rank says
pub IsRank-apart : (side : Side) {r : LocalRule} → IsRule r → (u v n : ℕ) → IsRank (Together side r u v) n → 2 * (n + 1) + node_count r ≤ pair_count r
IsRank-apart side {r} rule u v n rank =
    ⊎_elim
    (λ many.
    let at : (i : ℕ) → Listed side r n i = listed side rule n u v rank in
    let nodes : (i : ℕ) → i ≤ pair_count r → ((at i).u < node_count r) × ((at i).v < node_count r) = λ i l. listed-below side (omega (arith, many, l)) (at i) in
    let (i, j, less, within, one) = twice_below (pair_count r) (λ i. pair_of r (at i).u (at i).v) (λ i l. pair_of-below r (at i).u (at i).v (nodes i l).0 (nodes i l).1) in
    let (first, second) = same_from_place (at i).u (at i).v (at j).u (at j).v (node_count r) (nodes i (omega (arith, less, within))).1 (nodes j within).1 one in
    absurd (omega (arith, less, kind_once side rule n (at i).u (at i).v i j (at i).kind (rw (first, second) (at j).kind))))
    (λ few. omega (arith, few))
    (cases_lt (pair_count r) (2 * (n + 1) + node_count r))

-- a rank of two nodes is at most 119
pub IsRank-most : (side : Side) {r : LocalRule} → IsRule r → (u v n : ℕ) → IsRank (Together side r u v) n → n ≤ most_rank
IsRank-most side {r} rule u v n rank = omega (arith, rule.shape.most_nodes, IsRank-apart side rule u v n rank, mul-le-mul_right (node_count r) rule.shape.most_nodes)

-- each rank that is given is at most 119
rank-most : (side : Side) {r : LocalRule} → IsRule r → (u v : ℕ) (rank : Option ℕ)
    → MatchOption rank (IsEndless (Together side r u v)) (IsRank (Together side r u v)) → IfSome rank (λ n. n ≤ most_rank)
rank-most side rule u v None endless = tt
rank-most side rule u v (Some n) exact = IsRank-most side rule u v n exact

-- each rank of a table is at most 119
pub AreRanks-most : (side : Side) {q r : LocalRule} (ranks : List (Option ℕ)) → IsRule q → q ≡ r → AreRanks side q ranks → (u v : ℕ)
    → u < node_count r → v < node_count r → IfSome (rank_at ranks u v) (λ n. n ≤ most_rank)
AreRanks-most side ranks rule same exact u v first second =
    rank-most side (rw same at rule) u v (rank_at ranks u v) ((rw same at exact) u v first second)
