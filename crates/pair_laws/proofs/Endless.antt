-- Endless pairs: a walk of as many steps as there are pairs goes through one pair twice, so it can be made as long as one likes.
use Rattle.std.proofs.Common.{ℕ, zero, suc, ◌+◌, ◌-◌, ◌<◌, ◌≤◌, refl, subst₂, ⊎_elim, arith}
use Rattle.word_image.proofs.Common.{cases_lt, same_from_place, LocalRule, IsRule, node_count, pair_of, pair_count, LeadsOn, IsRank, IsEndless, Together, PairGoes, twice_below}
use Rattle.word_image.specs.declared.side.Side.{Side}
use Rattle.word_image.specs.declared.side.Side.TheVariants.{Right, Left}
use Rattle.pair_laws.proofs.Walks.{LeadTogether, place_node, HaveOneImage-between, LeadTogether-front, LeadTogether-rest, LeadTogether-join, LeadTogether-first, LeadTogether-none}
use Rattle.pair_laws.proofs.Ranks.{LeadTogether-begin, LeadTogether-end, BeginTogether-walk, EndTogether-walk, Together-less, Together-zero}
use Rattle.pair_laws.proofs.Pairs.{first_of-below, second_of-below, pair_of-below, LeadsOn-from, PairGoes-step, PairGoes-push}

-- a walk from u and v to p and q is at s and t after i steps, again l + 1 steps later, which is within as many steps as there are pairs, and goes on for k
pub record Loops (r : LocalRule) (u v p q : ℕ) : Type 0 where
  pub s : ℕ
  pub t : ℕ
  pub i : ℕ
  pub l : ℕ
  pub k : ℕ
  pub within : i + suc l ≤ pair_count r
  pub before : LeadTogether r u v i s t
  pub loop : LeadTogether r s t (suc l) s t
  pub after : LeadTogether r s t k p q

-- a walk of as many steps as there are pairs comes back to one of its pairs
pub Loops-long : {r : LocalRule} {u v p q n : ℕ} → IsRule r → pair_count r ≤ n → LeadTogether r u v n p q → Loops r u v p q
Loops-long {r} {u} {v} {p} {q} {n} rule many h =
    let f : ℕ → ℕ = λ i. pair_of r (place_node r h.x i) (place_node r h.y i) in
    let nodes : (i : ℕ) → i ≤ n → (place_node r h.x i < node_count r) × (place_node r h.y i < node_count r) = λ i l. LeadTogether-first (LeadTogether-rest rule i (n - i) (omega arith) h) in
    let twice = twice_below (pair_count r) f (λ i l. let within = nodes i (omega arith) in pair_of-below r _ _ within.0 within.1) in
    let i : ℕ = twice.0 in
    let j : ℕ = twice.1 in
    let same = same_from_place (place_node r h.x i) (place_node r h.y i) (place_node r h.x j) (place_node r h.y j) (node_count r) (nodes i (omega arith)).1 (nodes j (omega arith)).1 twice.4 in
    let loop = HaveOneImage-between rule i (suc (j - i - 1)) j (n - j) n (omega arith) (omega arith) h.one_image in
    record {
      s = place_node r h.x j;
      t = place_node r h.y j;
      i = i;
      l = j - i - 1;
      k = n - j;
      within = omega arith;
      before = subst₂ (LeadTogether r u v i) same.0 same.1 (LeadTogether-front rule i (n - i) (omega arith) h);
      loop = subst₂ (λ (a b : ℕ). LeadTogether r a b (suc (j - i - 1)) (place_node r h.x j) (place_node r h.y j)) same.0 same.1 loop;
      after = LeadTogether-rest rule j (n - j) (omega arith) h;
    }

-- round a loop a walk goes on as long as one likes
around : {r : LocalRule} {s t l : ℕ} → IsRule r → LeadTogether r s t (suc l) s t → (n : ℕ) → (m : ℕ) × (n ≤ m) × LeadTogether r s t m s t
around {r} {s} {t} rule loop zero = let nodes = LeadTogether-first loop in (0, omega arith, LeadTogether-none r s t nodes.0 nodes.1)
around {l = l} rule loop (suc n) = let rest = around rule loop n in (suc l + rest.0, omega (arith, rest.1), LeadTogether-join rule refl loop rest.2)

-- two nodes that go on together for as many letters as there are pairs do for all
pub Together-endless : (side : Side) {r : LocalRule} → IsRule r → (u v m : ℕ) → pair_count r ≤ m → Together side r u v m
    → IsEndless (Together side r u v)
Together-endless Right rule u v m many h n =
    let w = Loops-long rule many (BeginTogether-walk h).2 in
    let rounds = around rule w.loop n in
    Together-less Right rule u v n _ (omega (arith, rounds.1)) (LeadTogether-begin (LeadTogether-join {n = w.i + rounds.0} rule refl w.before rounds.2))
Together-endless Left rule u v m many h n =
    let w = Loops-long rule many (EndTogether-walk h).2 in
    let rounds = around rule w.loop n in
    Together-less Left rule u v n _ (omega (arith, rounds.1)) (LeadTogether-end (LeadTogether-join {n = rounds.0 + w.k} rule refl rounds.2 w.after))

-- a rank is below the number of pairs
pub IsRank-below : (side : Side) {r : LocalRule} → IsRule r → (u v n : ℕ) → IsRank (Together side r u v) n → n < pair_count r
IsRank-below side {r} rule u v n rank = ⊎_elim (λ l. l) (λ many. absurd (rank.no_more (Together-endless side rule u v n many rank.holds (n + 1)))) (cases_lt n (pair_count r))

-- pairs of which each leads on to one of them are endless
pub PairGoes-closed : (side : Side) {r : LocalRule} → IsRule r → (Q : ℕ → Type 0) → ((p : ℕ) → Q p → (q : ℕ) × LeadsOn side r p q × Q q) → (n p : ℕ)
    → Q p → PairGoes side r p n
PairGoes-closed side {r} rule Q closed zero p h =
    let (q, step, rest) = closed p h in
    Together-zero side r _ _ (first_of-below rule p (LeadsOn-from side rule p q step)) (second_of-below rule p)
PairGoes-closed side rule Q closed (suc n) p h =
    let (q, step, rest) = closed p h in
    PairGoes-push side rule p q n (suc n) (omega arith) step (PairGoes-closed side rule Q closed n q rest)

-- where all pairs that go on for n do for n + 1, they are endless
pub PairGoes-stable : (side : Side) {r : LocalRule} → IsRule r → (n : ℕ) → ((p : ℕ) → PairGoes side r p n → PairGoes side r p (n + 1)) → (p : ℕ)
    → PairGoes side r p n → IsEndless (PairGoes side r p)
PairGoes-stable side {r} rule n stable p h j = PairGoes-closed side rule (λ q. PairGoes side r q n) (λ q g. PairGoes-step side rule q n (n + 1) refl (stable q g)) j p h
