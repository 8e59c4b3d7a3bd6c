-- Whether two nodes begin or end together for n can be decided, and so whether they have a rank or are endless.
use Rattle.std.proofs.Common.{◌≡◌, ◌≢◌, ℕ, zero, suc, ◌<◌, ◌⊎◌, inl, inr, Option, Some, None, refl, sym, subst, ⊎_elim, arith}
use Rattle.word_image.proofs.Common.{cases_eq, cases_lt, none-some, same_Some, LocalRule, IsRule, node_count, first_of, second_of, pair_of, pair_count, follow_on, IsRank, IsEndless, PairGoes, Together, some_below, exists_below}
use Rattle.word_image.specs.declared.side.Side.{Side}
use Rattle.pair_laws.proofs.Ranks.{Together-below, Together-zero}
use Rattle.pair_laws.proofs.Pairs.{pair-below, first_of-below, second_of-below, pair_of-below, PairGoes-pair_of, PairGoes-step, PairGoes-push}
use Rattle.pair_laws.proofs.BackSteps.{LeadsOn-follows}
use Rattle.pair_laws.proofs.Endless.{Together-endless}

-- whether what is given has a property that can be decided
given_decide : (P : ℕ → Type 0) → ((q : ℕ) → P q ⊎ ¬ P q) → (o : Option ℕ) → ((q : ℕ) × (o ≡ Some q) × P q) ⊎ ¬ ((q : ℕ) × (o ≡ Some q) × P q)
given_decide P decide None = inr (λ (q, is, holds). none-some q is)
given_decide P decide (Some q) = ⊎_elim (λ holds. inl (q, refl, holds)) (λ fails. inr (λ (s, is, holds). fails (subst P (sym (same_Some q s is)) holds))) (decide q)

-- a pair goes on for n or doesn't
PairGoes-decide : (side : Side) {r : LocalRule} → IsRule r → (n p : ℕ) → p < pair_count r → PairGoes side r p n ⊎ ¬ PairGoes side r p n
PairGoes-decide side {r} rule zero p inside = inl (Together-zero side r (first_of r p) (second_of r p) (first_of-below rule p inside) (second_of-below rule p))
PairGoes-decide side {r} rule (suc n) p inside =
    let goes : (q : ℕ) → PairGoes side r q n ⊎ ¬ PairGoes side r q n = λ q.
    ⊎_elim (λ below. PairGoes-decide side rule n q below) (λ past. inr (λ h. omega (arith, past, pair-below rule q (Together-below side r (first_of r q) (second_of r q) n h).0))) (cases_lt q (pair_count r)) in
    let Leads : ℕ → ℕ → Type 0 = λ a b. (q : ℕ) × (follow_on side r p a b ≡ Some q) × PairGoes side r q n in
    let steps = λ (q : ℕ). LeadsOn-follows side rule p q inside in
    ⊎_elim
    (λ (a, in_a, (b, in_b, (q, follows, on))). inl (PairGoes-push side rule p q n (suc n) (omega arith) ((steps q).1 (a, b, in_a, in_b, follows)) on))
    (λ none. inr (λ h.
    let (q, step, on) = PairGoes-step side rule p n (suc n) (omega arith) h in
    let (a, b, in_a, in_b, follows) = (steps q).0 step in
    none a in_a (b, in_b, (q, follows, on))))
    (some_below (λ a. (b : ℕ) × (b < r.states) × Leads a b) (λ a. exists_below (Leads a) (λ b. given_decide (λ q. PairGoes side r q n) goes (follow_on side r p a b)) r.states) r.states)

-- two nodes go on together for n or don't
pub Together-decide : (side : Side) {r : LocalRule} → IsRule r → (n u v : ℕ) → u < node_count r → v < node_count r
    → Together side r u v n ⊎ ¬ Together side r u v n
Together-decide side {r} rule n u v hu hv =
    let same = PairGoes-pair_of side r u v n hv in
    ⊎_elim (λ h. inl (same.0 h)) (λ none. inr (λ h. none (same.1 h))) (PairGoes-decide side rule n (pair_of r u v) (pair_of-below r u v hu hv))

-- two runs of n numbers are the same, or differ at a place
pub differ_below : (f g : ℕ → ℕ) (n : ℕ) → ((i : ℕ) → i < n → f i ≡ g i) ⊎ ((i : ℕ) × (i < n) × (f i ≢ g i))
differ_below f g n =
    ⊎_elim
    (λ differ. inr differ)
    (λ none. inl (λ i l. ⊎_elim (λ same. same) (λ other. absurd (none i l other)) (cases_eq (f i) (g i))))
    (some_below (λ i. f i ≢ g i) (λ i. ⊎_elim (λ same. inr (λ other. other same)) (λ other. inl other) (cases_eq (f i) (g i))) n)

-- what holds at 0 holds at k, or there is a last number below k up to which it does
last_below : (P : ℕ → Type 0) → ((n : ℕ) → P n ⊎ ¬ P n) → P 0 → (k : ℕ) → P k ⊎ ((n : ℕ) × IsRank P n)
last_below P decide first zero = inl first
last_below P decide first (suc k) = grind (arith, last_below P decide first k)

-- two nodes have a rank or are endless
pub Together-rank : (side : Side) {r : LocalRule} → IsRule r → (u v : ℕ) → u < node_count r → v < node_count r
    → ((n : ℕ) × IsRank (Together side r u v) n) ⊎ IsEndless (Together side r u v)
Together-rank side {r} rule u v hu hv =
    ⊎_elim (λ long. inr (Together-endless side rule u v (pair_count r) (omega arith) long)) (λ rank. inl rank)
    (last_below (Together side r u v) (λ n. Together-decide side rule n u v hu hv) (Together-zero side r u v hu hv) (pair_count r))
