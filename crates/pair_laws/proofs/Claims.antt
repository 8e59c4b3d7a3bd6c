-- Numbers that are claimed of pairs: where they fall on a side along every step, they bound for how long a pair goes on together to it.
use Rattle.std.proofs.Common.{◌≡◌, ℕ, zero, suc, ◌+◌, ◌<◌, ◌≤◌, ◌⊎◌, inl, inr, Option, Some, None, refl, subst, ⊎_elim, arith, MatchOption}
use Rattle.word_image.proofs.Common.{cases_lt, LocalRule, IsRule, pair_count, LeadsOn, IsRank, IsEndless, PairGoes}
use Rattle.word_image.specs.declared.side.Side.{Side}
use Rattle.pair_laws.proofs.Pairs.{LeadsOn-from, LeadsOn-below, PairGoes-less, PairGoes-step, PairGoes-push}

-- less than n is claimed of the pair
abbrev pub ClaimsBelow : (ℕ → Option ℕ) → ℕ → ℕ → Type 0
ClaimsBelow claim p n = (m : ℕ) × (claim p ≡ Some m) × (m < n)

-- where n is claimed of a pair, less is claimed of each pair to which it leads on
abbrev pub FallsOn : Side → LocalRule → (ℕ → Option ℕ) → Type 0
FallsOn side r claim = (p : ℕ) → p < pair_count r → (n q : ℕ) → claim p ≡ Some n → LeadsOn side r p q → ClaimsBelow claim q n

-- a claim that falls is a bound
pub PairGoes-claim : (side : Side) {r : LocalRule} {claim : ℕ → Option ℕ} → IsRule r → FallsOn side r claim → (j p n : ℕ) → claim p ≡ Some n
    → PairGoes side r p j → j ≤ n
PairGoes-claim side rule falls zero p n e h = omega arith
PairGoes-claim side rule falls (suc j) p n e h =
    let (q, step, rest) = PairGoes-step side rule p j (suc j) (omega arith) h in
    let below = falls p (LeadsOn-from side rule p q step) n q e step in
    omega (arith, PairGoes-claim side rule falls j q below.0 below.1 rest, below.2)

-- where a falling claim claims less than n of a pair, the pair doesn't go on for n
pub PairGoes-claims_below : (side : Side) {r : LocalRule} {claim : ℕ → Option ℕ} → IsRule r → FallsOn side r claim → (p n : ℕ) → ClaimsBelow claim p n
    → ¬ PairGoes side r p n
PairGoes-claims_below side rule falls p n below h = omega (arith, PairGoes-claim side rule falls n p below.0 below.1 h, below.2)

-- the exact rank of each pair is claimed, and nothing where it is endless
abbrev pub ClaimsRanks : Side → LocalRule → (ℕ → Option ℕ) → Type 0
ClaimsRanks side r claim = (p : ℕ) → p < pair_count r → MatchOption (claim p) (IsEndless (PairGoes side r p)) (IsRank (PairGoes side r p))

-- where what holds of a number holds of each less one: for n it holds, or the exact rank is below n
rank-cases : (P : ℕ → Type 0) (claim : ℕ → Option ℕ) (p n : ℕ) → ((i j : ℕ) → i ≤ j → P j → P i)
    → (o : Option ℕ) → claim p ≡ o → MatchOption o (IsEndless P) (IsRank P) → P n ⊎ ClaimsBelow claim p n
rank-cases P claim p n less None e endless = inl (endless n)
rank-cases P claim p n less (Some m) e rank = ⊎_elim (λ l. inr (m, e, l)) (λ l. inl (less n m l rank.holds)) (cases_lt m n)

-- for each n a pair goes on together for n, or its exact rank is below n
pub PairGoes-ranks : (side : Side) {r : LocalRule} → IsRule r → (claim : ℕ → Option ℕ) → ClaimsRanks side r claim → (p n : ℕ) → p < pair_count r
    → PairGoes side r p n ⊎ ClaimsBelow claim p n
PairGoes-ranks side {r} rule claim ranks p n h = rank-cases (PairGoes side r p) claim p n (λ i j l b. PairGoes-less side rule p i j l b) (claim p) refl (ranks p h)

-- exact ranks fall
pub FallsOn-ranks : (side : Side) {r : LocalRule} → IsRule r → (claim : ℕ → Option ℕ) → ClaimsRanks side r claim → FallsOn side r claim
FallsOn-ranks side {r} rule claim ranks p hp n q e step =
    let rank : IsRank (PairGoes side r p) n = subst (λ (o : Option ℕ). MatchOption o (IsEndless (PairGoes side r p)) (IsRank (PairGoes side r p))) e (ranks p hp) in
    ⊎_elim (λ h. absurd (rank.no_more (PairGoes-push side rule p q n (n + 1) refl step h))) (λ below. below)
    (PairGoes-ranks side rule claim ranks q n (LeadsOn-below side rule p q step))
