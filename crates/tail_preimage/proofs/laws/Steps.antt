-- Steps of a relation between at most 16 nodes: one after another, round and round, and that 16 of them pass some node twice.
use Rattle.std.proofs.Common.{◌≡◌, ℕ, zero, suc, ◌+◌, ◌-◌, ◌*◌, ◌<◌, ◌≤◌, replicate, refl, sym, subst, arith, suc-mul, zero-mul, mul-le-mul_left}
use Rattle.word_image.proofs.Common.{replicate-append-replicate, twice_below}
use Rattle.search_laws.proofs.Common.{Walk, Walk-join, Walk-cut}
use Rattle.tail_preimage.specs.Relations.{Unlettered, Steps, Open, Rounds, SomeRounds}

-- no step stays
pub Steps-none : {E : ℕ → ℕ → Type 0} {u v : ℕ} → u ≡ v → Steps E 0 u v
Steps-none e = record { walk = e }

pub Steps-stay : {E : ℕ → ℕ → Type 0} {u v : ℕ} → Steps E 0 u v → u ≡ v
Steps-stay h = h.walk

-- a step before others
pub Steps-cons : {E : ℕ → ℕ → Type 0} {n u w v : ℕ} → E u w → Steps E n w v → Steps E (suc n) u v
Steps-cons {w = w} step h = record { walk = (w, step, h.walk) }

-- the first step, and the others
pub Steps-first : {E : ℕ → ℕ → Type 0} {n u v : ℕ} → Steps E (suc n) u v → (w : ℕ) × E u w × Steps E n w v
Steps-first h = let (w, step, rest) = h.walk in (w, step, record { walk = rest })

-- steps in a row
pub Steps-add : {E : ℕ → ℕ → Type 0} {u v w : ℕ} → (i j : ℕ) → Steps E i u v → Steps E j v w → Steps E (i + j) u w
Steps-add i j h g = grind (arith, replicate-append-replicate, Walk-join)

-- where steps lead from nodes to nodes, they end with one
pub Steps-end : {E : ℕ → ℕ → Type 0} {count n u v : ℕ} → ((a b : ℕ) → a < count → E a b → b < count) → u < count → Steps E n u v → v < count
Steps-end {n = zero} closed node h = omega (arith, node, Steps-stay h)
Steps-end {n = suc n} {u = u} closed node h = let (w, step, rest) = Steps-first h in Steps-end {n = n} closed (closed u w node step) rest

-- i + j steps are i steps, and j others
Steps-cut : {E : ℕ → ℕ → Type 0} {u v : ℕ} → (i j : ℕ) → Steps E (i + j) u v → (w : ℕ) × Steps E i u w × Steps E j w v
Steps-cut {E} {u} {v} i j h =
    let (w, first, second) = Walk-cut (Unlettered E) (replicate i tt) (replicate j tt) u v (subst (λ l. Walk (Unlettered E) u l v) (sym (replicate-append-replicate i j tt)) h.walk) in
    (w, record { walk = first }, record { walk = second })

-- the node after i of n steps
abbrev after : {E : ℕ → ℕ → Type 0} (n : ℕ) {u v : ℕ} → Steps E n u v → ℕ → ℕ
after n {u} h zero = u
after zero {u} h (suc i) = u
after (suc n) h (suc i) = after n {u = h.walk.0} (record { walk = h.walk.2 }) i

-- steps lead from the node after i of n steps to the node after k of them
Steps-between : {E : ℕ → ℕ → Type 0} (n : ℕ) {u v : ℕ} (h : Steps E n u v) (i j k : ℕ) → i + j ≡ k → k ≤ n → Steps E j (after n h i) (after n h k)
Steps-between n h zero zero zero e l = Steps-none refl
Steps-between zero h i j (suc k) e l = absurd (omega arith)
Steps-between (suc n) h zero (suc j) (suc k) e l = Steps-cons h.walk.1 (Steps-between n (record { walk = h.walk.2 }) zero j k (omega arith) (omega arith))
Steps-between (suc n) h (suc i) j (suc k) e l = Steps-between n (record { walk = h.walk.2 }) i j k (omega arith) (omega arith)
Steps-between n h zero zero (suc k) e l = absurd (omega arith)
Steps-between n h zero (suc j) zero e l = absurd (omega arith)
Steps-between n h (suc i) j zero e l = absurd (omega arith)

-- where 16 steps lead somewhere, some steps lead to a node to which others lead back, at most 16 in all
pub SomeRounds-open : {E : ℕ → ℕ → Type 0} {count u : ℕ} → count ≤ 16 → ((a b : ℕ) → a < count → E a b → b < count) → u < count → Open E 16 u
    → (sum : ℕ) × (sum ≤ 16) × SomeRounds E sum u
SomeRounds-open {E} few closed node (v, h) =
    let (i, j, less, most, same) = twice_below 16 (after 16 h) (λ k l. let below = Steps-end closed node (Steps-between 16 h 0 k k (omega arith) l) in omega arith) in
    let there : i + (j - i) ≡ j = omega arith in
    (j, most, (i, j - i, there, omega arith, (after 16 h i, Steps-between 16 h 0 i i (omega arith) (omega arith), subst (Steps E (j - i) (after 16 h i)) (sym same) (Steps-between 16 h i (j - i) j there most))))

-- steps that lead from a node back to it lead round as often as one likes
Steps-round : {E : ℕ → ℕ → Type 0} {on v : ℕ} → Steps E on v v → (n : ℕ) → Steps E (n * on) v v
Steps-round {E} {on} {v} h zero = subst (λ m. Steps E m v v) (sym (zero-mul on)) (Steps-none refl)
Steps-round h (suc n) = grind (arith, suc-mul, Steps-add, Steps-round h n)

-- where it goes round as often as one likes, any number of steps leads somewhere
pub Open-rounds : (E : ℕ → ℕ → Type 0) (n on u : ℕ) → 1 ≤ on → Rounds E n on u → (b : ℕ) → Open E b u
Open-rounds E n on u some (v, to, round) b =
    let many : b * 1 ≤ b * on = mul-le-mul_left b some in
    let (w, first, rest) = Steps-cut b (n + b * on - b) (subst (λ i. Steps E i u v) (sym (omega arith)) (Steps-add n (b * on) to (Steps-round round b))) in
    (w, first)

-- rounds of one side, whose sum is known, by their number
pub exact_rounds : (E : ℕ → ℕ → Type 0) (n m on sum v : ℕ) → n ≡ m → n + on ≡ sum → Rounds E n on v → Rounds E m (sum - m) v
exact_rounds E n m on sum v same both h = grind arith
