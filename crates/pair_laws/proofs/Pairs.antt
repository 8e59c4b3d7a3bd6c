-- Pairs of nodes by their numbers: how walks, and so the lengths for which a pair begins and ends together, go along `follow`.
use Rattle.std.proofs.Common.{◌≡◌, ℕ, ◌+◌, ◌<◌, ◌≤◌, ◌↔◌, Some, None, ap₂, subst, ◌∙◌, arith, mod-lt, ◌*◌, ◌%◌, ◌==◌, if◌then◌else◌, ◌||◌, not, nat_le, eq-eqb, div-add-mod'}
use Rattle.word_image.proofs.Common.{cond-true, nat_tests, mul-add-lt, div_below, div-mul-add, mod-mul-add, LocalRule, IsRule, node_count, next, label, follow, pair_of, first_of, second_of, pair_count, LeadsOn, PairStep, marked, Together, PairGoes, node_count_pos, next-below}
use Rattle.word_image.specs.declared.side.Side.{Side}
use Rattle.word_image.specs.declared.side.Side.TheVariants.{Right, Left}
use Rattle.pair_laws.proofs.Walks.{LeadTogether, LeadTogether-join, LeadTogether-cut, LeadTogether-first, LeadTogether-last, LeadTogether-edges, LeadTogether-one}
use Rattle.pair_laws.proofs.Ranks.{LeadTogether-begin, LeadTogether-end, BeginTogether-walk, EndTogether-walk, Together-less}

-- the first node of the pair of two nodes
pub first_of-pair_of : (r : LocalRule) (u v : ℕ) → v < node_count r → first_of r (pair_of r u v) ≡ u
first_of-pair_of r u v h = div-mul-add u (node_count r) v h

-- the second node of the pair of two nodes
pub second_of-pair_of : (r : LocalRule) (u v : ℕ) → v < node_count r → second_of r (pair_of r u v) ≡ v
second_of-pair_of r u v h = mod-mul-add u (node_count r) v h

-- a pair is that of its nodes
pub pair_of-first_of : (r : LocalRule) (p : ℕ) → pair_of r (first_of r p) (second_of r p) ≡ p
pair_of-first_of r p = div-add-mod' p (node_count r)

-- the pair of two nodes is one of the pairs
pub pair_of-below : (r : LocalRule) (u v : ℕ) → u < node_count r → v < node_count r → pair_of r u v < pair_count r
pair_of-below r u v hu hv = mul-add-lt u (node_count r) v (node_count r) hu hv

-- a number whose first node is a node is one of the pairs
pub pair-below : {r : LocalRule} → IsRule r → (p : ℕ) → first_of r p < node_count r → p < pair_count r
pair-below {r} rule p h = subst (λ q. q < pair_count r) (pair_of-first_of r p) (pair_of-below r (first_of r p) (second_of r p) h (mod-lt p (node_count_pos rule)))

-- the first node of a pair is a node
pub first_of-below : {r : LocalRule} → IsRule r → (p : ℕ) → p < pair_count r → first_of r p < node_count r
first_of-below {r} rule p h = div_below p (node_count r) (node_count r) (node_count_pos rule) h

-- the second node of a pair is a node
pub second_of-below : {r : LocalRule} → IsRule r → (p : ℕ) → second_of r p < node_count r
second_of-below {r} rule p = mod-lt p (node_count_pos rule)

-- where something is given only if two numbers are equal, and it is given, they are, and it is this
pub some_if_equal : (m n s q : ℕ) → (if m == n then Some s else None) ≡ Some q → (m ≡ n) × (s ≡ q)
some_if_equal m n s q e = grind arith

-- a pair leads on along two edges with one label
pub follow-edges : (r : LocalRule) (p a b : ℕ) → label r (first_of r p) a ≡ label r (second_of r p) b
    → follow r p a b ≡ Some (pair_of r (next r (first_of r p) a) (next r (second_of r p) b))
follow-edges r p a b e = cond-true (label r (first_of r p) a == label r (second_of r p) b) (Some (pair_of r (next r (first_of r p) a) (next r (second_of r p) b))) None (eq-eqb _ _ e)

-- where a pair leads on, it is along two edges with one label
pub follow-some : (r : LocalRule) (p a b q : ℕ) → follow r p a b ≡ Some q
    → (label r (first_of r p) a ≡ label r (second_of r p) b) × (pair_of r (next r (first_of r p) a) (next r (second_of r p) b) ≡ q)
follow-some r p a b q e = some_if_equal (label r (first_of r p) a) (label r (second_of r p) b) _ q e

-- where the pair of two nodes leads
pub follow-pair_of : (r : LocalRule) (u v a b : ℕ) → v < node_count r → label r u a ≡ label r v b
    → follow r (pair_of r u v) a b ≡ Some (pair_of r (next r u a) (next r v b))
follow-pair_of r u v a b h e = grind (arith, first_of-pair_of, second_of-pair_of, follow-edges)

-- where a pair of nodes leads is a pair of nodes
pub follow-below : {r : LocalRule} → IsRule r → (p a b q : ℕ) → follow r p a b ≡ Some q → q < pair_count r
follow-below rule p a b q e = grind (arith, next-below)

-- the mark adds at most once as many states as there are pairs
pub mark-below : (p t a b : ℕ) → (if nat_le p t || not (a == b) then p else 0) ≤ p
mark-below p t a b = grind (arith, nat_tests)

-- a step of the marked graph leads to one of its states
pub marked-below : {r : LocalRule} → IsRule r → (t a b q : ℕ) → marked r t a b ≡ Some q → q < 2 * pair_count r
marked-below {r} rule t a b q e =
    let u : ℕ = first_of r (t % pair_count r) in
    let v : ℕ = second_of r (t % pair_count r) in
    let step = some_if_equal (label r u a) (label r v b) _ q e in
    omega (arith, step.1, pair_of-below r (next r u a) (next r v b) (next-below rule u a) (next-below rule v b), mark-below (pair_count r) t a b)

-- a pair that leads on is a pair
pub LeadsOn-from : (side : Side) {r : LocalRule} → IsRule r → (p q : ℕ) → LeadsOn side r p q → p < pair_count r
LeadsOn-from Right rule p q s = s.in_pairs
LeadsOn-from Left rule p q s = follow-below rule q s.a s.b p s.follows

-- a pair to which one leads is a pair
pub LeadsOn-below : (side : Side) {r : LocalRule} → IsRule r → (p q : ℕ) → LeadsOn side r p q → q < pair_count r
LeadsOn-below Right rule p q s = follow-below rule p s.a s.b q s.follows
LeadsOn-below Left rule p q s = s.in_pairs

-- two nodes go on together exactly where their pair does
pub PairGoes-pair_of : (side : Side) (r : LocalRule) (u v n : ℕ) → v < node_count r → PairGoes side r (pair_of r u v) n ↔ Together side r u v n
PairGoes-pair_of side r u v n h = grind arith

-- a pair that goes on does for less
pub PairGoes-less : (side : Side) {r : LocalRule} → IsRule r → (p i n : ℕ) → i ≤ n → PairGoes side r p n → PairGoes side r p i
PairGoes-less side {r} rule p i n l h = Together-less side rule (first_of r p) (second_of r p) i n l h

-- two edges with one label are a step from pair to pair
pub LeadTogether-pairs : {r : LocalRule} {u v s t : ℕ} → IsRule r → LeadTogether r u v 1 s t → PairStep r (pair_of r u v) (pair_of r s t)
LeadTogether-pairs {r} {u} {v} rule h =
    let (hu, hv) = LeadTogether-first h in
    let (a, b, in_a, in_b, one_label, to_s, to_t) = LeadTogether-one rule h in
    record {
      a = a;
      b = b;
      in_pairs = pair_of-below r u v hu hv;
      a_letter = in_a;
      b_letter = in_b;
      follows = follow-pair_of r u v a b hv one_label ∙ ap₂ (λ (x y : ℕ). Some (pair_of r x y)) to_s to_t;
    }

-- a step from pair to pair is two edges with one label
pub PairStep-walk : {r : LocalRule} {p q : ℕ} → IsRule r → PairStep r p q
    → LeadTogether r (first_of r p) (second_of r p) 1 (first_of r q) (second_of r q)
PairStep-walk rule s = grind (arith, first_of-below, first_of-pair_of, second_of-pair_of, LeadTogether-edges)

-- a pair that goes on for one more leads on to one that goes on
pub PairGoes-step : (side : Side) {r : LocalRule} → IsRule r → (p j n : ℕ) → j + 1 ≡ n → PairGoes side r p n
    → (q : ℕ) × LeadsOn side r p q × PairGoes side r q j
PairGoes-step Right {r} rule p j n e h =
    let (s, t, step, rest) = LeadTogether-cut rule 1 j (omega arith) (BeginTogether-walk h).2 in (
      pair_of r s t,
      subst (λ q. PairStep r q (pair_of r s t)) (pair_of-first_of r p) (LeadTogether-pairs rule step),
      (PairGoes-pair_of Right r s t j (LeadTogether-first rest).1).1 (LeadTogether-begin rest),
    )
PairGoes-step Left {r} rule p j n e h =
    let (s, t, rest, step) = LeadTogether-cut rule j 1 e (EndTogether-walk h).2 in (
      pair_of r s t,
      subst (PairStep r (pair_of r s t)) (pair_of-first_of r p) (LeadTogether-pairs rule step),
      (PairGoes-pair_of Left r s t j (LeadTogether-last rest).1).1 (LeadTogether-end rest),
    )

-- a pair that leads on to one that goes on does for one more
pub PairGoes-push : (side : Side) {r : LocalRule} → IsRule r → (p q j n : ℕ) → j + 1 ≡ n → LeadsOn side r p q → PairGoes side r q j
    → PairGoes side r p n
PairGoes-push Right rule p q j n e s h = LeadTogether-begin (LeadTogether-join {i = 1} {j = j} {n = n} rule (omega arith) (PairStep-walk rule s) (BeginTogether-walk h).2)
PairGoes-push Left rule p q j n e s h = LeadTogether-end (LeadTogether-join {i = j} {j = 1} {n = n} rule e (EndTogether-walk h).2 (PairStep-walk rule s))
