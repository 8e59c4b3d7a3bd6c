-- How far two nodes lead, or have been led, with equal labels: step by step.
use Rattle.std.proofs.Common.{◌≡◌, ℕ, zero, suc, ◌-◌, ◌<◌, ◌≤◌, refl, arith}
use Rattle.word_image.proofs.Common.{LocalRule, IsRule, node_count, next, BeginTogether, EndTogether, IsRank, Together, next-below}
use Rattle.word_image.specs.declared.side.Side.{Side}
use Rattle.word_image.specs.declared.side.Side.TheVariants.{Right, Left}
use Rattle.pair_laws.proofs.Walks.{LeadTogether, LeadTogether-join, LeadTogether-cut, LeadTogether-first, LeadTogether-last, LeadTogether-none, LeadTogether-edges}

-- two nodes from which a walk of n steps leads begin together for n
pub LeadTogether-begin : {r : LocalRule} {u v s t n : ℕ} → LeadTogether r u v n s t → BeginTogether r u v n
LeadTogether-begin h = record { x = h.x; y = h.y; one_image = h.one_image; first = h.first; second = h.second }

-- two nodes to which a walk of n steps leads end together for n
pub LeadTogether-end : {r : LocalRule} {u v s t n : ℕ} → LeadTogether r u v n s t → EndTogether r s t n
LeadTogether-end h = record { x = h.x; y = h.y; one_image = h.one_image; first = h.first_last; second = h.second_last }

-- from two nodes that begin together a walk leads
pub BeginTogether-walk : {r : LocalRule} {u v n : ℕ} → BeginTogether r u v n → (s : ℕ) × (t : ℕ) × LeadTogether r u v n s t
BeginTogether-walk h = (_, _, record { x = h.x; y = h.y; one_image = h.one_image; first = h.first; second = h.second; first_last = refl; second_last = refl })

-- to two nodes that end together a walk leads
pub EndTogether-walk : {r : LocalRule} {s t n : ℕ} → EndTogether r s t n → (u : ℕ) × (v : ℕ) × LeadTogether r u v n s t
EndTogether-walk h = (_, _, record { x = h.x; y = h.y; one_image = h.one_image; first = refl; second = refl; first_last = h.first; second_last = h.second })

-- what goes on together are nodes
pub Together-below : (side : Side) (r : LocalRule) (u v n : ℕ) → Together side r u v n → (u < node_count r) × (v < node_count r)
Together-below Right r u v n h = LeadTogether-first (BeginTogether-walk h).2
Together-below Left r u v n h = LeadTogether-last (EndTogether-walk h).2

-- two nodes go on together for 0
pub Together-zero : (side : Side) (r : LocalRule) (u v : ℕ) → u < node_count r → v < node_count r → Together side r u v 0
Together-zero Right r u v hu hv = LeadTogether-begin (LeadTogether-none r u v hu hv)
Together-zero Left r u v hu hv = LeadTogether-end (LeadTogether-none r u v hu hv)

-- what goes on together for n does for less
pub Together-less : (side : Side) {r : LocalRule} → IsRule r → (u v i n : ℕ) → i ≤ n → Together side r u v n → Together side r u v i
Together-less Right rule u v i n l h = LeadTogether-begin (LeadTogether-cut rule i (n - i) (omega arith) (BeginTogether-walk h).2).2
Together-less Left rule u v i n l h = LeadTogether-end (LeadTogether-cut rule (n - i) i (omega arith) (EndTogether-walk h).2).3

-- what holds for less has one rank
pub IsRank-one : (P : ℕ → Type 0) → ((i n : ℕ) → i ≤ n → P n → P i) → (m n : ℕ) → IsRank P m → IsRank P n → m ≡ n
IsRank-one P less m n first second = grind (arith)

-- a node begins together with itself for every n
pub BeginTogether-same : {r : LocalRule} → IsRule r → (n u : ℕ) → u < node_count r → BeginTogether r u u n
BeginTogether-same {r} rule zero u h = Together-zero Right r u u h h
BeginTogether-same {r} rule (suc n) u h =
    let some : 0 < r.states = let least : 2 ≤ r.states = rule.shape.least_states in omega arith in
    LeadTogether-begin (LeadTogether-join {i = 1} {j = n} rule (omega arith) (LeadTogether-edges rule u u 0 0 h h some some refl) (BeginTogether-walk (BeginTogether-same rule n (next r u 0) (next-below rule u 0))).2)
