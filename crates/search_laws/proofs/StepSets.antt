-- Each step leads to one set of nodes, each word has one set of last nodes, and steps lead along words from set to set.
use Rattle.std.proofs.Common.{◌≡◌, ℕ, zero, suc, ◌^◌, ◌<◌, ◌≤◌, ◌⊎◌, ◌↔◌, List, [], ◌∷◌, IsBitSet, bit_or, refl, subst, arith, add-one, ⊎_elim}
use Rattle.std.proofs.lemmas.Nat.Bits.{same_from_bits_below}
use Rattle.word_image.proofs.Common.{cases_eq, LocalRule, IsRule, IsWord, node_count, IsOrphan, IsSetOf, full_set, next, label, IsEdge, IsStep, IsLastSet, bit_at-IsBitSet, IsBitSet-decide, IsUnion-none, IsSetTo, IsSetTo-take, IsSetTo-skip, IsSetTo-all, IsLastSet-full, IsLastSet-step, decide_both, exists_below}
use Rattle.word_image.specs.declared.side.Side.TheVariants.{Right}
use Rattle.search_laws.specs.Walks.{Walk, Leads}
use Rattle.search_laws.proofs.Walks.{Leads-induct}

-- two sets of n nodes with the same nodes are one
pub same_set : (n a b : ℕ) → a < 2 ^ n → b < 2 ^ n → ((i : ℕ) → i < n → (IsBitSet a i ↔ IsBitSet b i)) → a ≡ b
same_set n a b small_a small_b same = same_from_bits_below n a b small_a small_b (grind (arith, bit_at-IsBitSet))

-- there is one set of the nodes of which something holds
pub IsSetOf-unique : {n : ℕ} {Holds : ℕ → Type 0} {a b : ℕ} → IsSetOf n Holds a → IsSetOf n Holds b → a ≡ b
IsSetOf-unique {n} {a = a} {b = b} first second =
    same_set n a b first.within second.within (λ i l. ((λ some. (second.nodes i l).1 ((first.nodes i l).0 some)), (λ some. (first.nodes i l).1 ((second.nodes i l).0 some))))

-- the set of those of the first n numbers of which something that can be decided holds
some_to : (Holds : ℕ → Type 0) → ((i : ℕ) → Holds i ⊎ ¬ Holds i) → (count n : ℕ) → n ≤ count → (set : ℕ) × IsSetTo count Holds n set
some_to Holds decide count zero within = (0, IsUnion-none count (λ i v. (v ≡ i) × Holds i))
some_to Holds decide count (suc n) within =
    let (set, before) = some_to Holds decide count n (omega arith) in
    subst (λ m. (set : ℕ) × IsSetTo count Holds m set) (add-one n)
    (⊎_elim (λ holds. (bit_or set (2 ^ n), IsSetTo-take Holds before (omega arith) refl holds)) (λ none. (set, IsSetTo-skip Holds before none)) (decide n))

-- the numbers below n of which something holds that can be decided are a set
pub some_set : (Holds : ℕ → Type 0) → ((i : ℕ) → Holds i ⊎ ¬ Holds i) → (n : ℕ) → (set : ℕ) × IsSetOf n Holds set
some_set Holds decide n = let (set, all) = some_to Holds decide n n (omega arith) in (set, IsSetTo-all Holds refl all)

-- from each set a step on each letter leads to a set
pub IsStep-some : (r : LocalRule) (set a : ℕ) → (after : ℕ) × IsStep r set a after
IsStep-some r set a =
    let edge : (u v : ℕ) → IsEdge Right r a u v ⊎ ¬ IsEdge Right r a u v = λ u v.
    exists_below (λ b. (label r u b ≡ a) × (next r u b ≡ v)) (λ b. decide_both (cases_eq (label r u b) a) (cases_eq (next r u b) v)) r.states in
    let From : ℕ → ℕ → Type 0 = λ v u. IsBitSet set u × IsEdge Right r a u v in
    some_set (λ v. (u : ℕ) × (u < node_count r) × From v u) (λ v. exists_below (From v) (λ u. decide_both (IsBitSet-decide set u) (edge u v)) (node_count r)) (node_count r)

-- a word has one set of last nodes
pub IsLastSet-unique : {r : LocalRule} {w : List ℕ} {s t : ℕ} → IsLastSet r w s → IsLastSet r w t → s ≡ t
IsLastSet-unique first second = IsSetOf-unique first.last second.last

-- from the full set a word leads to its set of last nodes
abbrev pub LeadsToSet : LocalRule → List ℕ → ℕ → Type 0
LeadsToSet r = Leads (IsStep r) r.states (full_set r)

-- where a word leads from the full set is its set of last nodes
pub IsLastSet-leads : {r : LocalRule} {w : List ℕ} {set : ℕ} → IsRule r → LeadsToSet r w set → IsLastSet r w set
IsLastSet-leads {r} {w} {set} rule leads =
    Leads-induct (IsLastSet r) (IsLastSet-full r) (λ v a s t before letter step last. IsLastSet-step {set = s} {after = t} rule last letter step) w set leads

-- from each set a word leads to a set
walk_from : (r : LocalRule) (w : List ℕ) (set : ℕ) → (end : ℕ) × Walk (IsStep r) set w end
walk_from r [] set = (set, refl)
walk_from r (a ∷ w) set = let (after, step) = IsStep-some r set a in let (end, rest) = walk_from r w after in (end, (after, step, rest))

-- each word leads from the full set to a set
pub LeadsToSet-some : (r : LocalRule) (w : List ℕ) → IsWord r.states w → (set : ℕ) × LeadsToSet r w set
LeadsToSet-some r w word = let (end, walk) = walk_from r w (full_set r) in (end, record { walk = walk; word = word })

-- a word leads to its set of last nodes
pub LeadsToSet-last : {r : LocalRule} {w : List ℕ} {set : ℕ} → IsRule r → IsLastSet r w set → LeadsToSet r w set
LeadsToSet-last {r} {w} {set} rule last =
    let found = LeadsToSet-some r w last.word in
    subst (LeadsToSet r w) (IsLastSet-unique (IsLastSet-leads rule found.1) last) found.1

-- the last nodes of an orphan are the empty set
pub IsLastSet-orphan : {r : LocalRule} {w : List ℕ} → IsRule r → IsOrphan r w → IsLastSet r w 0
IsLastSet-orphan rule orphan = grind (arith, LeadsToSet-some, IsLastSet-leads)
