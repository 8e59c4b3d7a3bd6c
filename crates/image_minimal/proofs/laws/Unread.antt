-- A word leads from a set to the empty set exactly where it is read from none of its nodes, and then it goes on from there.
use Rattle.image_minimal.proofs.Common.{◌≡◌, ℕ, ◌^◌, ◌<◌, ◌⊎◌, ◌↔◌, inl, inr, List, [], ◌∷◌, ◌++◌, Bool, true, nat_eq, eq-eqb, IsBitSet, refl, subst, arith, ⊎_elim, append-nil, append_assoc, pow_pos, eqb-true, iff_then, cases_eq, decide_both, All-head, All-tail, LocalRule, IsRule, IsWord, node_count, IsOrphan, next, label, IsEdge, IsStep, IsLastSet, IsBitSet-some, IsBitSet-zero, IsBitSet-decide, next-below, IsLastSet-step, IsOrphan-empty_set, some_below, Right, some_set, IsStep-some, IsLastSet-unique, IsLastSet-orphan, All-walk, IsWithin, IsLedInto, IsBack, StepsInto, IsUnread, IsUnreadSet}

-- where a word leads from a set of nodes
abbrev pub end_set : LocalRule → List ℕ → ℕ → ℕ
end_set r [] s = s
end_set r (a ∷ z) s = end_set r z (IsStep-some r s a).0

-- whether it is the empty set
abbrev pub is_dead : LocalRule → List ℕ → ℕ → Bool
is_dead r z s = nat_eq (end_set r z s) 0

-- from the last nodes of a word another leads to those of both in a row
pub IsLastSet-end : {r : LocalRule} → IsRule r → (z : List ℕ) → IsWord r.states z → (w : List ℕ) (s : ℕ) → IsLastSet r w s
    → IsLastSet r (w ++ z) (end_set r z s)
IsLastSet-end rule [] word w s last = rw append-nil last
IsLastSet-end {r} rule (a ∷ z) word w s last =
    let (after, step) = IsStep-some r s a in
    subst (λ v. IsLastSet r v (end_set r z after)) (append_assoc w (a ∷ []) z)
    (IsLastSet-end rule z (All-tail (λ b. b < r.states) a z word) (w ++ a ∷ []) after (IsLastSet-step {set = s} {after = after} rule last (All-head (λ b. b < r.states) a z word) step))

-- an edge leads to a node
pub edge_below : {r : LocalRule} → IsRule r → (a u v : ℕ) → IsEdge Right r a u v → v < node_count r
edge_below {r} rule a u v (b, letter, (labelled, ends)) = subst (λ x. x < node_count r) ends (next-below rule u b)

-- a set lacks a number or not
pub lacks : (set u : ℕ) → (¬ IsBitSet set u) ⊎ ¬ ¬ IsBitSet set u
lacks set u = ⊎_elim (λ some. inr (λ none. none some)) (λ none. inl none) (IsBitSet-decide set u)

-- from some nodes all edges labelled a lead into a set
pub IsBack-some : (r : LocalRule) (set a : ℕ) → (before : ℕ) × IsBack r set a before
IsBack-some r set a =
    let Out : ℕ → ℕ → Type 0 = λ u b. (label r u b ≡ a) × ¬ IsBitSet set (next r u b) in
    let out : (u b : ℕ) → Out u b ⊎ ¬ Out u b = λ u b. decide_both (cases_eq (label r u b) a) (lacks set (next r u b)) in
    let decide : (u : ℕ) → IsLedInto r set a u ⊎ ¬ IsLedInto r set a u = λ u.
    ⊎_elim
    (λ (b, letter, (labelled, none)). inr (λ has. none (has (next r u b) (b, letter, (labelled, refl)))))
    (λ none. grind (arith, IsBitSet-decide))
    (some_below (Out u) (out u) r.states) in
    let (before, back) = some_set (IsLedInto r set a) decide (node_count r) in
    (before, record { of = back })

-- each word isn't read from some nodes
pub IsUnread-some : (r : LocalRule) (z : List ℕ) → IsWord r.states z → (set : ℕ) × IsUnread r z set
IsUnread-some r [] word = (0, refl)
IsUnread-some r (a ∷ z) word =
    let rest = IsUnread-some r z (All-tail (λ b. b < r.states) a z word) in
    let back = IsBack-some r rest.0 a in
    (back.0, (rest.0, (word 0 0 (omega arith), back.1), rest.1))

-- a word that isn't read from some nodes has letters below k
pub IsWord-unread : (r : LocalRule) (z : List ℕ) (set : ℕ) → IsUnread r z set → IsWord r.states z
IsWord-unread r z set unread = All-walk (StepsInto r) (λ a. a < r.states) (λ s a t step. step.0) z set 0 unread

-- the nodes from which a word isn't read are a set of the rule's nodes
pub IsUnreadSet-below : {r : LocalRule} {set : ℕ} → IsUnreadSet r set → set < 2 ^ node_count r
IsUnreadSet-below {r} ([], none) = rw none (pow_pos (node_count r))
IsUnreadSet-below (a ∷ z, (rest, (letter, back), unread)) = back.of.within

-- a step leads into a set exactly from within the nodes from which all its edges do
pub IsWithin-back : {r : LocalRule} {a t set before : ℕ} → IsRule r → (s : ℕ) → IsStep r s a t → IsBack r set a before
    → (IsWithin r t set ↔ IsWithin r s before)
IsWithin-back {r} {a} rule s step back = (
  (λ within u l in_s. (back.of.nodes u l).1 (λ v edge. let node = edge_below rule a u v edge in within v node ((step.nodes v node).1 (u, l, (in_s, edge))))),
  (λ within v l in_t. let (u, node, (in_s, edge)) = (step.nodes v l).0 in_t in (back.of.nodes u node).0 (within u node in_s) v edge),
)

-- only the empty set is within the empty one
pub IsWithin-zero : (r : LocalRule) (s : ℕ) → s < 2 ^ node_count r → (s ≡ 0 ↔ IsWithin r s 0)
IsWithin-zero r s small = (
  (λ none u l in_s. subst (λ n. IsBitSet n u) none in_s),
  (λ within. ⊎_elim
      (λ none. none)
      (λ some. let (u, node, bit) = IsBitSet-some (node_count r) s small some in absurd (IsBitSet-zero u (within u node bit)))
      (cases_eq s 0)),
)

-- a word is an orphan exactly where its last nodes are the empty set
pub IsOrphan-last : {r : LocalRule} {w : List ℕ} {s : ℕ} → IsRule r → IsLastSet r w s → (IsOrphan r w ↔ (s ≡ 0))
IsOrphan-last {r} {w} {s} rule last = (
  (λ orphan. IsLastSet-unique last (IsLastSet-orphan rule orphan)),
  (λ none. IsOrphan-empty_set (subst (IsLastSet r w) none last)),
)

-- a word followed by another is an orphan exactly where the other leads from its last nodes to the empty set
pub IsOrphan-is_dead : {r : LocalRule} {w : List ℕ} {s : ℕ} → IsRule r → IsLastSet r w s → (z : List ℕ) → IsWord r.states z
    → (IsOrphan r (w ++ z) ↔ (is_dead r z s ≡ true))
IsOrphan-is_dead {r} {w} {s} rule last z word = iff_then (IsOrphan-last rule (IsLastSet-end rule z word w s last)) (eq-eqb (end_set r z s) 0, eqb-true (end_set r z s) 0)

-- a word leads from a set to the empty set exactly where it is read from none of its nodes
pub is_dead-unread : {r : LocalRule} → IsRule r → (z : List ℕ) (set s : ℕ) → IsUnread r z set → s < 2 ^ node_count r
    → ((is_dead r z s ≡ true) ↔ IsWithin r s set)
is_dead-unread {r} rule [] set s same small = rw same (iff_then (eqb-true s 0, eq-eqb s 0) (IsWithin-zero r s small))
is_dead-unread {r} rule (a ∷ z) set s (rest, (letter, back), unread) small =
    let (after, step) = IsStep-some r s a in
    iff_then (is_dead-unread rule z rest after unread step.within) (IsWithin-back rule s step back)
