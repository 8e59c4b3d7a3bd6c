-- The first walk of a word from a node into a set of nodes is found edge by edge: at each place the edge to the least node from which the set can still be reached.
use Rattle.std.proofs.Common.{◌≡◌, ◌≢◌, ◌↔◌, ℕ, ◌+◌, ◌-◌, ◌<◌, ◌≤◌, List, [], ◌∷◌, ◌++◌, length, take, drop, get_or, slice_index, IsBitSet, bit_and, refl, sym, ap, ap₂, ◌∙◌, subst, arith, length-drop, append_assoc, ⊎_elim, nat_cmp, Less, Equal, Greater, take-append-drop, take_all, get_or-drop, length-take-le}
use Rattle.word_image.proofs.Common.{slice_cmp, ordering_then, nat_cmp_is, cases_lt, get_or_push, length_push, nil_from_length, All-take, All-drop, LocalRule, IsRule, word_of, node_count, node_letter, IsNodeSet, IsEnds, IsEdge, length-word_of, word_of-value, slice_cmp-same, slice_cmp-value, key_not_greater, slice_cmp-append}
use Rattle.word_image.specs.declared.side.Side.TheVariants.{Right}
use Rattle.pair_laws.proofs.Common.{IsBitSet-below, IsBitSet-and}
use Rattle.tail_preimage.specs.Walks.{IsWalk, Reaches, IsLeastWalkInto}
use Rattle.tail_preimage.specs.Relations.{IsFirst}
use Rattle.tail_preimage.proofs.laws.Stretches.{drop-first}
use Rattle.tail_preimage.proofs.laws.Walks.{IsWalk-none, IsWalk-stays, IsWalk-push, IsWalk-letter, IsWalk-cons, IsWalk-uncons, HasWalk-cons, same_first}

-- at the end of the word the set is reached from its nodes
pub Reaches-none : {r : LocalRule} → (goal u : ℕ) → u < node_count r → Reaches r [] goal u ↔ IsBitSet goal u
Reaches-none {r} goal u l = ((λ (v, at, walk). subst (IsBitSet goal) (sym (IsWalk-stays walk.1)) at), (λ at. (u, at, (_, IsWalk-none r u l))))

-- before that from where some edge with the next letter leads to a node from which it is
pub Reaches-cons : {r : LocalRule} → IsRule r → (a : ℕ) (w : List ℕ) (goal u : ℕ) → u < node_count r
    → Reaches r (a ∷ w) goal u ↔ ((v : ℕ) × (v < node_count r) × IsEdge Right r a u v × Reaches r w goal v)
Reaches-cons {r} rule a w goal u l = (
  (λ (s, at, walk). let (v, node, edge, rest) = (HasWalk-cons rule a w u s l).0 walk in (v, node, edge, (s, at, rest))),
  (λ (v, node, edge, (s, at, rest)). (s, at, (HasWalk-cons rule a w u s l).1 (v, node, edge, rest))),
)

-- two walks of one length are compared by their first nodes, and then by the letters behind them
pub cmp-first : {r : LocalRule} {w z x y : List ℕ} {u v s t : ℕ} → IsWalk r w u v x → IsWalk r z s t y → length w ≡ length z
    → slice_cmp nat_cmp x y ≡ ordering_then (nat_cmp u s) (slice_cmp nat_cmp (drop (r.width - 1) x) (drop (r.width - 1) y))
cmp-first {r} {x = x} {y = y} h g e =
    let d : ℕ = r.width - 1 in
    let long : length (take d x) ≡ length (take d y) = length-take-le d x (omega arith) ∙ sym (length-take-le d y (omega arith)) in
    ap₂ (slice_cmp nat_cmp) (sym (take-append-drop d x)) (sym (take-append-drop d y))
    ∙ slice_cmp-append nat_cmp (take d x) (drop d x) (take d y) (drop d y) long
    ∙ ap (λ o. ordering_then o (slice_cmp nat_cmp (drop d x) (drop d y)))
    (slice_cmp-value r.states (take d x) (take d y) (All-take (λ a. a < r.states) d x h.preimage.word) (All-take (λ a. a < r.states) d y g.preimage.word) long ∙ ap₂ nat_cmp h.first g.first)

-- the first walk from a node is no greater than walks from greater nodes, and than others from the node into the goal
pub least-not_greater : {r : LocalRule} {w x y : List ℕ} {u v s t goal : ℕ} → IsLeastWalkInto r w u goal v x → IsWalk r w s t y → u ≤ s
    → (s ≡ u → IsBitSet goal t) → slice_cmp nat_cmp x y ≢ Greater
least-not_greater {r} {w} {x} {y} {u} {s = s} {t = t} h g least within =
    ⊎_elim
    (λ l e. let other : Less ≡ Greater = ap (λ o. ordering_then o (slice_cmp nat_cmp (drop (r.width - 1) x) (drop (r.width - 1) y))) (nat_cmp_is u s Less l) ∙ sym (cmp-first h.walk g refl) ∙ e in cc)
    (λ l. let same : s ≡ u = omega (arith, l) in h.least t y (within same) (subst (λ n. IsWalk r w n t y) same g))
    (cases_lt u s)

-- the first walk along no letter is a node of the goal
IsLeastWalkInto-none : {r : LocalRule} {goal v : ℕ} → v < node_count r → IsBitSet goal v
    → IsLeastWalkInto r [] v goal v (word_of r.states (r.width - 1) v)
IsLeastWalkInto-none {r} {v = v} node within =
    let d : ℕ = r.width - 1 in
    let x : List ℕ = word_of r.states d v in
    let walk = IsWalk-none r v node in
    record {
      walk = walk;
      within = within;
      least = λ s y at other e.
          let same : x ≡ y = sym (take_all d x (omega arith)) ∙ same_first walk other ∙ take_all d y (omega arith) in
          let equal : Equal ≡ Greater = sym (slice_cmp-same x y same) ∙ e in cc;
    }

-- the first walk begins with the edge to the least node from which the goal is reached
IsLeastWalkInto-cons : {r : LocalRule} {w z : List ℕ} {a goal v node s : ℕ} → IsRule r → v < node_count r → IsEdge Right r a v node
    → ((m : ℕ) → m < node → IsEdge Right r a v m → ¬ Reaches r w goal m) → IsLeastWalkInto r w node goal s z
    → IsLeastWalkInto r (a ∷ w) v goal s (node_letter r v 0 ∷ z)
IsLeastWalkInto-cons {r} {w} {z} {a} {v = v} {node = node} rule l edge none h = record {
  walk = IsWalk-cons rule l edge h.walk;
  within = h.within;
  least = λ t y at other.
      let (m, on, rest) = IsWalk-uncons rule a w other in
      let least : node ≤ m = ⊎_elim (λ less. absurd (none m less on (t, at, (drop 1 y, rest)))) (λ most. most) (cases_lt m node) in
      rw (IsWalk-letter rule other)
      ((key_not_greater (node_letter r v 0) (node_letter r v 0) (slice_cmp nat_cmp z (drop 1 y))).1 (omega arith, λ _. least-not_greater h rest least (λ _. at)));
}

-- x is the beginning of the first walk of w into the goal, after n edges: the letters before its last node v, and then those of the first walk along the rest from v, are the first walk of w
pub record IsLeastBegun (r : LocalRule) (w : List ℕ) (u goal n v : ℕ) (x : List ℕ) : Type 0 where
  pub front : List ℕ
  pub letters : x ≡ front ++ word_of r.states (r.width - 1) v
  pub long : length x ≡ n + (r.width - 1)
  pub node : v < node_count r
  pub open_still : Reaches r (drop n w) goal v
  pub on : (s : ℕ) (z : List ℕ) → IsLeastWalkInto r (drop n w) v goal s z → IsLeastWalkInto r w u goal s (front ++ z)

-- before any edge, the first walk into the goal begins with the letters of its first node
pub IsLeastBegun-start : {r : LocalRule} {w : List ℕ} {u goal : ℕ} → u < node_count r → Reaches r w goal u
    → IsLeastBegun r w u goal 0 u (word_of r.states (r.width - 1) u)
IsLeastBegun-start {r} {u = u} node reach = record { front = []; letters = refl; long = omega (arith, length-word_of r.states (r.width - 1) u); node = node; open_still = reach; on = λ s z h. h }

-- the letters of a node, and the last letter of the node after it, are the first letter of the node and the letters of the node after it
word_of-edge : {r : LocalRule} {a v node : ℕ} → IsRule r → v < node_count r → IsEdge Right r a v node
    → word_of r.states (r.width - 1) v ++ node_letter r node (r.width - 2) ∷ [] ≡ node_letter r v 0 ∷ word_of r.states (r.width - 1) node
word_of-edge {r} {a} {v} {node} rule l (b, letter, (spells, leads)) =
    let d : ℕ = r.width - 1 in
    let x : List ℕ = word_of r.states d v ++ b ∷ [] in
    let walk = IsWalk-push rule (IsWalk-none r v l) a b letter spells in
    let rest : drop 1 x ≡ word_of r.states d node =
    sym (word_of-value r.states (drop 1 x) (All-drop (λ c. c < r.states) 1 x walk.preimage.word)) ∙ ap₂ (λ (n u : ℕ). word_of r.states n u) (omega (arith, length-drop 1 x, walk.preimage.long)) (walk.last ∙ leads) in
    let place : 1 + (r.width - 2) ≡ d = omega (arith, rule.shape.least_width) in
    let last : node_letter r node (r.width - 2) ≡ b =
    ap (λ y. get_or y (r.width - 2) 0) (sym rest) ∙ get_or-drop 1 x (r.width - 2) 0 ∙ ap (λ i. get_or x i 0) place ∙ get_or_push (word_of r.states d v) b 0 d (length-word_of r.states d v) in
    ap (λ c. word_of r.states d v ++ c ∷ []) last ∙ IsWalk-letter rule walk ∙ ap (λ y. node_letter r v 0 ∷ y) rest

-- the first walk goes on to the least of its nodes to which an edge with the next label leads, by that node's last letter
pub IsLeastBegun-node : {r : LocalRule} {w x : List ℕ} {goal u n v ends set node : ℕ} → IsRule r → n < length w → IsLeastBegun r w u goal n v x
    → IsEnds Right r v (slice_index w n) ends → IsNodeSet r (Reaches r (drop (n + 1) w) goal) set
    → IsFirst (IsBitSet (bit_and ends set)) node → IsLeastBegun r w u goal (n + 1) node (x ++ node_letter r node (r.width - 2) ∷ [])
IsLeastBegun-node {r} {w} {x} {goal} {u} {n} {v} {ends} {set} {node} rule inside h e after least =
    let (first, second) = (IsBitSet-and ends set node).0 least.holds in
    let below : node < node_count r = IsBitSet-below (node_count r) ends node e.within first in
    let edge = (e.nodes node below).0 first in
    let f : ℕ = node_letter r v 0 in
    let last : ℕ = node_letter r node (r.width - 2) in
    record {
      front = h.front ++ f ∷ [];
      letters = ap (λ y. y ++ last ∷ []) h.letters ∙ append_assoc h.front (word_of r.states (r.width - 1) v) (last ∷ []) ∙ ap (λ y. h.front ++ y) (word_of-edge rule h.node edge)
          ∙ sym (append_assoc h.front (f ∷ []) (word_of r.states (r.width - 1) node));
      long = omega (arith, h.long, length_push x last);
      node = below;
      open_still = (after.nodes node below).0 second;
      on = λ s z rest.
          let none : (m : ℕ) → m < node → IsEdge Right r (slice_index w n) v m → ¬ Reaches r (drop (n + 1) w) goal m = λ m less on reach.
          let there : m < node_count r = omega arith in
          least.none m less ((IsBitSet-and ends set m).1 ((e.nodes m there).1 on, (after.nodes m there).1 reach)) in
          rw append_assoc (h.on s (f ∷ z) (rw (drop-first w n inside) (IsLeastWalkInto-cons rule h.node edge none rest)));
    }

-- at the end of the word the beginning of the first walk is the first walk
pub IsLeastBegun-end : {r : LocalRule} {w : List ℕ} {u goal n v : ℕ} {x : List ℕ} → n ≡ length w → IsLeastBegun r w u goal n v x
    → IsLeastWalkInto r w u goal v x
IsLeastBegun-end {r} {w} {goal = goal} {n = n} {v = v} e h =
    let none : drop n w ≡ [] = nil_from_length (drop n w) (omega (arith, length-drop n w)) in
    rw h.letters (h.on v _ (rw none (IsLeastWalkInto-none h.node ((Reaches-none goal v h.node).0 (rw none at h.open_still)))))
