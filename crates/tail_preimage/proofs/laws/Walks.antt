-- Walks: cut in two, joined, and one edge longer at either end.
use Rattle.std.proofs.lemmas.Grind.{common_steps}
use Rattle.std.proofs.Common.{◌≡◌, ◌↔◌, ℕ, ◌+◌, ◌-◌, ◌<◌, List, [], ◌∷◌, ◌++◌, length, take, drop, get_or, refl, sym, ap, ◌∙◌, subst, arith, append_assoc, length-take-le, take_all, take_at, take-append-drop, get_or-take, drop-cons}
use Rattle.word_image.proofs.Common.{length_push, take-append-le, All-take, LocalRule, IsRule, IsWord, value, word_of, node_count, node_letter, IsOrphan, next, label, IsEdge, value-injective, length-word_of, IsWord-word_of, value-word_of, IsPreimage-snoc, IsPreimage-push, image-take, image-drop, value-node, value-next, local_map-label}
use Rattle.word_image.specs.declared.side.Side.TheVariants.{Right}
use Rattle.word_image.proofs.laws.LastNodes.{IsLastNode-below, last_edge}
use Rattle.pair_laws.proofs.Common.{drop-join_more, image-join, same_node, value-cut}
use Rattle.tail_preimage.specs.Walks.{IsWalk, HasWalk, before_last}

-- a walk begins with a node
pub IsWalk-first : {r : LocalRule} {w x : List ℕ} {u v : ℕ} → IsWalk r w u v x → u < node_count r
IsWalk-first {x = x} h = grind (arith, common_steps, value-node)

-- a walk ends with a node
pub IsWalk-last : {r : LocalRule} {w x : List ℕ} {u v : ℕ} → IsWalk r w u v x → v < node_count r
IsWalk-last {x = x} h = IsLastNode-below (record { x = x; preimage = h.preimage; last = h.last })

-- walks from one node begin with the same letters
pub same_first : {r : LocalRule} {w z x y : List ℕ} {u v s : ℕ} → IsWalk r w u v x → IsWalk r z u s y → take (r.width - 1) x ≡ take (r.width - 1) y
same_first {r} {x = x} {y = y} h g =
    let d : ℕ = r.width - 1 in
    value-injective r.states (take d x) (take d y) (All-take (λ a. a < r.states) d x h.preimage.word) (All-take (λ a. a < r.states) d y g.preimage.word)
    (length-take-le d x (omega arith) ∙ sym (length-take-le d y (omega arith))) (h.first ∙ sym g.first)

-- the letters of a node are a walk of no edge
pub IsWalk-none : (r : LocalRule) (u : ℕ) → u < node_count r → IsWalk r [] u u (word_of r.states (r.width - 1) u)
IsWalk-none r u l = grind (arith, length-word_of, take_all, value-word_of, IsWord-word_of)

-- a walk of no edge stays at its node
pub IsWalk-stays : {r : LocalRule} {u v : ℕ} {x : List ℕ} → IsWalk r [] u v x → u ≡ v
IsWalk-stays {x = x} h = grind (arith, take_all)

-- a walk that ends where another begins goes on as that one
pub IsWalk-join : {r : LocalRule} {u v s : ℕ} {w z x y : List ℕ} → IsRule r → IsWalk r w u v x → IsWalk r z v s y
    → IsWalk r (w ++ z) u s (x ++ drop (r.width - 1) y)
IsWalk-join {w = w} {z = z} {x = x} {y = y} rule h g = grind (arith, common_steps, same_node, image-join, drop-join_more)

-- before its last node a walk has a letter for each edge
pub length-before_last : {r : LocalRule} {w x : List ℕ} {u v : ℕ} → IsWalk r w u v x → length (before_last r x) ≡ length w
length-before_last {r} {x = x} h = let long = h.preimage.long in length-take-le (length x - (r.width - 1)) x (omega arith) ∙ omega arith

-- the letters of a walk before its last node are a word
pub IsWord-before_last : {r : LocalRule} {w x : List ℕ} {u v : ℕ} → IsWalk r w u v x → IsWord r.states (before_last r x)
IsWord-before_last {r} {x = x} h = All-take (λ a. a < r.states) (length x - (r.width - 1)) x h.preimage.word

-- a joined walk is the letters of the first before its last node, and the second
pub join-before_last : {r : LocalRule} {u v s : ℕ} {w z x y : List ℕ} → IsWalk r w u v x → IsWalk r z v s y
    → x ++ drop (r.width - 1) y ≡ before_last r x ++ y
join-before_last {r} {w = w} {z = z} {x = x} {y = y} h g =
    let d : ℕ = r.width - 1 in
    let long_x : length x ≡ length w + d = h.preimage.long in
    let seam : drop (length x - d) x ≡ take d y =
    ap (λ n. drop n x) (omega arith) ∙ same_node r.states (length w) d x y h.preimage.word g.preimage.word long_x (omega arith) (h.last ∙ sym g.first) in
    ap (λ a. a ++ drop d y) (sym (take-append-drop (length x - d) x))
    ∙ append_assoc (before_last r x) (drop (length x - d) x) (drop d y)
    ∙ ap (λ a. before_last r x ++ a) (ap (λ a. a ++ drop d y) seam ∙ take-append-drop d y)

-- a walk to a node and a walk from it on are joined into one
pub IsWalk-then : {r : LocalRule} {u v s : ℕ} {w z x y : List ℕ} → IsRule r → IsWalk r w u v x → IsWalk r z v s y
    → IsWalk r (w ++ z) u s (before_last r x ++ y)
IsWalk-then {r} {u} {s = s} {w = w} {z = z} rule h g = subst (IsWalk r (w ++ z) u s) (join-before_last h g) (IsWalk-join rule h g)

-- a walk of two words in a row is one of each
pub record IsCutWalk (r : LocalRule) (w z : List ℕ) (u s : ℕ) (x : List ℕ) : Type 0 where
  pub node : ℕ
  pub before : IsWalk r w u node (take (length w + (r.width - 1)) x)
  pub after : IsWalk r z node s (drop (length w) x)

pub IsWalk-cut : {r : LocalRule} {u s : ℕ} {x : List ℕ} → IsRule r → (w z : List ℕ) → IsWalk r (w ++ z) u s x → IsCutWalk r w z u s x
IsWalk-cut {x = x} rule w z h = grind (arith, common_steps, image-take, value-cut, image-drop)

-- a walk goes on along an edge
pub IsWalk-push : {r : LocalRule} {u v : ℕ} {w x : List ℕ} → IsRule r → IsWalk r w u v x → (a b : ℕ) → b < r.states → label r v b ≡ a
    → IsWalk r (w ++ a ∷ []) u (next r v b) (x ++ b ∷ [])
IsWalk-push {r} {w = w} {x = x} rule h a b l e =
    record {
      preimage = IsPreimage-push rule h.preimage a b l (local_map-label r (drop (length w) x) b ∙ ap (λ n. label r n b) h.last ∙ e);
      first = ap (value r.states) (take-append-le (r.width - 1) x (b ∷ []) (omega arith)) ∙ h.first;
      last = ap (λ n. value r.states (drop n (x ++ b ∷ []))) (length_push w a) ∙ value-next rule (length w) x b h.preimage.word h.preimage.long l ∙ ap (λ n. next r n b) h.last;
    }

-- a walk begins with the first letter of its first node
pub IsWalk-letter : {r : LocalRule} {w x : List ℕ} {u v : ℕ} → IsRule r → IsWalk r w u v x → x ≡ node_letter r u 0 ∷ drop 1 x
IsWalk-letter {r} {x = x} {u = u} rule h =
    let d : ℕ = r.width - 1 in
    let some : 0 < d = omega (arith, rule.shape.least_width) in
    let first : get_or x 0 0 ≡ node_letter r u 0 =
    sym (get_or-take d x 0 0 some) ∙ ap (λ y. get_or y 0 0) (same_first h (IsWalk-none r u (IsWalk-first h))) ∙ get_or-take d (word_of r.states d u) 0 0 some in
    drop-cons x 0 0 (omega arith) ∙ ap (λ a. a ∷ drop 1 x) first

-- an edge, and then a walk from its end
pub IsWalk-cons : {r : LocalRule} {w x : List ℕ} {a u v s : ℕ} → IsRule r → u < node_count r → IsEdge Right r a u v → IsWalk r w v s x
    → IsWalk r (a ∷ w) u s (node_letter r u 0 ∷ x)
IsWalk-cons {r} {w} {x} {a} {u} {s = s} rule l (b, letter, (spells, leads)) h =
    let edge = IsWalk-push rule (IsWalk-none r u l) a b letter spells in
    let y : List ℕ = word_of r.states (r.width - 1) u ++ b ∷ [] in
    let one : length y - (r.width - 1) ≡ 1 = omega (arith, edge.preimage.long) in
    subst (λ z. IsWalk r (a ∷ w) u s (z ++ x)) (ap (λ n. take n y) one ∙ ap (take 1) (IsWalk-letter rule edge)) (IsWalk-then rule edge (subst (λ n. IsWalk r w n s x) (sym leads) h))

-- the first edge of a walk, and the walk after it
pub IsWalk-uncons : {r : LocalRule} {u s : ℕ} {x : List ℕ} → IsRule r → (a : ℕ) (w : List ℕ) → IsWalk r (a ∷ w) u s x
    → (v : ℕ) × IsEdge Right r a u v × IsWalk r w v s (drop 1 x)
IsWalk-uncons {r} {x = x} rule a w h =
    let d : ℕ = r.width - 1 in
    let cut = IsWalk-cut rule (a ∷ []) w h in
    let p = IsPreimage-snoc rule [] a (take (1 + d) x) cut.before.preimage in
    let (spells, leads) = last_edge rule [] a (take (1 + d) x) p in
    grind (arith, take_at)

-- from a node a word leads on after an edge with its first letter, and only so
pub HasWalk-cons : {r : LocalRule} → IsRule r → (a : ℕ) (w : List ℕ) (u s : ℕ) → u < node_count r
    → HasWalk r (a ∷ w) u s ↔ ((v : ℕ) × (v < node_count r) × IsEdge Right r a u v × HasWalk r w v s)
HasWalk-cons {r} rule a w u s l = (
  (λ (x, h). let (v, edge, rest) = IsWalk-uncons rule a w h in (v, IsWalk-first rest, edge, (drop 1 x, rest))),
  (λ (v, node, edge, (y, rest)). (_, IsWalk-cons rule l edge rest)),
)

-- two walks are joined to a walk of both words
pub HasWalk-join : {r : LocalRule} {u v s : ℕ} {w z : List ℕ} → IsRule r → HasWalk r w u v → HasWalk r z v s → HasWalk r (w ++ z) u s
HasWalk-join {r} rule (x, h) (y, g) = (x ++ drop (r.width - 1) y, IsWalk-join rule h g)

-- a walk of two words is cut into a walk of each
pub HasWalk-cut : {r : LocalRule} {u s : ℕ} → IsRule r → (w z : List ℕ) → HasWalk r (w ++ z) u s → (v : ℕ) × HasWalk r w u v × HasWalk r z v s
HasWalk-cut {r} rule w z (x, h) = let cut = IsWalk-cut rule w z h in (cut.node, (take (length w + (r.width - 1)) x, cut.before), (drop (length w) x, cut.after))

-- a word along which no walk leads is an orphan
pub IsOrphan-none : {r : LocalRule} {w : List ℕ} → IsWord r.states w → ((u v : ℕ) → ¬ HasWalk r w u v) → IsOrphan r w
IsOrphan-none {r} {w} word none = record { word = word; none = λ x p. none (value r.states (take (r.width - 1) x)) (value r.states (drop (length w) x)) (x, record { preimage = p; first = refl; last = refl }) }
