-- The mirrored rule: words with one image read backwards, and mirrored nodes.
use Rattle.std.proofs.Common.{◌≡◌, ℕ, ◌+◌, ◌-◌, ◌<◌, List, length, take, drop, reverse, sym, ap, subst, subst₂, ◌∙◌, arith, length-drop, length-take-le}
use Rattle.word_image.proofs.Common.{length-reverse, reverse-reverse, All-take, All-drop, LocalRule, IsRule, IsWord, value, word_of, node_count, mirrored, EndTogether, Together, length-word_of, IsWord-word_of, value-word_of, word_of-value, IsWord-reverse, image-mirrored, IsRule-mirrored, mirrored-mirrored, value-node, reverse-cut}
use Rattle.word_image.specs.declared.side.Side.{Side}
use Rattle.word_image.specs.declared.side.Side.TheVariants.{Right, Left}
use Rattle.pair_laws.proofs.Walks.{LeadTogether}
use Rattle.pair_laws.proofs.Ranks.{LeadTogether-end, BeginTogether-walk, BeginTogether-same}

-- the node of a node's word read backwards
abbrev pub mirror_node : LocalRule → ℕ → ℕ
mirror_node r u = value r.states (reverse (word_of r.states (r.width - 1) u))

-- the value of m - 1 letters read backwards
pub value-reverse : (r : LocalRule) (z : List ℕ) → IsWord r.states z → length z ≡ r.width - 1
    → value r.states (reverse z) ≡ mirror_node r (value r.states z)
value-reverse r z h e = ap (λ y. value r.states (reverse y)) (sym (word_of-value r.states z h) ∙ ap (λ d. word_of r.states d (value r.states z)) e)

-- a mirrored node is a node
pub mirror_node-below : (r : LocalRule) (u : ℕ) → u < node_count r → mirror_node r u < node_count r
mirror_node-below r u h = grind (arith, value-node, length-reverse, length-word_of, IsWord-reverse, IsWord-word_of)

-- mirrored twice, a node is itself
pub mirror_node-mirror_node : (r : LocalRule) (u : ℕ) → u < node_count r → mirror_node r (mirror_node r u) ≡ u
mirror_node-mirror_node r u h =
    let z = word_of r.states (r.width - 1) u in
    let word = IsWord-reverse r.states z (IsWord-word_of r.states (r.width - 1) u h) in
    sym (value-reverse r (reverse z) word (length-reverse z ∙ length-word_of r.states (r.width - 1) u))
    ∙ ap (value r.states) (reverse-reverse z) ∙ value-word_of r.states (r.width - 1) u h

-- the first m - 1 letters of a word that is read backwards
value-take_reverse : (r : LocalRule) (n : ℕ) (x : List ℕ) → IsWord r.states x → length x ≡ n + (r.width - 1)
    → value r.states (take (r.width - 1) (reverse x)) ≡ mirror_node r (value r.states (drop n x))
value-take_reverse r n x h e =
    ap (value r.states) (reverse-cut n (r.width - 1) x e).0 ∙ value-reverse r (drop n x) (All-drop (λ a. a < r.states) n x h) (omega (arith, length-drop n x))

-- the last m - 1 letters of a word that is read backwards
value-drop_reverse : (r : LocalRule) (n : ℕ) (x : List ℕ) → IsWord r.states x → length x ≡ n + (r.width - 1)
    → value r.states (drop n (reverse x)) ≡ mirror_node r (value r.states (take (r.width - 1) x))
value-drop_reverse r n x h e =
    ap (value r.states) (reverse-cut (r.width - 1) n x (omega arith)).1
    ∙ value-reverse r (take (r.width - 1) x) (All-take (λ a. a < r.states) (r.width - 1) x h) (length-take-le (r.width - 1) x (omega arith))

-- a walk read backwards leads back under the mirrored rule, from the mirrored nodes to the mirrored nodes
pub LeadTogether-mirrored : {r : LocalRule} {u v s t n : ℕ} → IsRule r → LeadTogether r u v n s t
    → LeadTogether (mirrored r) (mirror_node r s) (mirror_node r t) n (mirror_node r u) (mirror_node r v)
LeadTogether-mirrored {n = n} rule h = grind (arith, value-take_reverse, value-drop_reverse, length-reverse, image-mirrored, IsWord-reverse)

-- a walk under the mirrored rule, read backwards, is one under the rule
pub LeadTogether-unmirrored : {r : LocalRule} {u v s t n : ℕ} → IsRule r → LeadTogether (mirrored r) u v n s t
    → LeadTogether r (mirror_node r s) (mirror_node r t) n (mirror_node r u) (mirror_node r v)
LeadTogether-unmirrored {r} {u} {v} {s} {t} {n} rule h =
    subst (λ (q : LocalRule). LeadTogether q (mirror_node r s) (mirror_node r t) n (mirror_node r u) (mirror_node r v)) (mirrored-mirrored rule) (LeadTogether-mirrored (IsRule-mirrored rule) h)

-- a node goes on together with itself for every n
pub Together-same : (side : Side) {r : LocalRule} → IsRule r → (n u : ℕ) → u < node_count r → Together side r u u n
Together-same Right rule n u h = BeginTogether-same rule n u h
Together-same Left {r} rule n u h =
    let back = LeadTogether-end (LeadTogether-unmirrored rule (BeginTogether-walk (BeginTogether-same (IsRule-mirrored rule) n (mirror_node r u) (mirror_node-below r u h))).2) in
    let same = mirror_node-mirror_node r u h in
    subst₂ (λ (s t : ℕ). EndTogether r s t n) same same back
