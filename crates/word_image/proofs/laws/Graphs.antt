-- The de Bruijn graph of a rule read on words: nodes are ends of words, edges are windows.
use Rattle.std.proofs.lemmas.Grind.{common_steps}
use Rattle.std.proofs.Common.{◌≡◌, ℕ, ◌+◌, ◌-◌, ◌*◌, ◌/◌, ◌%◌, ◌^◌, ◌<◌, ◌≤◌, List, [], ◌∷◌, ◌++◌, length, take, drop, slice_index, sym, ap, ◌∙◌, subst, arith, length-drop, mod-lt, mul-pos, mul-le-mul, drop-drop}
use Rattle.std.proofs.Math.Nat.{one-le-pow}
use Rattle.std.proofs.lemmas.Nat.{div-mul-add}
use Rattle.std.proofs.lemmas.List.{drop-append-le, length_push}
use Rattle.std.proofs.lemmas.List.Elements.{All-drop, All-push}
use Rattle.word_image.specs.LocalRules.{LocalRule, IsRule, IsWord, value, local_map, node_count}
use Rattle.word_image.specs.Graphs.{next, label, pair_count}
use Rattle.word_image.proofs.laws.Values.{value-below, value-snoc, value-drop, value-take_more}

-- there are nodes
pub node_count_pos : {r : LocalRule} → IsRule r → 0 < node_count r
node_count_pos {r} rule = one-le-pow (r.width - 1) r.states (omega arith)

-- there are pairs of nodes
pub pair_count_pos : {r : LocalRule} → IsRule r → 0 < pair_count r
pair_count_pos rule = mul-pos (node_count_pos rule) (node_count_pos rule)

-- there are at most 256 pairs of nodes
pub pair_count-le : {r : LocalRule} → IsRule r → pair_count r ≤ 256
pair_count-le rule = mul-le-mul rule.shape.most_nodes rule.shape.most_nodes

-- an edge leads to a node
pub next-below : {r : LocalRule} → IsRule r → (u a : ℕ) → next r u a < node_count r
next-below {r} rule u a = mod-lt (u * r.states + a) (node_count_pos rule)

-- a word of m - 1 letters is a node
pub value-node : (r : LocalRule) (z : List ℕ) → IsWord r.states z → length z ≡ r.width - 1 → value r.states z < node_count r
value-node r z h e = subst (λ n. value r.states z < r.states ^ n) e (value-below r.states z h)

-- the value of a word without its last letter
pub value-front : (k d : ℕ) (y : List ℕ) → IsWord k y → length y ≡ d + 1 → value k (take d y) ≡ value k y / k
value-front k d y h e = grind (arith, common_steps, value-take_more, div-mul-add)

-- the value of a word without its first letter
pub value-tail : (k d : ℕ) (y : List ℕ) → IsWord k y → length y ≡ d + 1 → value k (drop 1 y) ≡ value k y % k ^ d
value-tail k d y h e =
    value-drop k 1 y h (omega arith) ∙ ap (λ n. value k y % k ^ n) (omega arith)

-- where one more letter leads from the last node of a word
pub value-next : {r : LocalRule} → IsRule r → (n : ℕ) (x : List ℕ) (b : ℕ) → IsWord r.states x → length x ≡ n + (r.width - 1) → b < r.states
    → value r.states (drop (n + 1) (x ++ b ∷ [])) ≡ next r (value r.states (drop n x)) b
value-next {r} rule n x b h e l =
    let word = All-push (λ a. a < r.states) (drop n x) b (All-drop (λ a. a < r.states) n x h) l in
    ap (value r.states) (sym (drop-drop 1 n (x ++ b ∷ [])))
    ∙ ap (λ z. value r.states (drop 1 z)) (drop-append-le n x (b ∷ []) (omega arith))
    ∙ value-tail r.states (r.width - 1) (drop n x ++ b ∷ []) word (omega (arith, length_push (drop n x) b, length-drop n x))
    ∙ ap (λ v. v % node_count r) (value-snoc r.states (drop n x) b)

-- the label of that edge is what the rule gives on its window
pub local_map-label : (r : LocalRule) (z : List ℕ) (b : ℕ) → local_map r (z ++ b ∷ []) ≡ label r (value r.states z) b
local_map-label r z b = ap (slice_index r.table) (value-snoc r.states z b)
