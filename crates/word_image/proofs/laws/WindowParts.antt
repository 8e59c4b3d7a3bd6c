-- Windows and nodes taken apart by their values: a window is a node and a letter from either end, and a node's letters are the digits of its number.
use Rattle.std.proofs.lemmas.Grind.{common_steps}
use Rattle.std.proofs.Common.{◌≡◌, ℕ, ◌+◌, ◌-◌, ◌*◌, ◌/◌, ◌%◌, ◌^◌, ◌<◌, ◌≤◌, List, length, take, drop, slice_index, sym, ap, ◌∙◌, arith, mod-lt, pow-suc}
use Rattle.std.proofs.Math.Nat.{one-le-pow, pow-le-pow_right}
use Rattle.std.proofs.lemmas.Nat.{mod-mul-add, div_below, mul-add-lt}
use Rattle.word_image.specs.LocalRules.{LocalRule, IsRule, IsWord, value, word_of, node_count}
use Rattle.word_image.specs.Graphs.{node_letter}
use Rattle.word_image.specs.Ends.{window_with, end_node}
use Rattle.word_image.specs.declared.side.Side.{Side}
use Rattle.word_image.specs.declared.side.Side.TheVariants.{Right, Left}
use Rattle.word_image.proofs.laws.Graphs.{node_count_pos}
use Rattle.word_image.proofs.laws.Values.{value-take, value-take_more, value-word_of, length-word_of, IsWord-word_of}

-- there are letters
pub some_letter : {r : LocalRule} → IsRule r → 0 < r.states
some_letter {r} rule = let least : 2 ≤ r.states = rule.shape.least_states in omega arith

-- there are as many windows as nodes with a letter
pub windows-nodes : {r : LocalRule} → IsRule r → r.states ^ r.width ≡ node_count r * r.states
windows-nodes rule = grind (arith, common_steps)

-- how many words of m - 2 letters there are
abbrev pub rest_count : LocalRule → ℕ
rest_count r = r.states ^ (r.width - 2)

-- a node is a letter and a word of m - 2 letters
pub node_count-rest : {r : LocalRule} → IsRule r → node_count r ≡ rest_count r * r.states
node_count-rest {r} rule =
    ap (λ n. r.states ^ n) (omega arith) ∙ pow-suc r.states (r.width - 2)

-- the window of a letter, a word of m - 2 letters and a letter, read from either end
pub window_parts : {r : LocalRule} → IsRule r → (a s b : ℕ) → a * node_count r + (s * r.states + b) ≡ (a * rest_count r + s) * r.states + b
window_parts rule a s b = grind (arith, node_count-rest)

-- the first letter of a node, and the word of its other letters
pub node_parts : {r : LocalRule} → IsRule r → (u : ℕ)
    → (node_letter r u 0 ≡ u / rest_count r) × (drop 1 (word_of r.states (r.width - 1) u) ≡ word_of r.states (r.width - 2) (u % rest_count r))
node_parts rule u = grind arith

-- a power of k that is no more than there are nodes
pub power-below : {r : LocalRule} → IsRule r → (j : ℕ) → j ≤ r.width - 1 → (1 ≤ r.states ^ j) × (r.states ^ j ≤ 16)
power-below rule j l = grind (arith, one-le-pow, pow-le-pow_right)

-- a letter of a word, as a digit of its value
pub letter-value : (k : ℕ) (w : List ℕ) (i j : ℕ) → IsWord k w → i + j + 1 ≡ length w → value k w / k ^ j % k ≡ slice_index w i
letter-value k w i j h e =
    ap (λ n. value k w / k ^ n % k) (omega arith)
    ∙ ap (λ v. v % k) (sym (value-take k (i + 1) w h (omega arith)) ∙ value-take_more k w i (omega arith))
    ∙ mod-mul-add (value k (take i w)) k (slice_index w i) (h i 0 (omega arith))

-- letter i of the word of a value
pub get_or-word_of : (k i m v : ℕ) → i < m → v < k ^ m → slice_index (word_of k m v) i ≡ v / k ^ (m - 1 - i) % k
get_or-word_of k i m v l below =
    sym (letter-value k (word_of k m v) i (m - 1 - i) (IsWord-word_of k m v below) (omega (arith, length-word_of k m v)))
    ∙ ap (λ x. x / k ^ (m - 1 - i) % k) (value-word_of k m v below)

-- a letter of a node, as a digit of its number
pub node_letter-digit : (r : LocalRule) (u i j : ℕ) → u < node_count r → i + j + 1 ≡ r.width - 1 → node_letter r u i ≡ u / r.states ^ j % r.states
node_letter-digit r u i j below e = grind (arith, get_or-word_of)

-- the window of a node and a letter is one of the windows
pub window_with-within : (side : Side) {r : LocalRule} → IsRule r → (u a : ℕ) → u < node_count r → a < r.states
    → window_with side r u a < r.states ^ r.width
window_with-within Right {r} rule u a node letter = omega (arith, windows-nodes rule, mul-add-lt u r.states a (node_count r) node letter)
window_with-within Left {r} rule u a node letter = omega (arith, windows-nodes rule, mul-add-lt a (node_count r) u r.states letter node)

-- a window has a node at each end
pub end_node-below : (side : Side) {r : LocalRule} → IsRule r → (w : ℕ) → w < r.states ^ r.width → end_node side r w < node_count r
end_node-below Right {r} rule w within = mod-lt w (node_count_pos rule)
end_node-below Left {r} rule w within = div_below w r.states (node_count r) (some_letter rule) (omega (arith, windows-nodes rule))
