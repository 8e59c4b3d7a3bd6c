-- The first pairs of a side, told by the letters of their nodes.
use Rattle.std.proofs.Common.{◌↔◌, ◌≡◌, ◌≢◌, ℕ, ◌+◌, ◌-◌, ◌*◌, ◌/◌, ◌%◌, ◌<◌, slice_index, refl, sym, ap, ap₂, ◌∙◌, subst, arith, mul_comm, mod-lt, div-add-mod', rules}
use Rattle.word_image.proofs.Common.{mul-add-lt, div_below, div-mul-add, mod-mul-add, LocalRule, IsRule, node_count, value, word_of, next, first_of, second_of, pair_count, IsFirstOfRight, IsFirstOfLeft, IsFirstOf, value-word_of, next-below, rest_count, power-below, node_count-rest, window_parts, node_parts, window_with, other}
use Rattle.pair_laws.proofs.Common.{next-digits, first_of-pair_of, second_of-pair_of, pair_of-first_of, first_of-below, second_of-below}
use Rattle.word_image.specs.declared.side.Side.{Side}
use Rattle.word_image.specs.declared.side.Side.TheVariants.{Right, Left}
use Rattle.cert_check.specs.SideWindows.{rest_of}

-- some letter on this side of two nodes makes windows with one label of them
abbrev pub HaveOneLabel : Side → LocalRule → ℕ → ℕ → Type 0
HaveOneLabel side r u v = (a : ℕ) × (a < r.states) × (slice_index r.table (window_with side r u a) ≡ slice_index r.table (window_with side r v a))

-- the nodes differ in their letter on this side alone, and a letter on the other side makes windows with one label of them
abbrev pub DifferAtEnd : Side → LocalRule → ℕ → ℕ → Type 0
DifferAtEnd side r u v = (u ≢ v) × (rest_of side r u ≡ rest_of side r v) × HaveOneLabel (other side) r u v

-- the node to which a letter leads: its last letter, its other letters, and the window that ends with it
next_parts : {r : LocalRule} → IsRule r → (w a : ℕ) → a < r.states
    → (next r w a % r.states ≡ a) × (next r w a / r.states ≡ w % rest_count r) × (w / rest_count r * node_count r + next r w a ≡ w * r.states + a)
next_parts rule w a letter = search (rules, window_parts, div-add-mod', next-digits, mod-mul-add, div-mul-add)

-- the nodes of a first pair of the right differ in their last letter alone
DifferAtEnd-right : {r : LocalRule} {p : ℕ} → IsRule r → IsFirstOfRight r p → DifferAtEnd Right r (first_of r p) (second_of r p)
DifferAtEnd-right {r} {p} rule f =
    let k : ℕ = r.states in
    let c : ℕ = f.node / rest_count r in
    let first : first_of r p ≡ next r f.node f.a = ap (first_of r) f.pair ∙ first_of-pair_of r _ _ (next-below rule f.node f.b) in
    let second : second_of r p ≡ next r f.node f.b = ap (second_of r) f.pair ∙ second_of-pair_of r _ _ (next-below rule f.node f.b) in
    let one = next_parts rule f.node f.a f.a_letter in
    let two = next_parts rule f.node f.b f.b_letter in
    let letter : c < k = div_below f.node (rest_count r) k (power-below rule (r.width - 2) (omega arith)).0 (rw (node_count-rest rule, mul_comm (rest_count r) k) at f.in_nodes) in
    rw (first, second) ((λ e. f.different (sym one.0 ∙ ap (λ z. z % k) e ∙ two.0)), one.1 ∙ sym two.1, (c, letter, rw (one.2, two.2) f.one_label))

-- two nodes that differ in their last letter alone are a first pair of the right
IsFirstOfRight-differ : {r : LocalRule} {p : ℕ} → IsRule r → p < pair_count r → DifferAtEnd Right r (first_of r p) (second_of r p)
    → IsFirstOfRight r p
IsFirstOfRight-differ {r} {p} rule in_pairs (apart, rest, (c, letter, one_label)) =
    let k : ℕ = r.states in
    let u : ℕ = first_of r p in
    let v : ℕ = second_of r p in
    let some : 0 < k = omega arith in
    let hu : u < node_count r = first_of-below rule p in_pairs in
    let node : ℕ = c * rest_count r + u / k in
    let from : (x : ℕ) → u / k ≡ x / k → node * k + x % k ≡ c * node_count r + x = λ x same.
    ap (λ s. (c * rest_count r + s) * k + x % k) same ∙ sym (window_parts rule c (x / k) (x % k)) ∙ ap (λ z. c * node_count r + z) (div-add-mod' x k) in
    let leads : (x : ℕ) → u / k ≡ x / k → x < node_count r → next r node (x % k) ≡ x = grind (arith, mod-mul-add) in
    let below : u / k < rest_count r = grind (arith, div_below, node_count-rest) in
    record {
      node = node;
      a = u % k;
      b = v % k;
      in_nodes = subst (λ n. node < n) (sym (node_count-rest rule)) (mul-add-lt c (rest_count r) (u / k) k letter below);
      a_letter = mod-lt u some;
      b_letter = mod-lt v some;
      different = λ e. apart (sym (div-add-mod' u k) ∙ ap₂ (λ (i j : ℕ). i * k + j) rest e ∙ div-add-mod' v k);
      one_label = rw (from u refl, from v rest) one_label;
      pair = rw (leads u refl hu, leads v rest (second_of-below rule p)) (sym (pair_of-first_of r p));
    }

-- the nodes of a first pair of the left differ in their first letter alone
DifferAtEnd-left : {r : LocalRule} {p : ℕ} → IsRule r → IsFirstOfLeft r p → DifferAtEnd Left r (first_of r p) (second_of r p)
DifferAtEnd-left {r} {p} rule f =
    let some = power-below rule (r.width - 2) (omega arith) in
    let at : (u : ℕ) → value r.states (word_of r.states (r.width - 2) (u % rest_count r)) ≡ u % rest_count r = grind (arith, value-word_of) in
    let words = sym (node_parts rule (first_of r p)).1 ∙ f.same_rest ∙ (node_parts rule (second_of r p)).1 in grind arith

-- two nodes that differ in their first letter alone are a first pair of the left
IsFirstOfLeft-differ : {r : LocalRule} {p : ℕ} → IsRule r → p < pair_count r → DifferAtEnd Left r (first_of r p) (second_of r p) → IsFirstOfLeft r p
IsFirstOfLeft-differ {r} {p} rule in_pairs (apart, rest, (c, letter, one_label)) =
    let u : ℕ = first_of r p in
    let v : ℕ = second_of r p in
    record {
      letter = c;
      in_pairs = in_pairs;
      in_letters = letter;
      different = grind (arith, node_parts);
      same_rest = (node_parts rule u).1 ∙ ap (word_of r.states (r.width - 2)) rest ∙ sym (node_parts rule v).1;
      one_label = one_label;
    }

-- a pair is a first one of a side exactly where its nodes differ in their letter on that side alone
pub IsFirstOf-differ : (side : Side) {r : LocalRule} (p : ℕ) → IsRule r → p < pair_count r
    → IsFirstOf side r p ↔ DifferAtEnd side r (first_of r p) (second_of r p)
IsFirstOf-differ Right p rule pair = (DifferAtEnd-right rule, IsFirstOfRight-differ rule pair)
IsFirstOf-differ Left p rule pair = (DifferAtEnd-left rule, IsFirstOfLeft-differ rule pair)
