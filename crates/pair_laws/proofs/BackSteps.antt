-- A window is a node and the letter after it, and also the letter before a node and that node: so a step leads back from a pair along the windows that its nodes end.
use Rattle.std.proofs.Common.{◌≡◌, ℕ, ◌+◌, ◌*◌, ◌-◌, ◌/◌, ◌%◌, ◌^◌, ◌<◌, ◌↔◌, Some, slice_index, eq-eqb, refl, sym, ap, ◌∙◌, subst, subst₂, mod-lt, mul_comm, arith, div-add-mod'}
use Rattle.word_image.proofs.Common.{div-mul-add, mod-mul-add, div-div-eq-div-mul, LocalRule, IsRule, node_count, node_letter, first_of, second_of, pair_of, pair_count, follow_on, LeadsOn, IsWord-word_of, length-word_of, some_letter, rest_count, node_count-rest, node_parts, window_with-within, end_node-below, window_with, label_at, end_at}
use Rattle.pair_laws.proofs.Pairs.{first_of-pair_of, second_of-pair_of, pair_of-first_of, some_if_equal, first_of-below, second_of-below, LeadTogether-pairs}
use Rattle.pair_laws.proofs.Walks.{LeadTogether, LeadTogether-edges}
use Rattle.word_image.specs.declared.side.Side.{Side}
use Rattle.word_image.specs.declared.side.Side.TheVariants.{Right, Left}
use Rattle.word_image.specs.BackSteps.{LeadsBack}

-- a letter leads to a node
pub end_at-below : (side : Side) {r : LocalRule} → IsRule r → (u a : ℕ) → u < node_count r → a < r.states → end_at side r u a < node_count r
end_at-below side {r} rule u a node letter = end_node-below side rule (window_with side r u a) (window_with-within side rule u a node letter)

-- the first letter of a node is that of its windows
first_letter : {r : LocalRule} → IsRule r → (u c : ℕ) → c < r.states → (u * r.states + c) / node_count r ≡ node_letter r u 0
first_letter {r} rule u c letter =
    ap (λ n. (u * r.states + c) / n) (node_count-rest rule ∙ mul_comm (rest_count r) r.states)
    ∙ sym (div-div-eq-div-mul (u * r.states + c) r.states (rest_count r))
    ∙ ap (λ v. v / rest_count r) (div-mul-add u r.states c letter) ∙ sym (node_parts rule u).0

-- two windows with one label are two edges with one label
pub window_edges : {r : LocalRule} → IsRule r → (w z : ℕ) → w < r.states ^ r.width → z < r.states ^ r.width
    → slice_index r.table w ≡ slice_index r.table z
    → LeadTogether r (w / r.states) (z / r.states) 1 (w % node_count r) (z % node_count r)
window_edges {r} rule w z below_w below_z one_label =
    let k : ℕ = r.states in
    let split = λ (x : ℕ). div-add-mod' x k in
    subst₂ (λ (x y : ℕ). LeadTogether r (w / k) (z / k) 1 (x % node_count r) (y % node_count r)) (split w) (split z)
    (LeadTogether-edges rule (w / k) (z / k) (w % k) (z % k) (end_node-below Left rule w below_w) (end_node-below Left rule z below_z) (mod-lt w (some_letter rule)) (mod-lt z (some_letter rule))
    (ap (slice_index r.table) (split w) ∙ one_label ∙ ap (slice_index r.table) (sym (split z))))

-- the first node of the window of letter a before node s begins with a
begins_with : {r : LocalRule} → IsRule r → (s a : ℕ) → s < node_count r → node_letter r (end_at Left r s a) 0 ≡ a
begins_with {r} rule s a node =
    let w : ℕ = window_with Left r s a in
    sym (first_letter rule (w / r.states) (w % r.states) (mod-lt w (some_letter rule))) ∙ ap (λ x. x / node_count r) (div-add-mod' w r.states) ∙ div-mul-add a (node_count r) s node

-- the pair of the nodes of two windows leads back, where the windows have one label
leads_back : {r : LocalRule} → IsRule r → (q a b : ℕ) → q < pair_count r → a < r.states → b < r.states
    → label_at Left r (first_of r q) a ≡ label_at Left r (second_of r q) b
    → LeadsBack r q a b (pair_of r (end_at Left r (first_of r q) a) (end_at Left r (second_of r q) b))
leads_back {r} rule q a b pair ha hb one_label =
    let hu = first_of-below rule q pair in
    let hv = second_of-below rule q in
    let edges = window_edges rule _ _ (window_with-within Left rule (first_of r q) a hu ha) (window_with-within Left rule (second_of r q) b hv hb) one_label in
    let step = LeadTogether-pairs rule (subst₂ (LeadTogether r _ _ 1) (mod-mul-add a (node_count r) (first_of r q) hu) (mod-mul-add b (node_count r) (second_of r q) hv) edges) in
    let inside = end_at-below Left rule (second_of r q) b hv hb in
    record {
      in_pairs = step.in_pairs;
      first = ap (λ u. node_letter r u 0) (first_of-pair_of r _ _ inside) ∙ begins_with rule (first_of r q) a hu;
      second = ap (λ u. node_letter r u 0) (second_of-pair_of r _ _ inside) ∙ begins_with rule (second_of r q) b hv;
      leads = (step.a, step.b, step.a_letter, step.b_letter, step.follows ∙ ap Some (pair_of-first_of r q));
    }

-- where a pair leads back, the two windows have one label, and it leads to the pair of their nodes
pub led_back : {r : LocalRule} → IsRule r → (q a b p : ℕ) → LeadsBack r q a b p
    → (label_at Left r (first_of r q) a ≡ label_at Left r (second_of r q) b) × (pair_of r (end_at Left r (first_of r q) a) (end_at Left r (second_of r q) b) ≡ p)
led_back rule q a b p back = grind (arith, div-mul-add, first_letter, mod-mul-add, div-add-mod', window_with)

-- two edges with one label lead to the pair of their ends
pub follow_on-edges : (side : Side) (r : LocalRule) (p a b : ℕ) → label_at side r (first_of r p) a ≡ label_at side r (second_of r p) b
    → follow_on side r p a b ≡ Some (pair_of r (end_at side r (first_of r p) a) (end_at side r (second_of r p) b))
follow_on-edges side r p a b same = rw (eq-eqb _ _ same) refl

-- from q the letters a and b lead back exactly where they lead to the left
pub LeadsBack-follow : {r : LocalRule} → IsRule r → (q a b p : ℕ) → q < pair_count r → a < r.states → b < r.states
    → (follow_on Left r q a b ≡ Some p) ↔ LeadsBack r q a b p
LeadsBack-follow {r} rule q a b p pair ha hb = (
  (λ leads. let (same, here) = some_if_equal _ _ _ p leads in subst (LeadsBack r q a b) here (leads_back rule q a b pair ha hb same)),
  (λ back. let (same, here) = led_back rule q a b p back in follow_on-edges Left r q a b same ∙ ap Some here),
)

-- the first letter of a node is a letter
node_letter-first : {r : LocalRule} → IsRule r → (u : ℕ) → u < node_count r → node_letter r u 0 < r.states
node_letter-first {r} rule u node = IsWord-word_of r.states (r.width - 1) u node 0 0 (omega (arith, rule.shape.least_width, length-word_of r.states (r.width - 1) u))

-- a pair leads on where some letters lead on this side, and nowhere else
pub LeadsOn-follows : (side : Side) {r : LocalRule} → IsRule r → (p q : ℕ) → p < pair_count r
    → LeadsOn side r p q ↔ ((a : ℕ) × (b : ℕ) × (a < r.states) × (b < r.states) × (follow_on side r p a b ≡ Some q))
LeadsOn-follows Right rule p q inside = (
  (λ s. (s.a, s.b, s.a_letter, s.b_letter, s.follows)),
  (λ (a, b, in_a, in_b, leads). record { a = a; b = b; in_pairs = inside; a_letter = in_a; b_letter = in_b; follows = leads }),
)
LeadsOn-follows Left {r} rule q p inside = (
  (λ s.
      let in_a = node_letter-first rule (first_of r p) (first_of-below rule p s.in_pairs) in
      let in_b = node_letter-first rule (second_of r p) (second_of-below rule p) in
      let back : LeadsBack r q (node_letter r (first_of r p) 0) (node_letter r (second_of r p) 0) p = record { in_pairs = s.in_pairs; first = refl; second = refl; leads = (s.a, s.b, s.a_letter, s.b_letter, s.follows) } in
      (_, _, in_a, in_b, (LeadsBack-follow rule q _ _ p inside in_a in_b).1 back)),
  (λ (a, b, in_a, in_b, follows).
      let back = (LeadsBack-follow rule q a b p inside in_a in_b).0 follows in
      let (c, d, in_c, in_d, leads) = back.leads in
      record { a = c; b = d; in_pairs = back.in_pairs; a_letter = in_c; b_letter = in_d; follows = leads }),
)
