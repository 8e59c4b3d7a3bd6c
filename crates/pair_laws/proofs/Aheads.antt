-- Look-aheads by pairs of nodes: no first pair of the side goes on together for the rest.
use Rattle.std.proofs.Common.{◌≡◌, ◌≢◌, ℕ, ◌+◌, ◌-◌, ◌*◌, ◌%◌, ◌<◌, ◌≤◌, ◌↔◌, ◌++◌, take, drop, get_or, slice_index, refl, sym, ap, ap₂, subst, subst₂, ◌∙◌, arith, length-take-le, mod-lt, div-add-mod'}
use Rattle.word_image.proofs.Common.{same_from_place, take-append-le, get_or_append_left, All-take, LocalRule, IsRule, value, word_of, HaveOneImage, IsRightAhead, next, label, node_letter, pair_of, first_of, second_of, LeadsOn, PairGoes, Together, IsFirstOf, IsFirstOfRight, seen_from, value-injective, value-word_of, next-below, IsRule-mirrored, rest_count, node_parts}
use Rattle.word_image.specs.declared.side.Side.{Side}
use Rattle.word_image.specs.declared.side.Side.TheVariants.{Right, Left}
use Rattle.pair_laws.proofs.Edges.{value-one, rest_count_pos, next-digits}
use Rattle.pair_laws.proofs.Joins.{HaveOneImage-join}
use Rattle.pair_laws.proofs.Walks.{LeadTogether, place_node, HaveOneImage-between, LeadTogether-first, LeadTogether-last, LeadTogether-edges, LeadTogether-one}
use Rattle.pair_laws.proofs.Ranks.{LeadTogether-begin, LeadTogether-end, BeginTogether-walk, EndTogether-walk, Together-below}
use Rattle.pair_laws.proofs.Pairs.{first_of-pair_of, second_of-pair_of, pair_of-first_of, pair_of-below, first_of-below, second_of-below, PairStep-walk, PairGoes-pair_of}
use Rattle.pair_laws.proofs.Windows.{node_letter-at, HaveOneImage-begin}
use Rattle.pair_laws.proofs.Mirrors.{mirror_node, mirror_node-mirror_node, LeadTogether-mirrored, LeadTogether-unmirrored}

-- two edges with one label fork at the node s: they lead from it to u and v on the right, and from u and v to it on the left
abbrev pub Fork : Side → LocalRule → ℕ → ℕ → ℕ → Type 0
Fork Right r s u v = LeadTogether r s s 1 u v
Fork Left r s u v = LeadTogether r u v 1 s s

-- Forks and look-aheads

-- where a rule looks ahead for n, a fork doesn't lead to two nodes that begin together for n - 1
fork-ahead : {r : LocalRule} {n s u v : ℕ} → IsRule r → IsRightAhead r n → Fork Right r s u v → Together Right r u v (n - 1) → u ≡ v
fork-ahead {r} {n} rule ahead h g =
    let d : ℕ = r.width - 1 in
    let images = h.one_image in
    let whole : HaveOneImage r n (h.x ++ drop d g.x) (h.y ++ drop d g.y) = HaveOneImage-join {i = 1} {j = n - 1} rule (omega (arith, ahead.some)) images g.one_image (h.first_last ∙ sym g.first) (h.second_last ∙ sym g.second) in
    let front : take d h.x ≡ take d h.y =
    value-injective r.states (take d h.x) (take d h.y) (All-take (λ c. c < r.states) d h.x images.first) (All-take (λ c. c < r.states) d h.y images.second)
    (omega (arith, length-take-le d h.x, length-take-le d h.y)) (h.first ∙ sym h.second) in
    let letter = ahead.letter _ _ whole (take-append-le d h.x (drop d g.x) (omega arith) ∙ front ∙ sym (take-append-le d h.y (drop d g.y) (omega arith))) in
    let same : get_or h.x d 0 ≡ get_or h.y d 0 = sym (get_or_append_left h.x (drop d g.x) 0 d (omega arith)) ∙ letter ∙ get_or_append_left h.y (drop d g.y) 0 d (omega arith) in
    sym h.first_last ∙ value-one rule h.x images.first images.first_long ∙ ap₂ (next r) (h.first ∙ sym h.second) same ∙ sym (value-one rule h.y images.second images.second_long) ∙ h.second_last

-- a rule looks ahead for n exactly where no fork does
right_ahead_forks : {r : LocalRule} → IsRule r → (n : ℕ)
    → IsRightAhead r n ↔ ((1 ≤ n) × ((s u v : ℕ) → Fork Right r s u v → Together Right r u v (n - 1) → u ≡ v))
right_ahead_forks {r} rule n = (
  (λ h. (h.some, (λ s u v. fork-ahead rule h))),
  (λ h. record {
    some = h.0;
    letter = λ x y images same.
        let front = HaveOneImage-between rule 0 1 1 (n - 1) n (omega arith) (omega (arith, h.0)) images in
        let fork = subst (λ s. LeadTogether r (place_node r x 0) s 1 (place_node r x 1) (place_node r y 1)) (ap (value r.states) (sym same)) front in
        let nodes = h.1 _ _ _ fork (HaveOneImage-begin 1 (n - 1) n (omega (arith, h.0)) images) in
        let place : 1 + (r.width - 1 - 1) ≡ r.width - 1 = omega arith in
        ap (slice_index x) (sym place) ∙ sym (node_letter-at r (place_node r x 1) 1 (r.width - 1 - 1) x images.first (omega (arith, h.0)) refl (omega arith))
        ∙ node_letter-at r (place_node r x 1) 1 (r.width - 1 - 1) y images.second (omega (arith, h.0)) (sym nodes) (omega arith) ∙ ap (slice_index y) place;
  }),
)

-- a rule looks ahead to a side for n exactly where the other ends of no fork go on together for n - 1, unless they are one node
ahead_forks : (side : Side) {r : LocalRule} → IsRule r → (n : ℕ)
    → IsRightAhead (seen_from side r) n ↔ ((1 ≤ n) × ((s u v : ℕ) → Fork side r s u v → Together side r u v (n - 1) → u ≡ v))
ahead_forks Right rule n = right_ahead_forks rule n
ahead_forks Left {r} rule n =
    let right = right_ahead_forks (IsRule-mirrored rule) n in (
      (λ h. (
        (right.0 h).0,
        (λ s u v fork ends.
            let (hu, hv) = LeadTogether-first fork in
            sym (mirror_node-mirror_node r u hu)
            ∙ ap (mirror_node r) ((right.0 h).1 _ _ _ (LeadTogether-mirrored rule fork) (LeadTogether-begin (LeadTogether-mirrored rule (EndTogether-walk ends).2)))
            ∙ mirror_node-mirror_node r v hv),
      )),
      (λ h. right.1 (
        h.0,
        (λ s u v fork begins.
            let (hu, hv) = LeadTogether-last fork in
            sym (mirror_node-mirror_node r u hu)
            ∙ ap (mirror_node r) (h.1 _ _ _ (LeadTogether-unmirrored rule fork) (LeadTogether-end (LeadTogether-unmirrored rule (BeginTogether-walk begins).2)))
            ∙ mirror_node-mirror_node r v hv),
      )),
    )

-- Forks and first pairs

-- edges that lead to one node have one letter, and leave nodes with the same letters behind the first
pub same_next : {r : LocalRule} → IsRule r → (u v a b : ℕ) → a < r.states → b < r.states → next r u a ≡ next r v b
    → (u % rest_count r ≡ v % rest_count r) × (a ≡ b)
same_next {r} rule u v a b ha hb e = same_from_place (u % rest_count r) a (v % rest_count r) b r.states ha hb (sym (next-digits rule u a ha) ∙ e ∙ next-digits rule v b hb)

-- the different nodes of a fork are a first pair
pub IsFirstOf-fork : (side : Side) {r : LocalRule} → IsRule r → (s u v : ℕ) → Fork side r s u v → u ≢ v → IsFirstOf side r (pair_of r u v)
IsFirstOf-fork Right {r} rule s u v fork other =
    let (a, b, in_a, in_b, one_label, to_u, to_v) = LeadTogether-one rule fork in
    record {
      node = s;
      a = a;
      b = b;
      in_nodes = (LeadTogether-first fork).0;
      a_letter = in_a;
      b_letter = in_b;
      different = λ same. other (sym to_u ∙ ap (next r s) same ∙ to_v);
      one_label = one_label;
      pair = ap₂ (pair_of r) (sym to_u) (sym to_v);
    }
IsFirstOf-fork Left {r} rule s u v fork other =
    let (a, b, in_a, in_b, one_label, to_s, also) = LeadTogether-one rule fork in
    let (hu, hv) = LeadTogether-first fork in
    let (rest, letter) = same_next rule u v a b in_a in_b (to_s ∙ sym also) in
    let first = first_of-pair_of r u v hv in
    let second = second_of-pair_of r u v hv in
    let in_u = node_parts rule u in
    let in_v = node_parts rule v in
    record {
      letter = a;
      in_pairs = pair_of-below r u v hu hv;
      in_letters = in_a;
      different = λ same. other (sym (div-add-mod' u (rest_count r))
          ∙ ap₂ (λ (x y : ℕ). x * rest_count r + y) (sym in_u.0 ∙ ap (λ c. node_letter r c 0) (sym first) ∙ same ∙ ap (λ c. node_letter r c 0) second ∙ in_v.0) rest
          ∙ div-add-mod' v (rest_count r));
      same_rest = rw (first, second) (in_u.1 ∙ ap (word_of r.states (r.width - 2)) rest ∙ sym in_v.1);
      one_label = rw (first, second) (one_label ∙ ap (label r v) (sym letter));
    }

-- the pair of two different nodes to which a step leads from a pair of two equal nodes is a first one
pub IsFirstOf-step : (side : Side) {r : LocalRule} → IsRule r → (p q : ℕ) → first_of r p ≡ second_of r p → first_of r q ≢ second_of r q
    → LeadsOn side r p q → IsFirstOf side r q
IsFirstOf-step Right {r} rule p q one other step =
    subst (IsFirstOf Right r) (pair_of-first_of r q) (IsFirstOf-fork Right rule _ _ _ (subst (λ u. LeadTogether r (first_of r p) u 1 (first_of r q) (second_of r q)) (sym one) (PairStep-walk rule step)) other)
IsFirstOf-step Left {r} rule p q one other step =
    subst (IsFirstOf Left r) (pair_of-first_of r q) (IsFirstOf-fork Left rule _ _ _ (subst (LeadTogether r (first_of r q) (second_of r q) 1 (first_of r p)) (sym one) (PairStep-walk rule step)) other)

-- the nodes of a first pair are different, and in a fork
pub fork_of : (side : Side) {r : LocalRule} → IsRule r → (p : ℕ) → IsFirstOf side r p
    → (s : ℕ) × Fork side r s (first_of r p) (second_of r p) × (first_of r p ≢ second_of r p)
fork_of Right {r} rule p f =
    let inside = next-below rule f.node f.b in
    let first = ap (first_of r) f.pair ∙ first_of-pair_of r _ _ inside in
    let second = ap (second_of r) f.pair ∙ second_of-pair_of r _ _ inside in (
      f.node,
      subst₂ (LeadTogether r f.node f.node 1) (sym first) (sym second) (LeadTogether-edges rule f.node f.node f.a f.b f.in_nodes f.in_nodes f.a_letter f.b_letter f.one_label),
      (λ same. f.different (same_next rule f.node f.node f.a f.b f.a_letter f.b_letter (sym first ∙ same ∙ second)).1),
    )
fork_of Left {r} rule p f =
    let u : ℕ = first_of r p in
    let v : ℕ = second_of r p in
    let word : (c : ℕ) → value r.states (word_of r.states (r.width - 2) (c % rest_count r)) ≡ c % rest_count r = λ c. value-word_of r.states (r.width - 2) (c % rest_count r) (mod-lt c (rest_count_pos rule)) in
    let rest : u % rest_count r ≡ v % rest_count r = sym (word u) ∙ ap (value r.states) (sym (node_parts rule u).1 ∙ f.same_rest ∙ (node_parts rule v).1) ∙ word v in
    let same : next r u f.letter ≡ next r v f.letter = next-digits rule u f.letter f.in_letters ∙ ap (λ c. c * r.states + f.letter) rest ∙ sym (next-digits rule v f.letter f.in_letters) in (
      next r v f.letter,
      subst (λ s. LeadTogether r u v 1 s (next r v f.letter)) same (LeadTogether-edges rule u v f.letter f.letter (first_of-below rule p f.in_pairs) (second_of-below rule p) f.in_letters f.in_letters f.one_label),
      (λ one. f.different (ap (λ c. node_letter r c 0) one)),
    )

-- a rule looks ahead to a side for n exactly where no first pair of this side goes on for n - 1
pub ahead_pairs : (side : Side) {r : LocalRule} → IsRule r → (n : ℕ)
    → IsRightAhead (seen_from side r) n ↔ ((1 ≤ n) × ((p : ℕ) → IsFirstOf side r p → ¬ PairGoes side r p (n - 1)))
ahead_pairs side {r} rule n =
    let forks = ahead_forks side rule n in grind (arith, fork_of, IsFirstOf-fork, PairGoes-pair_of, Together-below)

-- a rule looks ahead for n exactly where no first pair of the right begins together for n - 1
pub IsRightAhead-pairs : {r : LocalRule} → IsRule r → (n : ℕ)
    → IsRightAhead r n ↔ ((1 ≤ n) × ((p : ℕ) → IsFirstOfRight r p → ¬ PairGoes Right r p (n - 1)))
IsRightAhead-pairs = ahead_pairs Right
