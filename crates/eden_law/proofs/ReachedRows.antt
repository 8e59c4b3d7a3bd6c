-- What a search through rows of sets of nodes has found: steps from one node at a time, and in the end whether the rule is surjective.
use Rattle.std.proofs.Common.{◌≡◌, ◌≢◌, ℕ, ◌+◌, ◌-◌, ◌*◌, ◌%◌, ◌^◌, ◌<◌, ◌≤◌, inl, inr, ◌↔◌, List, length, Some, IsBitSet, bit_or, slice_index, slice_set, refl, sym, ap, ◌∙◌, subst, ⊎_elim, arith, mod-lt, lit<, bit_and, below_more, length-set}
use Rattle.word_image.proofs.Common.{le_or_l, or_lt, LocalRule, IsRule, node_count, IsSurjective, next, label, pair_of, first_of, second_of, pair_count, HasBit, next-below, IsEnds, IsStep}
use Rattle.pair_laws.proofs.Common.{next-digits, row_cases, HasBit-or, IsBitSet-minus, IsBitSet-shl, pair_of-below, first_of-pair_of, second_of-pair_of, first_of-below, second_of-below, follow-pair_of, follow-some}
use Rattle.word_image.specs.declared.side.Side.TheVariants.{Right}
use Rattle.garden_laws.specs.ReachedPairs.{IsReached}
use Rattle.garden_laws.specs.ReachedPairs.IsReached.{First, On}
use Rattle.garden_laws.proofs.ReachedPairs.{IsSurjective-reached, holds-reached}
use Rattle.eden_law.specs.ReachedRows.{LeadsApart, LeadsBeside, AreAdded, IsRowSearch}

-- if a property holds of the first n rows, and of a value at place i, it still holds of these rows after the value is written at i
after_write : (P : ℕ → ℕ → Type 0) (rows : List ℕ) (i row n : ℕ) → i < length rows → P i row
    → ((u : ℕ) → u < n → P u (slice_index rows u)) → (u : ℕ) → u < n → P u (slice_index (slice_set rows i row) u)
after_write P rows i row n inside new old u l =
    ⊎_elim (λ here. rw (here.1, here.0) new) (λ there. rw there.1 (old u l)) (row_cases rows i row u inside)

-- one letter more is added
pub AreAdded-step : {r : LocalRule} {node n : ℕ} {Has : ℕ → ℕ → Type 0} {old new : List ℕ} → IsRule r → (i set : ℕ) → AreAdded r node Has n old new
    → i ≡ next r node n → set < 2 ^ node_count r
    → ((v : ℕ) → v < node_count r → (IsBitSet set v ↔ Has n v)) → AreAdded r node Has (n + 1) old (slice_set new i (bit_or (slice_index new i) set))
AreAdded-step {r} {node} {n} {Has} {old} {new} rule i set h at small has =
    let row : ℕ = bit_or (slice_index new i) set in
    let below : i < node_count r = rw at (next-below rule node n) in
    let inside : i < length new = omega (arith, h.rows.long) in
    record {
      rows = record {
        long = length-set new i row ∙ h.rows.long;
        within = after_write (λ u x. x < 2 ^ node_count r)
            new i row (node_count r) inside (or_lt (node_count r) (slice_index new i) set (h.rows.within i below) small) h.rows.within;
      };
      grown = after_write (λ u x. slice_index old u ≤ x)
          new i row (node_count r) inside (omega (arith, le_or_l (slice_index new i) set, h.grown i below)) h.grown;
      pairs = λ u v hu hv.
          let before = h.pairs u v hu hv in
          let more = HasBit-or new i set inside u v in (
            (λ some. ⊎_elim
                (λ (here, one). inr (n, omega arith, sym at ∙ sym here, (has v hv).0 one))
                (λ o. ⊎_elim inl (λ (a, l, e, one). inr (a, omega (arith, l), e, one)) (before.0 o))
                (more.0 some)),
            ⊎_elim
                (λ o. more.1 (inr (before.1 (inl o))))
                (λ (a, l, e, one). below_more (λ a. next r node a ≡ u → Has a v → HasBit (slice_set new i row) u v) n
                (λ a l e one. more.1 (inr (before.1 (inr (a, l, e, one))))) (λ e one. more.1 (inl (sym e ∙ sym at, (has v hv).1 one))) a l e one),
          );
    }

-- what was found stays in the rows to which pairs are added
pub HasBit-added : {r : LocalRule} {node n : ℕ} {Has : ℕ → ℕ → Type 0} {old new : List ℕ} → AreAdded r node Has n old new → (u v : ℕ)
    → u < node_count r → v < node_count r → HasBit old u v → HasBit new u v
HasBit-added h u v hu hv old = (h.pairs u v hu hv).1 (inl old)

-- two letters lead from one node to one node only if they are one
pub next-injective : {r : LocalRule} → IsRule r → (u a b : ℕ) → a < r.states → b < r.states → next r u a ≡ next r u b → a ≡ b
next-injective rule u a b ha hb e = omega (arith, next-digits rule u a ha, next-digits rule u b hb)

-- the ends of the edges with the label of a, but for the one of a itself
pub LeadsApart-set : {r : LocalRule} → IsRule r → (node a label_a to ends : ℕ) → a < r.states → label_a ≡ label r node a → to ≡ next r node a
    → IsEnds Right r node label_a ends
    → (v : ℕ) → v < node_count r → (IsBitSet (bit_and ends (65535 - 1 * 2 ^ to % 2 ^ 16)) v ↔ LeadsApart r node a v)
LeadsApart-set {r} rule node a label_a to ends ha labelled at h v hv =
    let one : IsBitSet (1 * 2 ^ to % 2 ^ 16) v ↔ (v ≡ to) = IsBitSet-shl to v (omega arith) in
    let minus = IsBitSet-minus ends (1 * 2 ^ to % 2 ^ 16) v (mod-lt (1 * 2 ^ to) (lit< tt)) (omega arith) in (
      (λ some.
          let (there, other) = minus.0 some in
          let (b, hb, (same, leads)) = (h.nodes v hv).0 there in
          record {
            b = b;
            letter = hb;
            different = λ e. other (one.1 (sym leads ∙ ap (next r node) (sym e) ∙ sym at));
            one_label = sym labelled ∙ sym same;
            leads = leads;
          }),
      (λ leads. minus.1 (
        (h.nodes v hv).1 (leads.b, leads.letter, (sym leads.one_label ∙ sym labelled, leads.leads)),
        (λ same. leads.different (next-injective rule node a leads.b ha leads.letter (sym at ∙ sym (one.0 same) ∙ sym leads.leads))),
      )),
    )

-- a step of a set on the label of a
pub LeadsBeside-set : (r : LocalRule) (node set a label_a others : ℕ) → label_a ≡ label r node a → IsStep r set label_a others
    → (v : ℕ) → v < node_count r → (IsBitSet others v ↔ LeadsBeside r node set a v)
LeadsBeside-set r node set a label_a others labelled h v hv = (
  (λ some.
      let (u, hu, (has, (b, hb, (same, leads)))) = (h.nodes v hv).0 some in
      record { other = u; b = b; in_nodes = hu; in_set = has; letter = hb; one_label = sym labelled ∙ sym same; leads = leads }),
  (λ leads. (h.nodes v hv).1 (leads.other, leads.in_nodes, (leads.in_set, (leads.b, leads.letter, (sym leads.one_label ∙ sym labelled, leads.leads))))),
)

-- with pairs added that are reached and have two different nodes
IsRowSearch-added : {r : LocalRule} {node : ℕ} {Has : ℕ → ℕ → Type 0} {found followed new : List ℕ} → IsRule r → IsRowSearch r found followed
    → AreAdded r node Has r.states found new
    → ((a v : ℕ) → a < r.states → Has a v → IsReached r (pair_of r (next r node a) v) × (next r node a ≢ v)) → IsRowSearch r new followed
IsRowSearch-added rule h added here = record {
  rows = added.rows;
  long = h.long;
  behind = λ u hu. omega (arith, h.behind u hu, added.grown u hu);
  reached = λ u v hu hv some. ⊎_elim (h.reached u v hu hv) (λ (a, ha, e, has). rw (← e) (here a v ha has).0) ((added.pairs u v hu hv).0 some);
  apart = λ u hu some. ⊎_elim (h.apart u hu) (λ (a, ha, e, has). (here a u ha has).1 e) ((added.pairs u u hu hu).0 some);
  steps = λ u v a b hu hv some ha hb e. HasBit-added added _ _ (next-below rule u a) (next-below rule v b) (h.steps u v a b hu hv some ha hb e);
}

-- with the first pairs of one node more
pub IsRowSearch-firsts : {r : LocalRule} {node : ℕ} {found followed new : List ℕ} → IsRule r → node < node_count r → IsRowSearch r found followed
    → AreAdded r node (LeadsApart r node) r.states found new → IsRowSearch r new followed
IsRowSearch-firsts {r} {node} rule inside h added = IsRowSearch-added rule h added (λ a v ha leads. (
  First _ (record {
    node = node;
    a = a;
    b = leads.b;
    in_nodes = inside;
    a_letter = ha;
    b_letter = leads.letter;
    different = leads.different;
    one_label = leads.one_label;
    pair = ap (pair_of r (next r node a)) (sym leads.leads);
  }),
  λ same. leads.different (next-injective rule node a leads.b ha leads.letter (same ∙ sym leads.leads)),
))

-- a step from what was found is reached
IsReached-beside : {r : LocalRule} {node : ℕ} {found followed : List ℕ} → IsRule r → node < node_count r → IsRowSearch r found followed → (a v : ℕ)
    → a < r.states
    → LeadsBeside r node (slice_index found node) a v → IsReached r (pair_of r (next r node a) v)
IsReached-beside {r} {node} rule inside h a v ha leads =
    On (pair_of r node leads.other) a leads.b _ (h.reached node leads.other inside leads.in_nodes leads.in_set) ha leads.letter
    (follow-pair_of r node leads.other a leads.b leads.in_nodes leads.one_label ∙ ap (λ w. Some (pair_of r (next r node a) w)) leads.leads)

-- with the steps from what was found of one node
pub IsRowSearch-steps : {r : LocalRule} {node : ℕ} {found followed new : List ℕ} → IsRule r → node < node_count r → IsRowSearch r found followed
    → AreAdded r node (LeadsBeside r node (slice_index found node)) r.states found new
    → ((a : ℕ) → a < r.states → ¬ LeadsBeside r node (slice_index found node) a (next r node a))
    → IsRowSearch r new (slice_set followed node (slice_index found node))
IsRowSearch-steps {r} {node} {found} {followed} {new} rule inside h added none =
    let row : ℕ = slice_index found node in
    let here : node < length followed = omega (arith, h.long, rule.shape.most_nodes) in
    let more = IsRowSearch-added rule h added (λ a v ha leads. (IsReached-beside rule inside h a v ha leads, λ same. none a ha (rw (← same) at leads))) in
    record {
      rows = more.rows;
      long = length-set followed node row ∙ h.long;
      behind = after_write (λ u x. x ≤ slice_index new u) followed node row (node_count r) here (added.grown node inside) more.behind;
      reached = more.reached;
      apart = more.apart;
      steps = λ u v a b hu hv some ha hb e. after_write
          (λ u x. IsBitSet x v → label r u a ≡ label r v b → HasBit new (next r u a) (next r v b)) followed node row (node_count r) here
          (λ some e. (added.pairs _ _ (next-below rule node a) (next-below rule v b)).1
          (inr (a, ha, refl, record { other = v; b = b; in_nodes = hv; in_set = some; letter = hb; one_label = e; leads = refl })))
          (λ u hu some e. more.steps u v a b hu hv some ha hb e) u hu some e;
    }

-- where a step leads to a pair of two equal nodes, the rule isn't surjective
pub not_surjective-beside : {r : LocalRule} {node : ℕ} {found followed : List ℕ} → IsRule r → node < node_count r → IsRowSearch r found followed
    → ((a : ℕ) × (a < r.states) × LeadsBeside r node (slice_index found node) a (next r node a)) → ¬ IsSurjective r
not_surjective-beside {r} {node} rule inside h (a, ha, leads) every =
    let v : ℕ = next r node a in
    let below : v < node_count r = next-below rule node a in
    (IsSurjective-reached rule).0 every (pair_of r v v) (IsReached-beside rule inside h a v ha leads) (first_of-pair_of r v v below ∙ sym (second_of-pair_of r v v below))

-- the first pairs of the first n nodes are in the rows
abbrev pub HasFirsts : LocalRule → ℕ → List ℕ → Type 0
HasFirsts r n rows = (u a b : ℕ) → u < n → a < r.states → b < r.states → a ≢ b → label r u a ≡ label r u b → HasBit rows (next r u a) (next r u b)

-- the first pairs of one node more are in the rows, once they are added
pub HasFirsts-added : {r : LocalRule} {node : ℕ} {found new : List ℕ} → IsRule r → HasFirsts r node found
    → AreAdded r node (LeadsApart r node) r.states found new → HasFirsts r (node + 1) new
HasFirsts-added {r} {node} {found} {new} rule firsts added u a b =
    below_more (λ u. a < r.states → b < r.states → a ≢ b → label r u a ≡ label r u b → HasBit new (next r u a) (next r u b)) node
    (λ u l ha hb other e. HasBit-added added _ _ (next-below rule u a) (next-below rule u b) (firsts u a b l ha hb other e))
    (λ ha hb other e. (added.pairs _ _ (next-below rule node a) (next-below rule node b)).1
    (inr (a, ha, refl, record { b = b; letter = hb; different = other; one_label = e; leads = refl })))
    u

-- once the first pairs of all nodes were found, and all steps from what was found were followed, it is
pub IsSurjective-rows : {r : LocalRule} {found followed : List ℕ} → IsRule r → IsRowSearch r found followed
    → ((u : ℕ) → u < node_count r → slice_index followed u ≡ slice_index found u)
    → HasFirsts r (node_count r) found → IsSurjective r
IsSurjective-rows {r} {found} {followed} rule h all firsts =
    let Has : ℕ → Type 0 = λ p. (p < pair_count r) × HasBit found (first_of r p) (second_of r p) in
    let pair : (u v : ℕ) → u < node_count r → v < node_count r → HasBit found u v → Has (pair_of r u v) = λ u v hu hv some.
    (pair_of-below r u v hu hv, rw (first_of-pair_of r u v hv, second_of-pair_of r u v hv) some) in
    (IsSurjective-reached rule).1 (λ p reached same.
    let here : Has p = holds-reached Has
    (λ q first. rw first.pair (pair _ _ (next-below rule first.node first.a) (next-below rule first.node first.b)
    (firsts first.node first.a first.b first.in_nodes first.a_letter first.b_letter first.different first.one_label)))
    (λ q a b s there ha hb f.
    let u : ℕ = first_of r q in
    let v : ℕ = second_of r q in
    let hu : u < node_count r = first_of-below rule q there.0 in
    let edges = follow-some r q a b s f in
    subst Has edges.1 (pair _ _ (next-below rule u a) (next-below rule v b) (h.steps u v a b hu (second_of-below rule q) (rw (all u hu) there.1) ha hb edges.0)))
    reached in
    h.apart (first_of r p) (first_of-below rule p here.0) (subst (HasBit found (first_of r p)) (sym same) here.1))
