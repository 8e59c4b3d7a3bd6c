-- The edges of the de Bruijn graph of a rule as a table: for each label and each node, the set of the nodes to which
-- edges with this label lead from the node. The side says whether edges are followed forward (`Right`) or backward
-- (`Left`). The rule determines this table.
use Rattle.std.proofs.Common.{◌≡◌, ℕ, zero, suc, ◌+◌, ◌*◌, ◌/◌, ◌%◌, ◌^◌, ◌<◌, ◌≤◌, List, [], length, replicate, slice_index_or, refl, sym, ◌∙◌, subst, arith, ⊎_elim, mod-lt}
use Rattle.std.proofs.lemmas.Bool.{cases_lt}
use Rattle.std.proofs.lemmas.Grind.{same_number_lists}
use Rattle.std.proofs.lemmas.List.{same_lists, get_or_default}
use Rattle.std.proofs.lemmas.List.Elements.{All-get_or}
use Rattle.std.proofs.lemmas.Nat.{div_below, div-add-mod'}
use Rattle.word_image.specs.LocalRules.{LocalRule, IsRule, node_count, most_nodes, most_states}
use Rattle.word_image.specs.Ends.{window_with, label_at, end_at}
use Rattle.word_image.specs.Edges.{AreEdgeRows}
use Rattle.word_image.specs.declared.side.Side.{Side}
use Rattle.word_image.proofs.laws.Edges.{HaveEdges, HaveEdges-none, HaveEdges-more, with_ends, AreEdgeRows-all}
use Rattle.word_image.proofs.laws.WindowParts.{some_letter, window_with-within}
use Rattle.search_laws.proofs.StepSets.{IsSetOf-unique}

-- the table has 16 rows of 16 sets
pub record AreRowsOf16 (rows : List (List ℕ)) : Type 0 where
  pub tall : length rows ≡ most_states
  pub wide : (label : ℕ) → label < most_states → length (slice_index_or rows label []) ≡ most_nodes

-- the table of the first n edges, ordered by nodes and then by letters
abbrev first_edges : Side → LocalRule → ℕ → List (List ℕ)
first_edges side r zero = replicate most_states (replicate most_nodes 0)
first_edges side r (suc n) = with_ends (first_edges side r n) (label_at side r (n / r.states) (n % r.states)) (n / r.states) (2 ^ end_at side r (n / r.states) (n % r.states))

-- the table of all edges of the rule
abbrev pub edge_table : Side → LocalRule → List (List ℕ)
edge_table side r = first_edges side r (node_count r * r.states)

-- two tables of the edges of the same rule are equal
pub AreEdgeRows-one : {side : Side} {r : LocalRule} {rows others : List (List ℕ)} → AreEdgeRows side r rows → AreRowsOf16 rows → AreEdgeRows side r others → AreRowsOf16 others → rows ≡ others
AreEdgeRows-one {side} {r} {rows} {others} edges size also as_many = same_lists rows others (size.tall ∙ sym as_many.tall) (λ label d inside.
    let below : label < most_states = omega (arith, size.tall, inside) in
    let row = slice_index_or rows label [] in
    let other = slice_index_or others label [] in
    get_or_default rows label d [] inside
    ∙ same_number_lists row other (size.wide label below ∙ sym (as_many.wide label below)) (λ u within.
    let small : u < most_nodes = omega (arith, size.wide label below, within) in
    ⊎_elim
    (λ node. IsSetOf-unique (edges.ends label u below node) (also.ends label u below node))
    (λ more. edges.past label u below small more ∙ sym (also.past label u below small more))
    (cases_lt u (node_count r)))
    ∙ get_or_default others label [] d (omega (arith, size.tall, as_many.tall, inside)))

-- each label of an accepted rule is below 16
label_at-below : (side : Side) {r : LocalRule} → IsRule r → (u a : ℕ) → u < node_count r → a < r.states → label_at side r u a < most_states
label_at-below side {r} rule u a node letter =
    let window = window_with side r u a in
    let within : window < length r.table = omega (arith, rule.entries, window_with-within side rule u a node letter) in
    omega (arith, rule.shape.most_states, All-get_or (λ b. b < r.states) r.table window 0 within rule.letters)

-- the table of the first n edges has exactly these edges
HaveEdges-first : (side : Side) {r : LocalRule} → IsRule r → (n : ℕ) → n ≤ node_count r * r.states → HaveEdges side r n (first_edges side r n)
HaveEdges-first side {r} rule zero few = HaveEdges-none side r
HaveEdges-first side {r} rule (suc n) few =
    let k = r.states in
    let u = n / k in
    let a = n % k in
    let letter : a < k = mod-lt n (some_letter rule) in
    let node : u < node_count r = div_below n k (node_count r) (some_letter rule) (omega (arith, few)) in
    let edge : u * k + a ≡ n = div-add-mod' n k in
    let before = subst (λ i. HaveEdges side r i (first_edges side r n)) (sym edge) (HaveEdges-first side rule n (omega (arith, few))) in
    subst (λ i. HaveEdges side r i (first_edges side r (suc n))) (omega (arith, edge))
    (HaveEdges-more rule node letter before (label_at side r u a) u (2 ^ end_at side r u a) refl refl refl (label_at-below side rule u a node letter) (omega (arith, node, rule.shape.most_nodes)))

-- any table of the edges of the rule is equal to `edge_table`
pub edge_table-one : {side : Side} {r : LocalRule} {rows : List (List ℕ)} → IsRule r → AreEdgeRows side r rows → AreRowsOf16 rows → edge_table side r ≡ rows
edge_table-one {side} {r} {rows} rule edges size =
    let h = HaveEdges-first side rule (node_count r * r.states) (omega arith) in
    AreEdgeRows-one (AreEdgeRows-all rule h) (record { tall = h.tall; wide = h.wide }) edges size
