-- Rows of edges, one edge more at a time.
use Rattle.std.proofs.Common.{◌≡◌, ℕ, ◌+◌, ◌*◌, ◌/◌, ◌%◌, ◌^◌, ◌<◌, List, [], length, replicate, bit_or, slice_index, slice_index_or, slice_set, sym, ap, ap₂, ◌∙◌, subst, arith, ⊎_elim, length-set, rules}
use Rattle.std.proofs.lemmas.Bool.{cases_eq}
use Rattle.std.proofs.lemmas.List.{get_or-replicate, length-replicate}
use Rattle.std.proofs.lemmas.Nat.{div-mul-add, mod-mul-add}
use Rattle.std.proofs.Math.Pow.{pow-lt}
use Rattle.word_image.specs.LocalRules.{LocalRule, IsRule, node_count}
use Rattle.word_image.specs.Ends.{window_with, label_at, end_at}
use Rattle.word_image.specs.Edges.{IsEnds, AreEdgeRows, ends_at}
use Rattle.word_image.specs.declared.side.Side.{Side}
use Rattle.word_image.proofs.laws.Places.{at-set}
use Rattle.word_image.proofs.laws.Bits.{IsBitSet-pow, IsBitSet-some}
use Rattle.word_image.proofs.laws.Unions.{IsUnion, IsUnion-none, IsUnion-skip, IsUnion-take}
use Rattle.word_image.proofs.laws.WindowParts.{window_with-within, end_node-below}

-- node by node and letter by letter, edge i leads from node u to node v with this label
abbrev pub IsEdgeAt : Side → LocalRule → ℕ → ℕ → ℕ → ℕ → Type 0
IsEdgeAt side r label u i v = (label_at side r (i / r.states) (i % r.states) ≡ label) × (i / r.states ≡ u) × (end_at side r (i / r.states) (i % r.states) ≡ v)

-- 16 rows of 16 have the first n edges
pub record HaveEdges (side : Side) (r : LocalRule) (n : ℕ) (rows : List (List ℕ)) : Type 0 where
  pub tall : length rows ≡ 16
  pub wide : (label : ℕ) → label < 16 → length (slice_index_or rows label []) ≡ 16
  pub ends : (label u : ℕ) → label < 16 → u < 16 → IsUnion (node_count r) (IsEdgeAt side r label u) n (ends_at rows label u)

-- rows of zeros have no edges
pub HaveEdges-none : (side : Side) (r : LocalRule) → HaveEdges side r 0 (replicate 16 (replicate 16 0))
HaveEdges-none side r =
    let row : (label : ℕ) → label < 16 → slice_index_or (replicate 16 (replicate {A = ℕ} 16 0)) label [] ≡ replicate 16 0 = λ label below. get_or-replicate 16 label (replicate {A = ℕ} 16 0) [] below in
    record {
      tall = length-replicate {A = List ℕ} 16 (replicate {A = ℕ} 16 0);
      wide = λ label below. ap length (row label below) ∙ length-replicate {A = ℕ} 16 0;
      ends = λ label u below small. subst (IsUnion (node_count r) (IsEdgeAt side r label u) 0) (sym (ap (λ (l : List ℕ). slice_index l u) (row label below) ∙ get_or-replicate 16 u 0 0 small))
          (IsUnion-none (node_count r) (IsEdgeAt side r label u));
    }

-- the rows with a set of nodes more at one place
abbrev pub with_ends : List (List ℕ) → ℕ → ℕ → ℕ → List (List ℕ)
with_ends rows i j set = slice_set rows i (slice_set (slice_index_or rows i []) j (bit_or (slice_index (slice_index_or rows i []) j) set))

-- the rows with one edge more
pub HaveEdges-more : {side : Side} {r : LocalRule} {w a : ℕ} {rows : List (List ℕ)} → IsRule r → w < node_count r → a < r.states
    → HaveEdges side r (w * r.states + a) rows → (i j set : ℕ)
    → i ≡ label_at side r w a → j ≡ w → set ≡ 2 ^ end_at side r w a → i < 16 → j < 16
    → HaveEdges side r (w * r.states + a + 1) (with_ends rows i j set)
HaveEdges-more {side} {r} {w} {a} {rows} rule node letter h i j set labelled leaves arrives in_i in_j =
    let n = w * r.states + a in
    let row = slice_index_or rows i [] in
    let changed = slice_set row j (bit_or (slice_index row j) set) in
    let from = div-mul-add w r.states a letter in
    let by = mod-mul-add w r.states a letter in
    let below = end_node-below side rule (window_with side r w a) (window_with-within side rule w a node letter) in
    record {
      tall = length-set rows i changed ∙ h.tall;
      wide = λ label inside. search rules;
      ends = λ label u inside small. at-set (λ l s. IsUnion (node_count r) (IsEdgeAt side r l u) (n + 1) (slice_index s u)) rows i [] changed (omega arith) label
          (λ differs. IsUnion-skip (h.ends label u inside small) (λ v edge. differs (sym edge.0 ∙ ap₂ (label_at side r) from by ∙ sym labelled)))
          (at-set (λ x s. IsUnion (node_count r) (IsEdgeAt side r i x) (n + 1) s) row j 0 (bit_or (slice_index row j) set) (omega arith) u
          (λ differs. IsUnion-skip (h.ends i u in_i small) (λ v edge. differs (sym edge.1 ∙ from ∙ sym leaves)))
          (IsUnion-take (h.ends i j in_i in_j) (subst (λ s. s < 2 ^ node_count r) (sym arrives) (pow-lt below)) (grind (arith, IsBitSet-pow))));
    }

-- the edges of all nodes
pub AreEdgeRows-all : {side : Side} {r : LocalRule} {rows : List (List ℕ)} → IsRule r → HaveEdges side r (node_count r * r.states) rows
    → AreEdgeRows side r rows
AreEdgeRows-all {side} {r} {rows} rule h = record {
  ends = λ label u below node.
      record {
        within = (h.ends label u below (omega arith)).within;
        nodes = λ v inside. (
          grind arith,
          (λ (a, letter, (labelled, arrives)).
              let from = div-mul-add u r.states a letter in
              grind (arith, mod-mul-add)),
        );
      };
  past = λ label u below small more.
      ⊎_elim
      (λ empty. empty)
      (λ some.
      let (v, node, bit) = IsBitSet-some (node_count r) (ends_at rows label u) (h.ends label u below small).within some in
      grind arith)
      (cases_eq (ends_at rows label u) 0);
}

-- the ends of a node's edges, by a label below k
pub AreEdgeRows-ends : {side : Side} {r : LocalRule} {rows : List (List ℕ)} → IsRule r → AreEdgeRows side r rows → (label u i j : ℕ)
    → label < r.states → u < node_count r → i ≡ label → j ≡ u
    → IsEnds side r u label (ends_at rows i j)
AreEdgeRows-ends rule h label u i j letter node at_label at_node = grind arith
