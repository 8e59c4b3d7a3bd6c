-- Rows of sets and lists of truth values, and the steps of pairs that they hold.
use Rattle.std.proofs.Common.{◌≡◌, ◌≢◌, ℕ, ◌+◌, ◌-◌, ◌*◌, ◌/◌, ◌%◌, ◌^◌, ◌<◌, ◌≤◌, ◌↔◌, List, length, Bool, IsTrue, slice_index, slice_set, IsBitSet, bit_and, Some, refl, sym, ap, ◌∙◌, subst₂, arith, ⊎_elim, mod-lt, get_or-set_other, length-set, div-add-mod'}
use mathlib.Core.Logic.Iff.{symm as iff_sym, trans as iff_then}
use Rattle.word_image.proofs.Common.{Decides-eqb, div-mul-add, mod-mul-add, div_below, mul-add-lt, and_le_l, LocalRule, IsRule, node_count, first_of, second_of, pair_of, pair_count, follow_on, bit_at-IsBitSet, window_with-within, window_with, label_at, end_at, AreEdgeRows}
use Rattle.pair_laws.proofs.Common.{first_of-below, second_of-below, some_if_equal, row_cases, HasBit-less, IsBitSet-and, IsBitSet-below, end_at-below, follow_on-edges}
use Rattle.word_image.specs.declared.side.Side.{Side}
use Rattle.pair_graph.specs.PairSets.{holds, truths, AreRows, LeadsInto, IsTrimmedSet, AreNodesKept, GoesOn}
use Rattle.pair_graph.specs.PairRows.{holds_bit, length-truths, same_roots}

-- a pair is in the list exactly where its bit is 1
pub holds-truths : (n : ℕ) (rows : List ℕ) (p : ℕ) → p < n * n → IsTrue (holds (truths n rows) p) ↔ IsBitSet (slice_index rows (p / n)) (p % n)
holds-truths n rows p inside = rw (holds_bit n rows p inside) (iff_then (Decides-eqb _ 1) (iff_sym (bit_at-IsBitSet (slice_index rows (p / n)) (p % n))))

-- the pair of two nodes is in the list exactly where the row of the first has the bit of the second
pub holds-place : (n : ℕ) (rows : List ℕ) (u v : ℕ) → u < n → v < n → IsTrue (holds (truths n rows) (u * n + v)) ↔ IsBitSet (slice_index rows u) v
holds-place n rows u v first second =
    let exact = holds-truths n rows (u * n + v) (mul-add-lt u n v n first second) in
    subst₂ (λ (x y : ℕ). IsTrue (holds (truths n rows) (u * n + v)) ↔ IsBitSet (slice_index rows x) y) (div-mul-add u n v second) (mod-mul-add u n v second) exact

-- a row has exactly the nodes whose pairs are in the set
pub holds-row : (n : ℕ) (rows : List ℕ) (set : List Bool) (u i v : ℕ) {m : ℕ} → m ≡ n → truths m rows ≡ set → AreRows m rows → i ≡ u → u < n
    → IsBitSet (slice_index rows i) v ↔ ((v < n) × IsTrue (holds set (u * n + v)))
holds-row n rows set u i v {m} same seen h at node =
    let within = rw same at (h.within u (omega (arith, same))) in
    rw (at, ← (rw same at seen)) (
      (λ some. let second = IsBitSet-below n (slice_index rows u) v within some in (second, (holds-place n rows u v node second).1 some)),
      (λ (second, there). (holds-place n rows u v node second).0 there),
    )

-- letters lead to the pair of the nodes to which they lead, where their labels are equal
leads_by : (side : Side) (r : LocalRule) (p a b q : ℕ)
    → (follow_on side r p a b ≡ Some q) ↔ ((label_at side r (first_of r p) a ≡ label_at side r (second_of r p) b) × (pair_of r (end_at side r (first_of r p) a) (end_at side r (second_of r p) b) ≡ q))
leads_by side r p a b q = ((λ leads. some_if_equal _ _ _ q leads), (λ (same, pair). follow_on-edges side r p a b same ∙ ap Some pair))

-- labels are small
small_label : (side : Side) {r : LocalRule} → IsRule r → (u a : ℕ) → u < node_count r → a < r.states → label_at side r u a < 16
small_label side {r} rule u a node letter =
    let long = rule.entries in
    let within = window_with-within side rule u a node letter in
    omega (arith, rule.letters (window_with side r u a) 0 (omega (arith, within, long)), rule.shape.most_states)

-- the nodes of a pair go on exactly where some letters lead from it into the set
pub GoesOn-into : (side : Side) {r : LocalRule} → IsRule r → (ends : List (List ℕ)) (rows : List ℕ) → AreEdgeRows side r ends → (p : ℕ)
    → p < pair_count r
    → GoesOn side r ends rows (first_of r p) (second_of r p) ↔ LeadsInto side r (truths (node_count r) rows) p
GoesOn-into side {r} rule ends rows edges p inside =
    let u = first_of r p in
    let v = second_of r p in
    let in_u : u < node_count r = first_of-below rule p inside in
    let in_v : v < node_count r = second_of-below rule p in
    let few : node_count r ≤ 16 = rule.shape.most_nodes in (
      (λ (a, t, letter, goes).
          let at = edges.ends (label_at side r u a) v (small_label side rule u a in_u letter) in_v in
          let (b, in_b, (same, arrives)) = (at.nodes t (IsBitSet-below (node_count r) _ t at.within goes.second)).0 goes.second in
          let q = pair_of r (end_at side r u a) (end_at side r v b) in (
            a,
            letter,
            record {
              second = b;
              letter = in_b;
              pair = q;
              leads = (leads_by side r p a b q).1 (sym same, refl);
              there = (holds-place (node_count r) rows (end_at side r u a) (end_at side r v b) (end_at-below side rule u a in_u letter) (end_at-below side rule v b in_v in_b)).1
                  (rw arrives goes.pair);
            },
          )),
      (λ (a, letter, into).
          let b = into.second in
          let (same, pair) = (leads_by side r p a b into.pair).0 into.leads in
          let t = end_at side r v b in
          let below = end_at-below side rule v b in_v into.letter in (
            a,
            t,
            letter,
            record {
              node = omega (arith, below);
              second = ((edges.ends (label_at side r u a) v (small_label side rule u a in_u letter) in_v).nodes t below).1 (b, into.letter, (sym same, refl));
              pair = (holds-place (node_count r) rows (end_at side r u a) t (end_at-below side rule u a in_u letter) below).0 (rw pair into.there);
            },
          )),
    )

-- the nodes of one row more are kept
pub AreNodesKept-next : {Goes : ℕ → ℕ → Type 0} {rows : List ℕ} {n : ℕ} {kept : List ℕ} → AreNodesKept Goes rows n kept
    → (i j on : ℕ) → i ≡ n → j ≡ n → n < 16 → ((v : ℕ) → v < 16 → (IsBitSet on v ↔ Goes n v))
    → AreNodesKept Goes rows (n + 1) (slice_set kept i (bit_and (slice_index rows j) on))
AreNodesKept-next {Goes} {rows} {n} {kept} h i j on at also inside exact =
    let row = bit_and (slice_index rows n) on in
    let written = λ (u : ℕ). row_cases kept n row u (omega (arith, h.long, inside)) in
    rw (at, also) (record {
      long = length-set kept n row ∙ h.long;
      done = λ u v less small. ⊎_elim
          (λ (same, here). rw (here, same) (
            (λ some. let (first, second) = (IsBitSet-and (slice_index rows n) on v).0 some in (first, (exact v small).0 second)),
            (λ (first, second). (IsBitSet-and (slice_index rows n) on v).1 (first, (exact v small).1 second)),
          ))
          (λ (other, there). rw there (h.done u v (omega (arith, less, other)) small))
          (written u);
      smaller = λ u. ⊎_elim
          (λ (same, here). rw (here, same) (and_le_l (slice_index rows n) on))
          (λ (other, there). omega (arith, there, h.smaller u))
          (written u);
      past = λ u more. get_or-set_other kept n u row 0 (omega arith) ∙ h.past u (omega arith);
    })

-- the kept rows are rows again
pub AreRows-kept : {Goes : ℕ → ℕ → Type 0} {m : ℕ} {rows kept : List ℕ} (n : ℕ) → AreNodesKept Goes rows m kept
    → n ≡ m → AreRows n rows → AreRows n kept
AreRows-kept {Goes} {m} {rows} {kept} n h same rows_of = record {
  least = rows_of.least;
  most = rows_of.most;
  long = h.long;
  within = λ u less. omega (arith, h.smaller u, rows_of.within u less);
  past = λ u more. h.past u (omega (arith, same, more));
}

-- a list of as many truth values as the rule has pairs is one of its nodes
pub nodes_from_length : (r : LocalRule) (n : ℕ) (rows : List ℕ) (set : List Bool) → truths n rows ≡ set → length set ≡ pair_count r → n ≡ node_count r
nodes_from_length r n rows set seen long = same_roots n (node_count r) (sym (length-truths n rows) ∙ ap length seen ∙ long)

-- what is kept of the rows is the set trimmed
pub IsTrimmedSet-kept : (side : Side) {r : LocalRule} → IsRule r → (n : ℕ) (ends : List (List ℕ)) (rows kept : List ℕ) (set : List Bool)
    → n ≡ node_count r → truths n rows ≡ set
    → AreEdgeRows side r ends → AreNodesKept (GoesOn side r ends rows) rows (node_count r) kept → IsTrimmedSet side r set (truths n kept)
IsTrimmedSet-kept side {r} rule n ends rows kept set same seen edges h =
    rw (same, ← (rw same at seen)) (record {
      count = length-truths (node_count r) kept;
      pairs = λ p inside.
          let after = holds-truths (node_count r) kept p inside in
          let before = holds-truths (node_count r) rows p inside in
          let goes = GoesOn-into side rule ends rows edges p inside in
          let exact = h.done (first_of r p) (second_of r p) (first_of-below rule p inside) (omega (arith, second_of-below rule p, rule.shape.most_nodes)) in (
            (λ t. let both = exact.0 (after.0 t) in (before.1 both.0, goes.0 both.1)),
            (λ (there, leads). after.1 (exact.1 (before.0 there, goes.1 leads))),
          );
    })

-- rows without one bit of one row
abbrev pub removed : List ℕ → ℕ → ℕ → List ℕ
removed rows i j = slice_set rows i (bit_and (slice_index rows i) (65535 - 1 * 2 ^ j % 2 ^ 16))

-- rows without one bit of one row have every pair but one
pub holds-removed : (n : ℕ) (rows : List ℕ) (set : List Bool) (p i m : ℕ) → truths n rows ≡ set → AreRows n rows → i ≡ p / n → m ≡ n → p < length set
    → (q : ℕ) → q < length set → IsTrue (holds (truths n (removed rows i (p % m))) q) ↔ (IsTrue (holds set q) × (q ≢ p))
holds-removed n rows set p i m seen h at nodes inside q within =
    let few : length set ≡ n * n = ap length (sym seen) ∙ length-truths n rows in
    let q_in : q < n * n = omega (arith, few) in
    let row_in : p / n < n = div_below p n n h.least (omega (arith, few)) in
    let after = holds-truths n (removed rows (p / n) (p % n)) q q_in in
    let before = holds-truths n rows q q_in in
    let less = HasBit-less rows (p / n) (p % n) (omega (arith, h.long, row_in, h.most)) (omega (arith, mod-lt p h.least, h.most)) (q / n) (q % n) (omega (arith, mod-lt q h.least, h.most)) in
    rw (at, nodes, ← seen) (
      (λ t. let (there, other) = less.0 (after.0 t) in (before.1 there, λ same. other (rw same (refl, refl)))),
      (λ (there, other). after.1 (less.1 (before.0 there, λ (row, place). other (cc (div-add-mod' q n, div-add-mod' p n))))),
    )
