-- Twins are the closed walks in the graph of pairs of nodes whose letters differ somewhere.
use Rattle.std.proofs.Common.{◌≡◌, ◌≢◌, ℕ, ◌-◌, ◌<◌, ◌≤◌, List, [], length, ℤ, pos, ◌+ℤ◌, ◌-ℤ◌, neg_ℤ, refl, sym, ap, ap₂, ◌∙◌, subst, arith, ◌*◌, zip}
use Rattle.word_image.proofs.Common.{mul-le, ints, LocalRule, IsRule, value, word_of, node_count, IsRing, IsTwins, pair_of, length-word_of, IsWord-word_of, value-word_of}
use Rattle.tail_config.proofs.Common.{TailConfig, IsTail, ShareImage, cell, cells, run-same, cells-left, RepeatsRight-times}
use Rattle.tail_laws.proofs.TwinTails.{round, IsTail-round, cells-round, cell-round_period, ShareImage-turn, ring_image-shared}
use Rattle.tail_laws.proofs.Nodes.{node_at, label_over, image_cell-label, labels-ShareImage}
use Rattle.tail_laws.proofs.Loops.{IsInStep, IsLooped, looped-cells}
use Rattle.tail_laws.proofs.PairLeads.{PairLeads, pair_at, IsInStep-walk, PairLeads-cells, cells-PairLeads}

-- node u stands before place 0, and from there on the ring p repeats
abbrev pub from_node : LocalRule → ℕ → List ℕ → TailConfig
from_node r u p = record { left = word_of r.states (r.width - 1) u; middle = []; right = p }

-- the configuration with node u before place 0, and the ring p from there on, is one over the rule's letters
IsTail-from_node : {r : LocalRule} {p : List ℕ} → IsRule r → (u : ℕ) → u < node_count r → IsRing r.states p → IsTail r.states (from_node r u p)
IsTail-from_node rule u h ring = grind (arith, IsWord-word_of)

-- the node at place 0 of the configuration from a node is this node
node_at-from_node : (r : LocalRule) (u : ℕ) (p : List ℕ) → u < node_count r → node_at r (from_node r u p) (pos 0) ≡ u
node_at-from_node r u p h = grind (arith, ints, neg_ℤ, length-word_of, cells-left, value-word_of)

-- along a closed walk of pairs the configurations from its nodes go in step
loop_steps : {r : LocalRule} {x y : List ℕ} → IsRule r → IsRing r.states x → IsRing r.states y → length x ≡ length y → (u v : ℕ) → u < node_count r
    → v < node_count r
    → PairLeads r (pair_of r u v) (zip x y) (pair_of r u v) → IsInStep r (from_node r u x) (from_node r v y)
loop_steps {r} rule hx hy long u v hu hv loop =
    IsInStep-walk rule (IsTail-from_node rule u hu hx) (IsTail-from_node rule v hv hy) refl long (pair_of r u v) (grind (arith, node_at-from_node)) loop

-- where the walk from a node comes back to the node, this is the node before the ring
looped_node : {r : LocalRule} {p : List ℕ} → IsRule r → IsRing r.states p → (u : ℕ) → u < node_count r → IsLooped r (from_node r u p)
    → node_at r (round p) (pos 0) ≡ u
looped_node {r} {p} rule ring u h loop =
    let m : ℕ = r.width - 1 in
    let n : ℕ = length p in
    let t = from_node r u p in
    let start : ℤ = pos 0 -ℤ pos m in
    let long : m * 1 ≤ m * n = mul-le m 1 m n (omega arith) ring.some in
    let again = RepeatsRight-times m n (cell t) start (looped-cells r (IsTail-from_node rule u h ring) loop) in
    let round_again = RepeatsRight-times m n (cell (round p)) start (λ i l. cell-round_period p ring.some i) in
    ap (value r.states) (run-same (cell (round p)) (cell t) start start m (grind (arith, ints)))
    ∙ node_at-from_node r u p h

-- a closed walk begins at the nodes before its two rings
pub node_at-loop : {r : LocalRule} {x y : List ℕ} → IsRule r → IsRing r.states x → IsRing r.states y → length x ≡ length y → (u v : ℕ)
    → u < node_count r → v < node_count r
    → PairLeads r (pair_of r u v) (zip x y) (pair_of r u v) → (node_at r (round x) (pos 0) ≡ u) × (node_at r (round y) (pos 0) ≡ v)
node_at-loop rule hx hy long u v hu hv loop = grind (arith, loop_steps, looped_node)

-- the letter pairs of two rings are those of their configurations
zip-rounds : (x y : List ℕ) → length x ≡ length y → zip (cells (round x) (pos 0) (length x)) (cells (round y) (pos 0) (length x)) ≡ zip x y
zip-rounds x y long = ap₂ (λ (a b : List ℕ). zip a b) (cells-round x refl) (cells-round y long)

-- a closed walk of pairs is two rings whose configurations share an image
ShareImage-loop : {r : LocalRule} {x y : List ℕ} → IsRule r → IsRing r.states x → IsRing r.states y → length x ≡ length y → (u v : ℕ)
    → u < node_count r → v < node_count r
    → PairLeads r (pair_of r u v) (zip x y) (pair_of r u v) → ShareImage r (round x) (round y)
ShareImage-loop {r} {x} {y} rule hx hy long u v hu hv loop =
    let n : ℕ = length x in
    let nodes = node_at-loop rule hx hy long u v hu hv loop in
    let labels = (cells-PairLeads rule (IsTail-round hx) (IsTail-round hy) n (pos 0) (pos n) (pair_of r u v) (omega (arith, ints)) (grind (arith, zip-rounds))).0 in
    let start : ℤ = neg_ℤ (r.offset +ℤ pos (r.width - 1)) in
    ShareImage-turn r x y hx.some long start (λ d l.
    let place : pos 0 +ℤ pos d ≡ start +ℤ pos d +ℤ r.offset +ℤ pos (r.width - 1) = omega (arith, ints) in
    image_cell-label r (round x) (start +ℤ pos d) ∙ subst (λ i. label_over r (round x) i ≡ label_over r (round y) i) place (labels d l) ∙ sym (image_cell-label r (round y) (start +ℤ pos d)))

-- the node before a ring is the node before its next turn
node_at-round : (r : LocalRule) (p : List ℕ) → 1 ≤ length p → node_at r (round p) (pos (length p)) ≡ node_at r (round p) (pos 0)
node_at-round r p some =
    let m : ℕ = r.width - 1 in
    ap (value r.states) (run-same (cell (round p)) (cell (round p)) (pos (length p) -ℤ pos m) (pos 0 -ℤ pos m) m (λ a l.
    let place : pos (length p) -ℤ pos m +ℤ pos a ≡ pos 0 -ℤ pos m +ℤ pos a +ℤ pos (length p) = omega (arith, ints) in
    ap (cell (round p)) place ∙ cell-round_period p some (pos 0 -ℤ pos m +ℤ pos a)))

-- two rings whose configurations share an image are a closed walk of pairs
pub loop-ShareImage : {r : LocalRule} {x y : List ℕ} → IsRule r → IsRing r.states x → IsRing r.states y → length x ≡ length y
    → ShareImage r (round x) (round y)
    → PairLeads r (pair_at r (round x) (round y) (pos 0)) (zip x y) (pair_at r (round x) (round y) (pos 0))
loop-ShareImage {r} {x} {y} rule hx hy long share =
    let first = IsTail-round hx in
    let n : ℕ = length x in
    let turn = PairLeads-cells rule first (IsTail-round hy) n (pos 0) (pos n) (omega (arith, ints)) (λ d l. labels-ShareImage r (round x) (round y) share (pos 0 +ℤ pos d)) in
    grind (arith, node_at-round, zip-rounds)

-- two different rings of one length that are a closed walk of pairs are twins
pub IsTwins-walk : {r : LocalRule} {x y : List ℕ} → IsRule r → IsRing r.states x → IsRing r.states y → length x ≡ length y → x ≢ y → (u v : ℕ)
    → u < node_count r → v < node_count r
    → PairLeads r (pair_of r u v) (zip x y) (pair_of r u v) → IsTwins r x y
IsTwins-walk rule hx hy long other u v hu hv loop = grind (arith, ring_image-shared, ShareImage-loop)
