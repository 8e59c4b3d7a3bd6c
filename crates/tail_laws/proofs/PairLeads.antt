-- Two configurations in step, as a walk in the graph of pairs of nodes.
use Rattle.std.proofs.Common.{◌≡◌, ℕ, zero, suc, ◌+◌, ◌-◌, ◌<◌, List, ◌∷◌, length, ℤ, pos, ◌+ℤ◌, Some, sym, ap, ap₂, ◌∙◌, subst, ⊎_elim, arith, zip}
use Rattle.word_image.proofs.Common.{cases_lt, same_from_place, ints, LocalRule, IsRule, node_count, next, label, pair_of, follow}
use Rattle.search_laws.proofs.Common.{Walk, LetterPairStep}
use Rattle.tail_config.proofs.Common.{TailConfig, IsTail, ShareImage, cell, cells, run-cons, cells-middle, cells-right}
use Rattle.pair_laws.proofs.Common.{first_of-pair_of, second_of-pair_of, follow-pair_of, follow-some}
use Rattle.tail_laws.proofs.Nodes.{node_at, label_over, node_at-below, label-node_at, next-node_at, labels-ShareImage}
use Rattle.tail_laws.proofs.Loops.{IsLooped, IsInStep}

-- a walk in the graph of pairs of nodes: at each step the two labels are equal
abbrev pub PairLeads : LocalRule → ℕ → List (ℕ × ℕ) → ℕ → Type 0
PairLeads r = Walk (LetterPairStep (follow r))

-- a step from a pair of nodes has two equal labels, and this is where it leads
follow-back : (r : LocalRule) (u v a b s : ℕ) → v < node_count r → follow r (pair_of r u v) a b ≡ Some s
    → (label r u a ≡ label r v b) × (pair_of r (next r u a) (next r v b) ≡ s)
follow-back r u v a b s h e = rw (first_of-pair_of r u v h, second_of-pair_of r u v h) at (follow-some r (pair_of r u v) a b s e)

-- the pair of the nodes before place i
abbrev pub pair_at : LocalRule → TailConfig → TailConfig → ℤ → ℕ
pair_at r x y i = pair_of r (node_at r x i) (node_at r y i)

-- a step over a place with equal labels leads to the pair before the next place
step_over : {r : LocalRule} {x y : TailConfig} → IsRule r → IsTail r.states x → IsTail r.states y → (i : ℤ) → label_over r x i ≡ label_over r y i
    → follow r (pair_at r x y i) (cell x i) (cell y i) ≡ Some (pair_at r x y (i +ℤ pos 1))
step_over rule hx hy i e = grind (arith, follow-pair_of, node_at-below, label-node_at, next-node_at)

-- where a step leads over a place, it has equal labels, and leads to the pair before the next place
over_step : {r : LocalRule} {x y : TailConfig} → IsRule r → IsTail r.states x → IsTail r.states y → (i : ℤ) (s : ℕ)
    → follow r (pair_at r x y i) (cell x i) (cell y i) ≡ Some s
    → (label_over r x i ≡ label_over r y i) × (pair_at r x y (i +ℤ pos 1) ≡ s)
over_step {r} {x} {y} rule hx hy i s e =
    let back = follow-back r (node_at r x i) (node_at r y i) (cell x i) (cell y i) s (node_at-below rule hy i) e in
    (sym (label-node_at rule x i) ∙ back.0 ∙ label-node_at rule y i, ap₂ (pair_of r) (sym (next-node_at rule hx i)) (sym (next-node_at rule hy i)) ∙ back.1)

-- the letter pairs of two runs begin with the pair of their first cells
zip-cells : (x y : TailConfig) (i : ℤ) (n : ℕ)
    → zip (cells x i (suc n)) (cells y i (suc n)) ≡ (cell x i, cell y i) ∷ zip (cells x (i +ℤ pos 1) n) (cells y (i +ℤ pos 1) n)
zip-cells x y i n = ap₂ (λ (u v : List ℕ). zip u v) (run-cons (cell x) i n) (run-cons (cell y) i n)

-- two runs whose labels are equal lead from the pair before them to the pair after them
pub PairLeads-cells : {r : LocalRule} {x y : TailConfig} → IsRule r → IsTail r.states x → IsTail r.states y → (n : ℕ) (i j : ℤ) → i +ℤ pos n ≡ j
    → ((d : ℕ) → d < n → label_over r x (i +ℤ pos d) ≡ label_over r y (i +ℤ pos d))
    → PairLeads r (pair_at r x y i) (zip (cells x i n) (cells y i n)) (pair_at r x y j)
PairLeads-cells {r} {x} {y} rule hx hy zero i j e h = ap (pair_at r x y) (let place : i ≡ j = omega (arith, ints) in place)
PairLeads-cells {r} {x} {y} rule hx hy (suc n) i j e h =
    let rest = PairLeads-cells rule hx hy n (i +ℤ pos 1) j (omega (arith, ints)) (λ d l.
    subst (λ p. label_over r x p ≡ label_over r y p) (omega (arith, ints)) (h (suc d) (omega arith))) in
    subst (λ abs. PairLeads r (pair_at r x y i) abs (pair_at r x y j)) (sym (zip-cells x y i n))
    (pair_at r x y (i +ℤ pos 1), step_over rule hx hy i (subst (λ p. label_over r x p ≡ label_over r y p) (omega (arith, ints)) (h 0 (omega arith))), rest)

-- what holds at a place and at the n places after it holds at n + 1 places
at_places : (P : ℤ → Type 0) (i : ℤ) (n : ℕ) → P i → ((d : ℕ) → d < n → P (i +ℤ pos 1 +ℤ pos d)) → (d : ℕ) → d < suc n → P (i +ℤ pos d)
at_places P i n here after zero l = subst P (let place : i ≡ i +ℤ pos 0 = omega (arith, ints) in place) here
at_places P i n here after (suc d) l = subst P (let place : i +ℤ pos 1 +ℤ pos d ≡ i +ℤ pos (suc d) = omega (arith, ints) in place) (after d (omega arith))

-- where two runs lead, their labels are equal, and it is to the pair after them
pub cells-PairLeads : {r : LocalRule} {x y : TailConfig} → IsRule r → IsTail r.states x → IsTail r.states y → (n : ℕ) (i j : ℤ) (q : ℕ)
    → i +ℤ pos n ≡ j
    → PairLeads r (pair_at r x y i) (zip (cells x i n) (cells y i n)) q
    → ((d : ℕ) → d < n → label_over r x (i +ℤ pos d) ≡ label_over r y (i +ℤ pos d)) × (pair_at r x y j ≡ q)
cells-PairLeads {r} {x} {y} rule hx hy zero i j q e h = (λ d l. absurd (omega arith), ap (pair_at r x y) (let place : j ≡ i = omega (arith, ints) in place) ∙ h)
cells-PairLeads {r} {x} {y} rule hx hy (suc n) i j q e h =
    let run : List (ℕ × ℕ) = zip (cells x (i +ℤ pos 1) n) (cells y (i +ℤ pos 1) n) in
    let g : PairLeads r (pair_at r x y i) ((cell x i, cell y i) ∷ run) q = grind (arith, zip-cells) in
    let over = over_step rule hx hy i g.0 g.1 in
    let rest = cells-PairLeads rule hx hy n (i +ℤ pos 1) j q (omega (arith, ints)) (subst (λ p. PairLeads r p run q) (sym over.1) g.2) in
    (at_places (λ p. label_over r x p ≡ label_over r y p) i n over.0 rest.0, rest.1)

-- two configurations go in step if their middles lead to a pair of nodes from which their right periods lead back to it
pub IsInStep-walk : {r : LocalRule} {x y : TailConfig} → IsRule r → IsTail r.states x → IsTail r.states y → length x.middle ≡ length y.middle
    → length x.right ≡ length y.right
    → (q : ℕ) → PairLeads r (pair_at r x y (pos 0)) (zip x.middle y.middle) q → PairLeads r q (zip x.right y.right) q → IsInStep r x y
IsInStep-walk {r} {x} {y} rule hx hy middles rights q reach loop =
    let m : ℕ = length x.middle in
    let n : ℕ = length x.right in
    let through : PairLeads r (pair_at r x y (pos 0)) (zip (cells x (pos 0) m) (cells y (pos 0) m)) q = grind (arith, cells-middle) in
    let first = cells-PairLeads rule hx hy m (pos 0) (pos m) q (omega (arith, ints)) through in
    let second = cells-PairLeads rule hx hy n (pos m) (pos (m + n)) q (omega (arith, ints)) (subst (λ p. PairLeads r p (zip (cells x (pos m) n) (cells y (pos m) n)) q) (sym first.1) (grind (arith, cells-right))) in
    let back = same_from_place (node_at r x (pos m)) (node_at r y (pos m)) (node_at r x (pos (m + n))) (node_at r y (pos (m + n))) (node_count r)
    (node_at-below rule hy (pos m)) (node_at-below rule hy (pos (m + n))) (first.1 ∙ sym second.1) in
    let same : ℤ → Type 0 = λ p. label_over r x p ≡ label_over r y p in
    record {
      labels = λ d l.
          ⊎_elim (λ k. subst same (let place : pos 0 +ℤ pos d ≡ pos d = omega (arith, ints) in place) (first.0 d k))
          (λ k. subst same (let place : pos m +ℤ pos (d - m) ≡ pos d = omega (arith, ints) in place) (second.0 (d - m) (omega arith)))
          (cases_lt d m);
      first = back.0;
      second = ap (λ a. node_at r y (pos a)) (sym middles) ∙ back.1 ∙ ap₂ (λ a b. node_at r y (pos (a + b))) middles rights;
    }

-- configurations that share an image, with periods that lead back to their nodes, are two walks with equal labels
pub walk-ShareImage : {r : LocalRule} {x y : TailConfig} → IsRule r → IsTail r.states x → IsTail r.states y → length x.middle ≡ length y.middle
    → length x.right ≡ length y.right
    → IsLooped r x → IsLooped r y → ShareImage r x y
    → (q : ℕ) × PairLeads r (pair_at r x y (pos 0)) (zip x.middle y.middle) q × PairLeads r q (zip x.right y.right) q
walk-ShareImage {r} {x} {y} rule hx hy middles rights loop_x loop_y share =
    let m : ℕ = length x.middle in
    let n : ℕ = length x.right in
    let labels = labels-ShareImage r x y share in
    let through = PairLeads-cells rule hx hy m (pos 0) (pos m) (omega (arith, ints)) (λ d l. labels (pos 0 +ℤ pos d)) in
    let round = PairLeads-cells rule hx hy n (pos m) (pos (m + n)) (omega (arith, ints)) (λ d l. labels (pos m +ℤ pos d)) in
    grind (arith, cells-middle, cells-right)
