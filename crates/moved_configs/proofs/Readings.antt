-- Walks of windows that read words. A walk that leads back to its start reads a ring that is only moved, and each such ring is read.
use Rattle.std.proofs.Common.{◌≡◌, ℕ, zero, suc, ◌+◌, ◌-◌, ◌*◌, ◌%◌, ◌<◌, ◌≤◌, List, length, slice_index, ℤ, pos, ◌+ℤ◌, neg_ℤ, refl, sym, ap, ◌∙◌, subst, arith, mod-eq_of_lt}
use Rattle.word_image.proofs.Common.{ints, LocalRule, IsRule, value, value-node, value-snoc, node_count, next, mod-mul-add, ring_letter, ring_letter-below, ring_letter-turn, twice_below, HasBit}
use Rattle.word_image.specs.Ends.{end_letter}
use Rattle.word_image.specs.declared.side.Side.TheVariants.{Right}
use Rattle.tail_config.proofs.Common.{Config, IsConfig, run, length-run, IsWord-run, run-by_letters, run-push, run-cons, run-same}
use Rattle.moved_configs.specs.MovedWindows.{IsMovedBy, TellMoved}
use Rattle.moved_configs.specs.MovedRings.{IsMovedRing, Reads}
use Rattle.moved_configs.proofs.Moves.{window_at, window_at-left, window_at-right}

-- the node before a place of a configuration
abbrev pub node_at : LocalRule → Config → ℤ → ℕ
node_at r x i = value r.states (run x i (r.width - 1))

-- a window of a configuration is its node and its last letter
pub window_at-parts : (r : LocalRule) (x : Config) → IsRule r → (i : ℤ) → window_at r x i ≡ node_at r x i * r.states + x (i +ℤ pos (r.width - 1))
window_at-parts r x rule i =
    let all : r.width ≡ r.width - 1 + 1 = omega (arith, rule.shape.least_width) in
    ap (λ n. value r.states (run x i n)) all
    ∙ ap (value r.states) (run-push x i (i +ℤ pos (r.width - 1)) (r.width - 1) refl)
    ∙ value-snoc r.states (run x i (r.width - 1)) (x (i +ℤ pos (r.width - 1)))

-- the rows have the windows of what is only moved
pub HasBit-moved : (r : LocalRule) (x : Config) (s : ℤ) (rows : List ℕ) → IsRule r → TellMoved r s rows → IsConfig r.states x → IsMovedBy r s x → (i : ℤ)
    → HasBit rows (node_at r x i) (x (i +ℤ pos (r.width - 1)))
HasBit-moved r x s rows rule tell hx moved i =
    let has = (tell x hx).0 moved i in
    let last : end_letter Right r (window_at r x i) ≡ x (i +ℤ pos (r.width - 1)) =
    ap (λ w. w % r.states) (window_at-parts r x rule i) ∙ mod-mul-add (node_at r x i) r.states (x (i +ℤ pos (r.width - 1))) (hx _) in
    subst (HasBit rows (node_at r x i)) last (subst (λ u. HasBit rows u (end_letter Right r (window_at r x i))) (window_at-left r x rule hx i) has)

-- the node behind the next letter
pub node_at-next : (r : LocalRule) (x : Config) → IsRule r → IsConfig r.states x → (i : ℤ) → next r (node_at r x i) (x (i +ℤ pos (r.width - 1))) ≡ node_at r x (i +ℤ pos 1)
node_at-next r x rule hx i = ap (λ w. w % node_count r) (sym (window_at-parts r x rule i)) ∙ window_at-right r x rule hx i

-- windows of what is only moved read its letters
pub Reads-moved : (r : LocalRule) (x : Config) (s : ℤ) (rows : List ℕ) → IsRule r → TellMoved r s rows → IsConfig r.states x → IsMovedBy r s x → (n : ℕ) (i : ℤ)
    → Reads r rows (node_at r x i) (run x (i +ℤ pos (r.width - 1)) n) (node_at r x (i +ℤ pos n))
Reads-moved r x s rows rule tell hx moved zero i = let same : i ≡ i +ℤ pos 0 = omega (arith, ints) in ap (node_at r x) same
Reads-moved r x s rows rule tell hx moved (suc n) i =
    let here : ℤ = i +ℤ pos (r.width - 1) in
    let on : i +ℤ pos 1 +ℤ pos n ≡ i +ℤ pos (suc n) = omega (arith, ints) in
    let later : i +ℤ pos 1 +ℤ pos (r.width - 1) ≡ here +ℤ pos 1 = omega (arith, ints) in
    let rest = Reads-moved r x s rows rule tell hx moved n (i +ℤ pos 1) in
    subst (λ w. Reads r rows (node_at r x i) w (node_at r x (i +ℤ pos (suc n)))) (sym (run-cons x here n)) (
      hx here,
      (
        HasBit-moved r x s rows rule tell hx moved i,
        subst (λ u. Reads r rows u (run x (here +ℤ pos 1) n) (node_at r x (i +ℤ pos (suc n)))) (sym (node_at-next r x rule hx i))
            (subst (λ j. Reads r rows (node_at r x (i +ℤ pos 1)) (run x j n) (node_at r x (i +ℤ pos (suc n)))) later
            (subst (λ j. Reads r rows (node_at r x (i +ℤ pos 1)) (run x (i +ℤ pos 1 +ℤ pos (r.width - 1)) n) (node_at r x j)) on rest)),
      ),
    )

-- a ring is a run of its configuration
pub ring-run : (q : List ℕ) → run (ring_letter q) (pos 0) (length q) ≡ q
ring-run q = sym (run-by_letters (ring_letter q) (pos 0) (length q) q refl (λ a l. let here : pos a ≡ pos 0 +ℤ pos a = omega (arith, ints) in ap (slice_index q) (sym (mod-eq_of_lt l)) ∙ ap (ring_letter q) here))

-- a ring that is only moved is read from a node back to it
pub Reads-ring : (r : LocalRule) (s : ℤ) (rows q : List ℕ) → IsRule r → TellMoved r s rows → IsMovedRing r s q
    → (u : ℕ) × (u < node_count r) × Reads r rows u q u
Reads-ring r s rows q rule tell h =
    let x : Config = ring_letter q in
    let hx : IsConfig r.states x = λ i. ring_letter-below h.ring i in
    let i : ℤ = neg_ℤ (pos (r.width - 1)) in
    let start : i +ℤ pos (r.width - 1) ≡ pos 0 = omega (arith, ints) in
    let back : node_at r x (i +ℤ pos (length q)) ≡ node_at r x i =
    ap (value r.states) (run-same x x (i +ℤ pos (length q)) i (r.width - 1) (λ a l.
    let place : i +ℤ pos (length q) +ℤ pos a ≡ i +ℤ pos a +ℤ pos (length q) = omega (arith, ints) in
    ap x place ∙ ring_letter-turn q (i +ℤ pos a) h.ring.some)) in (
      node_at r x i,
      value-node r (run x i (r.width - 1)) (IsWord-run hx i (r.width - 1)) (length-run x i (r.width - 1)),
      subst (λ v. Reads r rows (node_at r x i) q v) back
          (subst (λ w. Reads r rows (node_at r x i) w (node_at r x (i +ℤ pos (length q)))) (ap (λ j. run x j (length q)) start ∙ ring-run q)
          (Reads-moved r x s rows rule tell hx h.moved (length q) i)),
    )

-- what is only moved has a walk back of at most as many windows as there are nodes
pub Reads-back : (r : LocalRule) (x : Config) (s : ℤ) (rows : List ℕ) → IsRule r → TellMoved r s rows → IsConfig r.states x → IsMovedBy r s x
    → (u : ℕ) × (w : List ℕ) × (u < node_count r) × (1 ≤ length w) × (length w ≤ node_count r) × Reads r rows u w u
Reads-back r x s rows rule tell hx moved =
    let node : ℕ → ℕ = λ j. node_at r x (pos j) in
    let below : (j : ℕ) → node j < node_count r = λ j. value-node r (run x (pos j) (r.width - 1)) (IsWord-run hx (pos j) (r.width - 1)) (length-run x (pos j) (r.width - 1)) in
    let found = twice_below (node_count r) node (λ j l. below j) in
    let i : ℕ = found.0 in
    let n : ℕ = found.1 - found.0 in
    let long = length-run x (pos i +ℤ pos (r.width - 1)) n in
    let end : pos i +ℤ pos n ≡ pos found.1 = omega (arith, ints) in (
      node i,
      run x (pos i +ℤ pos (r.width - 1)) n,
      below i,
      omega (arith, long),
      omega (arith, long),
      subst (Reads r rows (node i) (run x (pos i +ℤ pos (r.width - 1)) n)) (ap (node_at r x) end ∙ sym found.4) (Reads-moved r x s rows rule tell hx moved n (pos i)),
    )
