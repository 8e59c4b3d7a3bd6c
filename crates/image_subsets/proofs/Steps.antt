-- Steps of sets, part by part, and the tables that are made of them.
use Rattle.std.proofs.Common.{◌≡◌, ℕ, ◌+◌, ◌-◌, ◌*◌, ◌/◌, ◌%◌, ◌^◌, ◌<◌, ◌≤◌, List, [], ◌++◌, length, map, get_or, slice_index, min, inl, inr, bit_or, sym, ap, ap₂, ◌∙◌, subst₂, arith, ⊎_elim, pow_mono, one-mul, mul-one, get_or-append-add, length-append, pow_pos, pow-add}
use Rattle.std.proofs.lemmas.Simd.{get_or-zip2, length-zip2}
use Rattle.std.specs.Int.Bits.{or_shifted_r}
use Rattle.std.specs.Simd.Lanes.{zip2}
use Rattle.word_image.proofs.Common.{cases_lt, get_or_append_left, get_or_default, length-map, get_or-map, or_lt, div_below, LocalRule, IsRule, node_count, IsBitSet-or, IsBitSet-pow, IsEnds, IsStep}
use Rattle.word_image.specs.declared.side.Side.TheVariants.{Right}
use Rattle.image_subsets.specs.StepTables.{AreSteps, Rows, AreTables, HasRows}

-- a step of a union is the union of the steps
pub IsStep-or : (r : LocalRule) (s t a : ℕ) {p q : ℕ} → IsStep r s a p → IsStep r t a q → IsStep r (bit_or s t) a (bit_or p q)
IsStep-or r s t a {p} {q} first second = record {
  within = or_lt (node_count r) p q first.within second.within;
  nodes = λ v inside. (
    (λ some. grind (arith, IsBitSet-or)),
    (λ (u, node, (present, edge)). (IsBitSet-or p q v).1 (⊎_elim
        (λ here. inl ((first.nodes v inside).1 (u, node, (here, edge))))
        (λ there. inr ((second.nodes v inside).1 (u, node, (there, edge))))
        ((IsBitSet-or s t u).0 present))),
  );
}

-- a step of one node leads to the ends of its edges
pub IsStep-node : (r : LocalRule) (u a : ℕ) {ends : ℕ} → u < node_count r → IsEnds Right r u a ends → IsStep r (2 ^ u) a ends
IsStep-node r u a node = grind (arith, IsBitSet-pow)

-- the set of x with one node more
upper_set : (y count first u : ℕ) → u ≡ first + count → y < 2 ^ count → bit_or (y * 2 ^ first) (2 ^ u) ≡ (2 ^ count + y) * 2 ^ first
upper_set y count first u last below =
    let top : 2 ^ u ≡ 2 ^ count * 2 ^ first = grind (arith, pow-add) in
    let small : y * 2 ^ first < 2 ^ u = grind (arith, pow_pos) in
    ap (bit_or (y * 2 ^ first)) (sym (one-mul (2 ^ u))) ∙ or_shifted_r 1 u (y * 2 ^ first) small ∙ omega arith

-- the row of the set of x with one node more
upper_row : (rows : List (List ℕ)) (ends : List ℕ) (x y : ℕ) → x ≡ length rows + y → y < length rows
    → get_or (rows ++ map (λ row. zip2 bit_or row ends) rows) x [] ≡ zip2 bit_or (get_or rows y []) ends
upper_row rows ends x y at below = grind (arith, get_or-append-add, get_or-map)

-- the steps of the sets of one node more
pub AreSteps-double : {r : LocalRule} {first count : ℕ} {rows : List (List ℕ)} → IsRule r → AreSteps r first count rows → (u : ℕ) (ends : List ℕ)
    → u ≡ first + count → u < node_count r
    → length ends ≡ 16 → ((a : ℕ) → a < r.states → IsEnds Right r u a (slice_index ends a))
    → AreSteps r first (count + 1) (rows ++ map (λ row. zip2 bit_or row ends) rows)
AreSteps-double {r} {first} {count} {rows} rule h u ends last node wide leads =
    let more = λ (row : List ℕ). zip2 bit_or row ends in
    let twice : 2 ^ (count + 1) ≡ 2 ^ count + 2 ^ count = pow-add 2 count 1 ∙ omega arith in
    let long = h.long in
    record {
      long = length-append rows (map more rows) ∙ omega (arith, length-map rows more);
      wide = λ x below. ⊎_elim
          (λ before. ap length (get_or_append_left rows (map more rows) [] x (omega arith)) ∙ h.wide x before)
          (λ past.
          let y = x - 2 ^ count in
          let inside : y < 2 ^ count = omega arith in
          ap length (upper_row rows ends x y (omega arith) (omega arith))
          ∙ length-zip2 bit_or (get_or rows y []) ends (h.wide y inside ∙ sym wide) ∙ h.wide y inside)
          (cases_lt x (2 ^ count));
      steps = λ x a below letter. ⊎_elim
          (λ before. rw (get_or_append_left rows (map more rows) [] x (omega arith)) (h.steps x a before letter))
          (λ past.
          let y = x - 2 ^ count in
          let inside : y < 2 ^ count = omega arith in
          let row = upper_row rows ends x y (omega arith) (omega arith) in
          let entry = ap (λ l. slice_index l a) row ∙ get_or-zip2 bit_or (get_or rows y []) ends a 0 0 0 (omega arith) (omega arith) in
          let set : bit_or (y * 2 ^ first) (2 ^ u) ≡ x * 2 ^ first = upper_set y count first u last inside ∙ ap (λ i. i * 2 ^ first) (omega arith) in
          rw (← set, entry) (IsStep-or r (y * 2 ^ first) (2 ^ u) a (h.steps y a inside letter) (IsStep-node r u a node (leads a letter))))
          (cases_lt x (2 ^ count));
    }

-- the lower eight bits of a set of n nodes are a row of the low table
low_below : (n set : ℕ) → set < 2 ^ n → set % 256 < 2 ^ min 8 n
low_below n set within = grind (arith, cases_lt n 8)

-- the other bits of a set of n nodes are a row of the high table
high_below : (n set : ℕ) → set < 2 ^ n → set / 256 < 2 ^ (n - 8)
high_below n set within =
    let more : 2 ^ n ≤ 2 ^ (8 + (n - 8)) = pow_mono (omega arith) in
    div_below set 256 (2 ^ (n - 8)) (omega arith) (omega (arith, within, more, pow-add 2 8 (n - 8)))

-- the tables have rows for each set of nodes
pub HasRows-tables : {r : LocalRule} {rows : Rows} → AreTables r rows → (set : ℕ) → set < 2 ^ node_count r → HasRows rows set
HasRows-tables {r} h set within = record { low = rw h.low.long (low_below (node_count r) set within); high = rw h.high.long (high_below (node_count r) set within) }

-- a step by two look-ups
pub IsStep-tables : {r : LocalRule} {rows : Rows} → AreTables r rows → (set a low high : ℕ) (first second : List ℕ) → set < 2 ^ node_count r
    → a < r.states
    → low ≡ set % 256 → high ≡ set / 256 → first ≡ get_or rows.low low first → second ≡ get_or rows.high high second
    → IsStep r set a (slice_index (zip2 bit_or first second) a)
IsStep-tables {r} {rows} h set a low high first second within letter lower upper at_first at_second =
    let n = node_count r in
    let below_low : low < 2 ^ min 8 n = rw lower (low_below n set within) in
    let below_high : high < 2 ^ (n - 8) = rw upper (high_below n set within) in
    let small : low < 2 ^ 8 = omega arith in
    let whole : bit_or (low * 2 ^ 0) (high * 2 ^ 8) ≡ set =
    ap (λ l. bit_or l (high * 2 ^ 8)) (mul-one low) ∙ or_shifted_r high 8 low small ∙ omega arith in
    let few : a < 16 = omega arith in
    let one : first ≡ get_or rows.low low [] = at_first ∙ get_or_default rows.low low first [] (omega arith) in
    let two : second ≡ get_or rows.high high [] = at_second ∙ get_or_default rows.high high second [] (omega arith) in
    let entry = get_or-zip2 bit_or first second a 0 0 0
    (omega (arith, ap length one)) (omega (arith, ap length two)) in
    subst₂ (λ s t. IsStep r s a t) whole (sym (entry ∙ ap₂ (λ l h. bit_or (slice_index l a) (slice_index h a)) one two))
    (IsStep-or r (low * 2 ^ 0) (high * 2 ^ 8) a (h.low.steps low a below_low letter) (h.high.steps high a below_high letter))
