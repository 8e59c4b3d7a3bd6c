-- Cells that a rule ignores, and the rule without them.
use Rattle.std.proofs.Common.{◌≡◌, ℕ, ◌+◌, ◌-◌, ◌%◌, ◌^◌, ◌<◌, ◌≤◌, List, ◌∷◌, ◌++◌, length, take, drop, replicate, slice_index, refl, sym, ap, subst, ◌∙◌, ⊎_elim, arith, length-append, length-drop, zero-mul, ℤ, pos, ◌+ℤ◌, take_all, length-take-le, drop-drop, get_or-take}
use Rattle.word_image.proofs.Common.{drop-append-add, value-node, pow-le-pow_right, drop-append_seam, take-append-add, cases_lt, ints, length-replicate, All-cons, All-take, All-drop, All-append, All-replicate, LocalRule, IsRule, IsWord, value, word_of, local_map, node_count, value-below, value-word_of, length-word_of, IsWord-word_of, value-tail, some_letter}
use Rattle.tail_config.proofs.Common.{cells, cell, length-run, IsWord-run, drop-run, cell-below}
use Rattle.rule_algebra.specs.Algebra.{KeepsImages, Ignores}
use Rattle.rule_algebra.specs.Tables.{without_first, IsRest, DropsFirsts}

-- the whole window is left where no last letter is
whole : (d n : ℕ) (v : List ℕ) → length v ≡ n → drop d (take (n - 0) v) ≡ drop d v
whole d n v long = ap (drop d) (take_all (n - 0) v (omega arith))

-- ignored first cells, said of what is left
pub Ignores-firsts : (r : LocalRule) (d : ℕ)
    → ((v w : List ℕ) → IsWord r.states v → IsWord r.states w → length v ≡ r.width → length w ≡ r.width → drop d v ≡ drop d w → local_map r v ≡ local_map r w) → Ignores r d 0
Ignores-firsts r d same = λ v w hv hw lv lw e. same v w hv hw lv lw (sym (whole d r.width v lv) ∙ e ∙ whole d r.width w lw)

-- where first cells are ignored, the rule gives the same on words that differ in them alone
pub firsts_ignored : (r : LocalRule) (d : ℕ) → Ignores r d 0
    → (v w : List ℕ) → IsWord r.states v → IsWord r.states w → length v ≡ r.width → length w ≡ r.width → drop d v ≡ drop d w
    → local_map r v ≡ local_map r w
firsts_ignored r d h v w hv hw lv lw e = h v w hv hw lv lw (whole d r.width v lv ∙ e ∙ sym (whole d r.width w lw))

-- a rule ignores what another one ignores, where its windows go over to windows for which the other one gives the same letter
pub Ignores-over : (r g : LocalRule) (a b d e : ℕ) (over : List ℕ → List ℕ)
    → ((v : List ℕ) → IsWord g.states v → length v ≡ g.width → IsWord r.states (over v) × (length (over v) ≡ r.width) × (local_map r (over v) ≡ local_map g v))
    → ((v w : List ℕ) → length v ≡ g.width → length w ≡ g.width → drop d (take (g.width - e) v) ≡ drop d (take (g.width - e) w)
    → drop a (take (r.width - b) (over v)) ≡ drop a (take (r.width - b) (over w))) → Ignores r a b → Ignores g d e
Ignores-over r g a b d e over window kept ignored v w hv hw lv lw same =
    let x = window v hv lv in
    let y = window w hw lw in
    sym x.2 ∙ ignored (over v) (over w) x.0 y.0 x.1 y.1 (kept v w lv lw same) ∙ y.2

-- a rule that ignores its first cells ignores fewer of them too
pub Ignores-fewer : (r : LocalRule) (c d : ℕ) → c ≤ d → Ignores r d 0 → Ignores r c 0
Ignores-fewer r c d h ignored =
    let deeper : (x : List ℕ) → drop d x ≡ drop (d - c) (drop c x) = λ x. ap (λ j. drop j x) (let other : d ≡ c + (d - c) = omega arith in other) ∙ sym (drop-drop (d - c) c x) in
    Ignores-over r r d 0 c 0 (λ v. v) (λ v word long. (word, long, refl)) (λ v w lv lw e. deeper _ ∙ ap (drop (d - c)) e ∙ sym (deeper _)) ignored

-- the table's rows for the first letters are equal, as far as value n
abbrev pub SameRows : LocalRule → ℕ → Type 0
SameRows r n = (v : ℕ) → v < n → slice_index r.table v ≡ slice_index r.table (v % node_count r)

-- where the table's rows for the first letters are equal, the first cell is ignored
pub Ignores-same_rows : {r : LocalRule} → IsRule r → SameRows r (r.states ^ r.width) → Ignores r 1 0
Ignores-same_rows {r} rule rows = Ignores-firsts r 1 (λ v w hv hw lv lw e. grind (arith, value-below, value-tail))

-- a word that begins with the letter 0 has the value of its rest
value-zero : (k : ℕ) (w : List ℕ) → value k (0 ∷ w) ≡ value k w
value-zero k w = omega (arith, zero-mul (k ^ length w))

-- what a rule that ignores its first cell gives is in the first row
pub first_row : {r : LocalRule} → IsRule r → Ignores r 1 0 → (w : List ℕ) → IsWord r.states w → length w ≡ r.width
    → slice_index r.table (value r.states (drop 1 w)) ≡ local_map r w
first_row {r} rule ignored w word long =
    let some : 0 < r.states = omega (arith, rule.shape.least_states) in
    let z : List ℕ = 0 ∷ drop 1 w in
    let letters : IsWord r.states z = All-cons (λ a. a < r.states) 0 (drop 1 w) some (All-drop (λ a. a < r.states) 1 w word) in
    ap (slice_index r.table) (sym (value-zero r.states (drop 1 w)))
    ∙ firsts_ignored r 1 ignored z w letters word (omega (arith, length-drop 1 w)) long refl

-- a rule whose rows are equal ignores its first cell
pub same_rows-Ignores : {r : LocalRule} → IsRule r → Ignores r 1 0 → SameRows r (r.states ^ r.width)
same_rows-Ignores {r} rule ignored = λ v l.
    let w : List ℕ = word_of r.states r.width v in
    let word = IsWord-word_of r.states r.width v l in
    let long = length-word_of r.states r.width v in
    let back = value-word_of r.states r.width v l in
    grind (arith, first_row, value-tail)

-- there are at least as many windows as rows
nodes_within : {r : LocalRule} → IsRule r → node_count r ≤ r.states ^ r.width
nodes_within {r} rule = pow-le-pow_right (omega (arith, rule.shape.least_states)) {i = r.width - 1} {j = r.width} (omega arith)

-- the rule without its first cell is accepted
pub IsRule-without_first : {r : LocalRule} → IsRule r → 2 < r.width → IsRule (without_first r)
IsRule-without_first {r} rule wide =
    let fewer : r.states ^ (r.width - 1 - 1) ≤ r.states ^ (r.width - 1) = pow-le-pow_right (some_letter rule) (omega arith) in
    let letters = All-take (λ a. a < r.states) (node_count r) r.table rule.letters in
    let long = length-take-le (node_count r) r.table (omega (arith, rule.entries, nodes_within rule)) in
    grind (arith, ints)

-- one first cell more
pub IsRest-more : {r g : LocalRule} {n : ℕ} → IsRest r n g → IsRule g → 2 < g.width → Ignores g 1 0 → IsRest r (n + 1) (without_first g)
IsRest-more {r} {g} {n} rest rule wide ignored = record {
  states = rest.states;
  width = omega (arith, rest.width);
  offset = omega (arith, ints, rest.offset);
  letters = λ w word long.
      let u : List ℕ = drop n w in
      let letters : IsWord g.states u = subst (λ k. IsWord k u) (sym rest.states) (All-drop (λ a. a < r.states) n w word) in
      let there : length u ≡ g.width = omega (arith, length-drop n w, rest.width) in
      let below = value-node g (drop 1 u) (All-drop (λ a. a < g.states) 1 u letters) (omega (arith, length-drop 1 u)) in
      ap (λ y. slice_index (take (node_count g) g.table) (value g.states y)) (sym (drop-drop 1 n w))
      ∙ get_or-take (node_count g) g.table (value g.states (drop 1 u)) 0 below
      ∙ first_row rule ignored u letters there
      ∙ rest.letters w word long;
}

-- what is dropped is ignored
pub Ignores-rest : {r g : LocalRule} {n : ℕ} → IsRest r n g → Ignores r n 0
Ignores-rest {r} {g} {n} rest = Ignores-firsts r n (λ v w hv hw lv lw e. sym (rest.letters v hv lv) ∙ ap (local_map g) e ∙ rest.letters w hw lw)

-- zeros before a window of the rest make a window of the rule, which gives the same letter for it
pub behind_zeros : {r g : LocalRule} {n : ℕ} → IsRule r → IsRest r n g → (v : List ℕ) → IsWord g.states v → length v ≡ g.width
    → IsWord r.states (replicate n 0 ++ v) × (length (replicate n 0 ++ v) ≡ r.width) × (local_map r (replicate n 0 ++ v) ≡ local_map g v)
behind_zeros {r} {g} {n} rule rest v word long =
    let zeros : List ℕ = replicate n 0 in
    let letters : IsWord r.states (zeros ++ v) =
    All-append (λ a. a < r.states) zeros v (All-replicate (λ a. a < r.states) n 0 (some_letter rule)) (subst (λ k. IsWord k v) rest.states word) in
    let there : length (zeros ++ v) ≡ r.width = omega (arith, length-append zeros v, length-replicate {A = ℕ} n 0, rest.width) in
    (letters, there, sym (rest.letters (zeros ++ v) letters there) ∙ ap (local_map g) (ap (λ j. drop j (zeros ++ v)) (sym (length-replicate {A = ℕ} n 0)) ∙ drop-append_seam zeros v))

-- the window with zeros before it, without last cells
pub take-behind_zeros : {r g : LocalRule} {n : ℕ} → IsRest r n g → (e : ℕ) → e ≤ g.width → (x : List ℕ)
    → take (r.width - e) (replicate n 0 ++ x) ≡ replicate n 0 ++ take (g.width - e) x
take-behind_zeros {r} {g} {n} rest e h x =
    let place : r.width - e ≡ length (replicate n 0) + (g.width - e) = omega (arith, rest.width, length-replicate {A = ℕ} n 0) in
    ap (λ j. take j (replicate n 0 ++ x)) place ∙ take-append-add (replicate n 0) x (g.width - e)

-- a rest that ignores its first cell is no whole rest
pub Ignores-of_rest : {r g : LocalRule} {n : ℕ} → IsRule r → IsRest r n g → Ignores r (n + 1) 0 → Ignores g 1 0
Ignores-of_rest {r} {g} {n} rule rest =
    Ignores-over r g (n + 1) 0 1 0 (λ v. replicate n 0 ++ v) (behind_zeros rule rest) (λ v w lv lw e.
    let cut : (x : List ℕ) → drop (n + 1) (take (r.width - 0) (replicate n 0 ++ x)) ≡ drop 1 (take (g.width - 0) x) = λ x.
    ap (drop (n + 1)) (take-behind_zeros rest 0 (omega arith) x) ∙ ap (λ j. drop (j + 1) (replicate n 0 ++ take (g.width - 0) x)) (sym (length-replicate {A = ℕ} n 0))
    ∙ drop-append-add (replicate n 0) (take (g.width - 0) x) 1 in
    cut v ∙ e ∙ sym (cut w))

-- a rest of which no first cell may be dropped is the rest without all that are ignored
pub DropsFirsts-rest : {r g : LocalRule} {n : ℕ} → IsRule r → IsRest r n g → ¬ ((2 < g.width) × Ignores g 1 0) → DropsFirsts r g
DropsFirsts-rest {r} {g} {n} rule rest none = record {
  count = n;
  rest = rest;
  most = λ d wide ignored. ⊎_elim
      (λ more. absurd (none (omega (arith, rest.width), Ignores-of_rest rule rest (Ignores-fewer r (n + 1) d (omega arith) ignored))))
      (λ l. l)
      (cases_lt n d);
}

-- the image cells of the rest are the old ones
pub KeepsImages-rest : {r g : LocalRule} {n : ℕ} → IsRest r n g → KeepsImages r g
KeepsImages-rest {r} {g} {n} rest = λ t i tail.
    let j : ℤ = i +ℤ r.offset in
    let place : j +ℤ pos n ≡ i +ℤ g.offset = omega (arith, ints, rest.offset) in
    ap (local_map g) (sym (ap (λ m. drop n (cells t j m)) (sym rest.width) ∙ drop-run (cell t) j (i +ℤ g.offset) n g.width place))
    ∙ rest.letters (cells t j r.width) (IsWord-run (cell-below tail) j r.width) (length-run (cell t) j r.width)
