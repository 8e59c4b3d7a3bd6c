-- An inverse map as a rule: its shape, its table, and the first limit that it breaks.
use Rattle.std.proofs.Common.{◌≡◌, ℕ, subst, ◌*◌, ◌/◌, ◌^◌, ◌<◌, ◌≤◌, List, length, take, map, slice_index, sym, ap, ◌∙◌, ⊎_elim, arith, pow-suc, one-mul, ◌==◌, eq-eqb, ne_eqb}
use Rattle.word_image.proofs.Common.{range_with_len, pow-zero, cases_eq, cases_lt, cond-true, cond-false, nat_tests, get_or_past, div_below, length-map-range_with_len, get_or-map-range_with_len, All-map, IsRule, IsShape, IsWord, local_map, shape_fault, value, value-below, value-take, take-length}
use Rattle.tail_config.proofs.Common.{WindowMap, map_letter}
use Rattle.inverse_table.specs.InverseMaps.{map_rule}
use Rattle.inverse_table.specs.MapLimits.{IsWindowMap, rule_limit_fault}

-- an entry of the map is a letter
entry-below : {g : WindowMap} → IsWindowMap g → (v : ℕ) → slice_index g.table v < g.states
entry-below {g} h v = grind (arith, get_or_past, cases_lt)

-- the table of the rule where one letter is read
table_one : (g : WindowMap) → g.width ≡ 1
    → (map_rule g).table ≡ map (λ v. slice_index g.table (v / g.states)) (range_with_len 0 (g.states * g.states))
table_one g one = cond-true (g.width == 1) _ g.table (eq-eqb g.width 1 one)

-- how many windows the rule of a map has that reads one letter
windows_one : (g : WindowMap) → g.width ≡ 1 → g.states ^ (map_rule g).width ≡ g.states * g.states
windows_one g one = grind (arith, pow-suc, pow-zero, one-mul)

-- the rule of a map that reads one letter has, for a window, the map's letter for the first cell
pub entry_one : {g : WindowMap} → IsWindowMap g → g.width ≡ 1 → (v : ℕ) → v < g.states ^ (map_rule g).width
    → (v / g.states < length g.table) × (slice_index g.table (v / g.states) ≡ slice_index (map_rule g).table v)
entry_one {g} h one v l =
    grind (arith, windows_one, pow-suc, pow-zero, one-mul, div_below, table_one, get_or-map-range_with_len)

-- the rule of a map, where its shape is accepted, is a rule
pub IsRule-map_rule : {g : WindowMap} → IsWindowMap g → IsShape g.states (map_rule g).width g.offset → IsRule (map_rule g)
IsRule-map_rule {g} h shape =
    let k : ℕ = g.states in
    ⊎_elim (λ one.
    let f : ℕ → ℕ = λ v. slice_index g.table (v / k) in
    record {
      shape = shape;
      entries = ap length (table_one g one) ∙ length-map-range_with_len f 0 (k * k) ∙ sym (windows_one g one);
      letters = subst (IsWord k) (sym (table_one g one)) (All-map (λ a. a < k) f (range_with_len 0 (k * k)) (λ i d l. entry-below h _));
    })
    (λ more. grind (arith, cond-false, ne_eqb))
    (cases_eq g.width 1)

-- for states and a width that a map has, the first fault of a shape is the first limit that is broken
pub shape_fault-limit : {g : WindowMap} → IsWindowMap g → shape_fault g.states (map_rule g).width g.offset ≡ rule_limit_fault (map_rule g)
shape_fault-limit {g} h = grind (arith, nat_tests)

-- the rule of a map gives, for a window, the letter that the map gives for the first cells of the window
pub local_map-map_rule : (g : WindowMap) (w : List ℕ) → 1 ≤ g.width → IsWord g.states w → length w ≡ (map_rule g).width
    → local_map (map_rule g) w ≡ map_letter g (take g.width w)
local_map-map_rule g w some word long =
    let k : ℕ = g.states in
    ⊎_elim
    (λ one. grind (arith, table_one, get_or-map-range_with_len, value-take, value-below, pow-suc, pow-zero, one-mul))
    (λ more. grind (arith, cond-false, ne_eqb, take-length))
    (cases_eq g.width 1)
