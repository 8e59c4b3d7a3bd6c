-- Tables that are filled: from the table of another rule, window by window, to that of the recoloured rule.
use Rattle.std.proofs.Common.{◌≡◌, ℕ, ◌+◌, ◌-◌, ◌^◌, ◌<◌, ◌≤◌, List, length, set, replicate, slice_index, false, refl, sym, ap, ◌∙◌, arith, length-set, length-append, get_or-set_other, ext_get_or, map-id}
use Rattle.std.proofs.Math.Seq.{get_or-append_right}
use Rattle.word_image.proofs.Common.{cases_lt, fill_by_all, length-replicate, get_or_append_left, LocalRule, IsRule, word_of, local_map, padded, set_more, window_count-le, IsWord-word_of, value-word_of, slice_index-zeros}
use Rattle.rule_algebra.specs.Algebra.{recoloured}
use Rattle.rule_algebra.proofs.laws.Tables.{length-table_by}
use Rattle.rule_algebra.proofs.laws.Recolouring.{map-agree}
use Rattle.rule_classes.specs.Classes.{turned}
use Rattle.rule_classes.specs.Colourings.{IsColouring, new_letter, entry, in_colours, old_value}
use Rattle.rule_classes.specs.Tables.{HasZeros, AreFilled}
use Rattle.rule_classes.specs.declared.colourings.Colouring.{Colouring}
use Rattle.rule_classes.proofs.laws.Colourings.{get_or-in_colours, turned-below}

-- Room and zeros

length-padded : (table : List ℕ) → length table ≤ 256 → length (padded table) ≡ 256
length-padded table few = length-append table (replicate (256 - length table) 0) ∙ ap (λ n. length table + n) (length-replicate {A = ℕ} (256 - length table) 0) ∙ omega arith

past-padded : (table : List ℕ) (v : ℕ) → length table ≤ v → slice_index (padded table) v ≡ 0
past-padded table v past = get_or-append_right table (replicate (256 - length table) 0) v 0 past ∙ slice_index-zeros (256 - length table) (v - length table)

-- a table of the rule's length that is padded has zeros after it
pub HasZeros-padded : {r : LocalRule} {entries : List ℕ} (table : List ℕ) → IsRule r → length table ≡ r.states ^ r.width → entries ≡ padded table
    → HasZeros r entries
HasZeros-padded {r} {entries} table rule long same = grind (arith, window_count-le, length-padded, past-padded)

-- Filling

-- the table is filled at one window more
pub AreFilled-more : {r : LocalRule} {c : Colouring} {n : ℕ} {windows entries : List ℕ} (old colour : ℕ) → IsRule r → n < r.states ^ r.width
    → old ≡ old_value r c n → colour ≡ entry r c n
    → AreFilled r c n windows entries → AreFilled r c (n + 1) (set windows n old) (set entries n colour)
AreFilled-more {r} {c} {n} {windows} {entries} old colour rule below value gives h =
    let few = window_count-le r.states r.width r.offset rule.shape in
    let values = set_more (λ v x. x ≡ old_value r c v) windows n n 0 old (omega (arith, h.windows_long, few)) refl h.values value in
    record {
      windows_long = length-set windows n old ∙ h.windows_long;
      first = values 0 (omega arith);
      values = values;
      colours = set_more (λ v x. x ≡ entry r c v) entries n n 0 colour (omega (arith, h.zeros.long, few)) refl h.colours gives;
      zeros = grind (arith, length-set, get_or-set_other);
    }

-- where all are filled, the table is that of the recoloured rule
pub AreFilled-all : {r : LocalRule} {c : Colouring} {windows entries : List ℕ} → IsRule r → AreFilled r c (r.states ^ r.width) windows entries
    → entries ≡ padded (in_colours r c).table
AreFilled-all {r} {c} {windows} {entries} rule h =
    let table : List ℕ = (in_colours r c).table in
    let long : length table ≡ r.states ^ r.width = length-table_by r.states r.width (new_letter r c) in
    let few = window_count-le r.states r.width r.offset rule.shape in
    ext_get_or 0 _ _ (h.zeros.long ∙ sym (length-padded table (omega (arith, few)))) (λ v l.
    grind (arith, get_or_append_left, get_or-in_colours, past-padded, cases_lt))

-- The rule itself

-- where each letter is its own colour, the table is the rule's
pub table-own : {r : LocalRule} (c : Colouring) → IsRule r → IsColouring r.states c → c.mirrored ≡ false
    → ((a : ℕ) → a < r.states → slice_index c.letters a ≡ a) → (in_colours r c).table ≡ r.table
table-own {r} c rule colouring straight own =
    sym (fill_by_all (entry r c) r.table (r.states ^ r.width) 0 rule.entries (λ v below.
    let w : List ℕ = word_of r.states r.width v in
    let x : ℕ = local_map (turned r c.mirrored) (recoloured c.letters w) in
    let letter : x < r.states = turned-below rule c.mirrored (recoloured c.letters w) in
    let same : x ≡ slice_index r.table v =
    ap (λ mirror. local_map (turned r mirror) (recoloured c.letters w)) straight
    ∙ ap (local_map r) (map-agree (slice_index c.letters) (λ a. a) w (λ i h. own _ (IsWord-word_of r.states r.width v below i 0 h)) ∙ map-id w)
    ∙ ap (slice_index r.table) (value-word_of r.states r.width v below) in
    sym (ap (slice_index c.colours) (sym (own x letter)) ∙ colouring.there x letter ∙ same)))
