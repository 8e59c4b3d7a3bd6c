-- The rules that colourings make are those of the class, and their numbers compare as their entries do.
use Rattle.std.proofs.Common.{◌≡◌, ℕ, ◌^◌, ◌<◌, List, take, get_or, slice_index, Bool, true, false, pos, refl, sym, ap, ◌∙◌, arith, get_or-take}
use Rattle.word_image.proofs.Common.{fill_by_all, range_with_len, get_or-range_with_len, length-range_with_len, ints, length-map, get_or_append_left, get_or-map-range_with_len, LocalRule, IsRule, value, word_of, local_map, wolfram_number, length-word_of, IsWord-word_of, value-word_of, entry-below, IsRule-mirrored, IsShape-offset, rule_from_parts}
use Rattle.rule_algebra.specs.Algebra.{recoloured}
use Rattle.rule_algebra.proofs.laws.Recolouring.{new_colour, recoloured_rule, map-agree}
use Rattle.rule_algebra.proofs.laws.Tables.{length-table_by, IsRule-table_by, table_by-at}
use Rattle.rule_classes.specs.Classes.{turned, HasRecolouredTable, IsInClass}
use Rattle.rule_classes.specs.Colourings.{AreInverse, IsColouring, entry, in_colours, recoloured_number}
use Rattle.rule_classes.specs.Best.{IsBest}
use Rattle.rule_classes.specs.declared.best.Best.{Best}
use Rattle.rule_classes.specs.declared.colourings.Colouring.{Colouring}
use Rattle.rule_classes.proofs.laws.Colours.{AreInverse-swap, inverse_letters, IsRecolouring-take, recoloured-take, IsWord-colours, recoloured-back}
use Rattle.rule_classes.proofs.laws.Recoloured.{local_map-back}
use Rattle.rule_text.proofs.laws.Numbers.{wolfram_number-value}
use Rattle.rule_classes.proofs.laws.Numbers.{value-less}

-- The recoloured rule is accepted

-- the rule, mirrored or not, gives letters
pub turned-below : {r : LocalRule} → IsRule r → (mirror : Bool) (w : List ℕ) → local_map (turned r mirror) w < r.states
turned-below {r} rule true w = entry-below (IsRule-mirrored rule) _
turned-below {r} rule false w = entry-below rule _

pub IsRule-in_colours : {r : LocalRule} (c : Colouring) → IsRule r → IsColouring r.states c → IsRule (in_colours r c)
IsRule-in_colours {r} c rule colouring = grind (arith, IsRule-table_by, IsShape-offset, ints, turned-below)

-- Numbers

-- the table of the recoloured rule has the entries
pub get_or-in_colours : (r : LocalRule) (c : Colouring) (v : ℕ) → v < r.states ^ r.width → get_or (in_colours r c).table v 0 ≡ entry r c v
get_or-in_colours r c v l = get_or-map-range_with_len (λ u. entry r c u) 0 (r.states ^ r.width) v v 0 l (omega arith)

-- the best rule's table has the entries of its colouring
pub slice_index-best : {r : LocalRule} (b : Best) (v : ℕ) → IsBest r b → v < r.states ^ r.width → slice_index b.entries v ≡ entry r b.colouring v
slice_index-best {r} b v best l = grind (arith, get_or_append_left, length-table_by, get_or-in_colours)

-- the lesser entry at the greatest window on which the two differ makes the lesser number
pub recoloured_number-less : {r : LocalRule} (c d : Colouring) (v : ℕ) → IsRule r → IsColouring r.states c → IsColouring r.states d
    → v < r.states ^ r.width
    → ((u : ℕ) → v < u → u < r.states ^ r.width → entry r c u ≡ entry r d u) → entry r c v < entry r d v
    → recoloured_number r c < recoloured_number r d
recoloured_number-less {r} c d v rule first second l same less =
    let one = IsRule-in_colours c rule first in
    let other = IsRule-in_colours d rule second in
    rw (wolfram_number-value one, wolfram_number-value other) (value-less r.states (in_colours r c).table (in_colours r d).table v one.letters (one.entries ∙ sym other.entries) (omega (arith, one.entries))
    (λ u past within. grind (arith, get_or-in_colours))
    (omega (arith, get_or-in_colours r c v l, get_or-in_colours r d v l)))

-- equal entries make one number
pub recoloured_number-same : (r : LocalRule) (c d : Colouring) → ((u : ℕ) → u < r.states ^ r.width → entry r c u ≡ entry r d u)
    → recoloured_number r c ≡ recoloured_number r d
recoloured_number-same r c d same =
    ap (λ t. wolfram_number (record { states = r.states; width = r.width; offset = pos 0; table = t }))
    (map-agree (entry r c) (entry r d) (range_with_len 0 (r.states ^ r.width)) (λ i l. same _ (grind (arith, get_or-range_with_len, length-range_with_len))))

-- The class

-- the recoloured rule at offset 0
abbrev of_colours : LocalRule → List ℕ → List ℕ → LocalRule
of_colours b colours letters = record (recoloured_rule b colours letters) { offset = pos 0 }

-- the recoloured rule at offset 0 has a recoloured table
of_colours-recoloured : {b : LocalRule} {colours letters : List ℕ} → IsRule b → AreInverse b.states colours letters
    → HasRecolouredTable b (of_colours b colours letters)
of_colours-recoloured {b} {colours} {letters} rule inverse = record {
  colours = take b.states colours;
  recolouring = IsRecolouring-take inverse;
  recoloured = record {
    states = refl;
    width = refl;
    entries = length-table_by b.states b.width (new_colour b colours letters);
    letters = λ w word long.
        let new : List ℕ = recoloured colours w in
        ap (local_map (of_colours b colours letters)) (recoloured-take colours w word)
        ∙ table_by-at b.states b.width (new_colour b colours letters) new (IsWord-colours inverse w word) (length-map w (slice_index colours) ∙ long)
        ∙ ap (λ x. slice_index colours (local_map b x)) (recoloured-back (AreInverse-swap inverse) w word)
        ∙ sym (get_or-take b.states colours (local_map b w) 0 (entry-below rule _));
  };
  offset = refl;
}

-- a rule with a recoloured table is the rule in some colours
recoloured-of_colours : {b h : LocalRule} → (has : HasRecolouredTable b h)
    → (letters : List ℕ) × AreInverse b.states has.colours letters × (h ≡ of_colours b has.colours letters)
recoloured-of_colours {b} {h} has =
    let found = inverse_letters has.recolouring in
    let new = has.recoloured in (
      found.0,
      found.1,
      rule_from_parts new.states new.width has.offset (fill_by_all (λ v. new_colour b has.colours found.0 (word_of b.states b.width v)) h.table (b.states ^ b.width) 0 new.entries (λ v below.
          let w : List ℕ = word_of b.states b.width v in
          sym (ap (λ k. slice_index h.table (value k w)) new.states ∙ ap (slice_index h.table) (value-word_of b.states b.width v below))
          ∙ local_map-back found.1 new w (IsWord-word_of b.states b.width v below) (length-word_of b.states b.width v))),
    )

-- a recoloured rule is of the rule's class
pub IsInClass-colours : {r : LocalRule} {colours letters : List ℕ} → (mirror : Bool) → IsRule r → AreInverse r.states colours letters
    → IsInClass r mirror (in_colours r (record { mirrored = mirror; colours = colours; letters = letters }))
IsInClass-colours {r} {colours} {letters} true rule inverse = of_colours-recoloured (IsRule-mirrored rule) inverse
IsInClass-colours {r} {colours} {letters} false rule inverse = of_colours-recoloured rule inverse

-- each rule of the class is a recoloured one
pub colouring_of : (r : LocalRule) {h : LocalRule} → (mirror : Bool) → IsInClass r mirror h
    → (c : Colouring) × IsColouring r.states c × (c.mirrored ≡ mirror) × (h ≡ in_colours r c)
colouring_of r {h} true inside =
    let found = recoloured-of_colours inside in
    (record { mirrored = true; colours = inside.colours; letters = found.0 }, found.1, refl, found.2)
colouring_of r {h} false inside =
    let found = recoloured-of_colours inside in
    (record { mirrored = false; colours = inside.colours; letters = found.0 }, found.1, refl, found.2)
