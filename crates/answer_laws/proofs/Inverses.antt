-- The inverse map of a rule over its least determined window is one.
use Rattle.std.proofs.Common.{◌≡◌, ℕ, ◌^◌, ◌<◌, List, take, get_or, slice_index, refl, sym, ap, ◌∙◌, subst, arith, Option, None, Some}
use Rattle.word_image.proofs.Common.{same_number_lists, LocalRule, IsRule, IsWord, word_of, IsPreimage, length-word_of, IsWord-word_of, value-word_of}
use Rattle.tail_config.proofs.Common.{WindowMap, IsInverseMap, map_letter}
use Rattle.config_laws.specs.Composed.{IsUndoneBy}
use Rattle.config_laws.proofs.Composed.{IsUndoneBy-map}
use Rattle.inverse_table.proofs.MapRules.{local_map-map_rule}
use Rattle.inverse_table.specs.InverseMaps.{GivesBack}
use Rattle.ca_questions.proofs.Common.{Finding, IsMapRule, IsInverseFound}
use Rattle.answer_laws.proofs.Least.{IsLeastDetermined-unique}

-- what the map of a window says of the word of a value is a letter of each preimage of the word
map-letter : {r : LocalRule} {n c : ℕ} {g : WindowMap} → IsInverseMap r n c g → (v : ℕ) → v < r.states ^ n → (x : List ℕ)
    → IsPreimage r (word_of r.states n v) x
    → get_or g.table v 0 ≡ slice_index x c
map-letter {r} {n} {c} {g} map v below x is = grind (arith, value-word_of, length-word_of)

-- where every word has a preimage there is one map
IsInverseMap-unique : {r : LocalRule} {n c : ℕ} {f g : WindowMap} → GivesBack r n c f → IsInverseMap r n c f → IsInverseMap r n c g → f ≡ g
IsInverseMap-unique {r} {n} {c} {f} {g} gives here there =
    let states : f.states ≡ g.states = here.states ∙ sym there.states in
    let width : f.width ≡ g.width = here.width ∙ sym there.width in
    let offset : f.offset ≡ g.offset = here.offset ∙ sym there.offset in
    let table : f.table ≡ g.table = same_number_lists f.table g.table (here.entries ∙ sym there.entries) (λ v l.
    let below : v < r.states ^ n = omega (arith, here.entries) in
    let onto = gives.onto (word_of r.states n v) (IsWord-word_of r.states n v below) (length-word_of r.states n v) in
    map-letter here v below onto.0 onto.1 ∙ sym (map-letter there v below onto.0 onto.1)) in
    λ i. record { states = states i; width = width i; offset = offset i; table = table i }

-- the rule that is found undoes the rule
pub IsUndoneBy-found : {r s : LocalRule} {n c : ℕ} {g : WindowMap} → IsRule r → IsInverseFound r n c g (Some s) → IsUndoneBy r s
IsUndoneBy-found {r} {s} {n} {c} {g} rule found =
    let window = found.least.determined in
    subst (IsUndoneBy r) (sym found.as_rule.1)
    (IsUndoneBy-map rule window found.map found.map.states refl (omega (arith, found.map.width)) (λ w word long.
    let same = local_map-map_rule g w (omega (arith, window.some, found.map.width)) (subst (λ k. IsWord k w) (sym found.map.states) word) long in
    same ∙ ap (λ n. map_letter g (take n w)) found.map.width))

-- a map is one rule, or none
IsMapRule-unique : (g : WindowMap) (rule other : Option LocalRule) → IsMapRule g rule → IsMapRule g other → rule ≡ other
IsMapRule-unique g None None none also = refl
IsMapRule-unique g None (Some r) none is = absurd (none is.0)
IsMapRule-unique g (Some r) None is none = absurd (none is.0)
IsMapRule-unique g (Some r) (Some s) is also = ap Some (is.1 ∙ sym also.1)

-- a rule has one inverse: its window, its map, and the map as a rule
pub IsInverseFound-unique : {r : LocalRule} {n c m d : ℕ} {f g : WindowMap} {rule other : Option LocalRule} → IsInverseFound r n c f rule
    → IsInverseFound r m d g other
    → Finding.Inverse n c f rule ≡ Finding.Inverse m d g other
IsInverseFound-unique {r} {n} {c} {m} {d} {f} {g} {rule} {other} here there =
    let (long, place) = IsLeastDetermined-unique here.least there.least in
    let map : IsInverseMap r n c g = subst (λ c. IsInverseMap r n c g) (sym place) (subst (λ n. IsInverseMap r n d g) (sym long) there.map) in
    let maps : f ≡ g = IsInverseMap-unique here.gives_back here.map map in
    let rules : rule ≡ other = IsMapRule-unique g rule other (subst (λ g. IsMapRule g rule) maps here.as_rule) there.as_rule in
    λ i. Finding.Inverse (long i) (place i) (maps i) (rules i)
