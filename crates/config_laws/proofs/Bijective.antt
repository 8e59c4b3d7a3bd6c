-- An injective rule takes the configurations one to one onto all of them, and has an inverse map.
use Rattle.std.proofs.Common.{◌≡◌, ℕ, ◌-◌, ◌%◌, ◌^◌, ◌<◌, ◌≤◌, ◌↔◌, List, length, map, slice_index, neg_ℤ, pos, ◌-ℤ◌, refl, sym, ◌∙◌, subst, arith, mod-lt, mod-eq_of_lt}
use Rattle.std.specs.List.{range_with_len}
use Rattle.word_image.proofs.Common.{one-le-pow, some_letter, get_or-map-range_with_len, length-map-range_with_len, LocalRule, IsRule, IsWord, value, word_of, IsPreimage, IsSurjective, IsDetermined, IsWord-image, IsWord-word_of, word_of-value, value-below}
use Rattle.tail_config.proofs.Common.{IsInjective, WindowMap, IsInverseMap, image_of}
use Rattle.tail_laws.proofs.Common.{IsInjective-window}
use Rattle.garden_laws.proofs.Preinjective.{IsSurjective-injective}
use Rattle.config_laws.specs.Maps.{IsBijectiveMap}
use Rattle.config_laws.proofs.Images.{IsConfig-image}
use Rattle.config_laws.proofs.Everywhere.{IsInjective-everywhere}
use Rattle.config_laws.proofs.Inverses.{IsOntoMap-injective}

-- a rule is injective exactly if it takes one configuration to each, and no other
pub IsInjective-bijective : {r : LocalRule} → IsRule r → IsInjective r ↔ IsBijectiveMap r
IsInjective-bijective {r} rule = (
  λ injective y hy.
      let (x, hx, image) = IsOntoMap-injective rule injective y hy in
      (x, hx, image, λ z hz same. (IsInjective-everywhere rule).0 injective z x hz hx (same ∙ sym image)),
  λ bijective. (IsInjective-everywhere rule).1 (λ x y hx hy same.
      let found = bijective (image_of r x) (IsConfig-image rule x) in
      found.3 x hx refl ∙ sym (found.3 y hy (sym same))),
)

-- a preimage of the word of n letters with a value
numbered : {r : LocalRule} → IsSurjective r → (n v : ℕ) → 1 ≤ r.states ^ n → (x : List ℕ) × IsPreimage r (word_of r.states n (v % r.states ^ n)) x
numbered {r} every n v some = every (word_of r.states n (v % r.states ^ n)) (IsWord-word_of r.states n (v % r.states ^ n) (mod-lt v some))

-- letter c of a preimage of each word of n letters
abbrev letters : {r : LocalRule} → IsSurjective r → (n c : ℕ) → 1 ≤ r.states ^ n → WindowMap
letters {r} every n c some = record {
  states = r.states;
  width = n;
  offset = neg_ℤ r.offset -ℤ pos c;
  table = map (λ v. slice_index (numbered every n v some).0 c) (range_with_len 0 (r.states ^ n));
}

-- the letters of preimages are the inverse map of a determined window
IsInverseMap-letters : {r : LocalRule} {n c : ℕ} → IsRule r → (every : IsSurjective r) (some : 1 ≤ r.states ^ n) → IsDetermined r n c
    → IsInverseMap r n c (letters every n c some)
IsInverseMap-letters {r} {n} {c} rule every some window = record {
  states = refl;
  width = refl;
  offset = refl;
  entries = length-map-range_with_len (λ v. slice_index (numbered every n v some).0 c) 0 (r.states ^ n);
  letter = λ w x long p. letter w x long p;
  none = λ w word long none. absurd (none (every w word).0 (every w word).1);
}
  where
    letter : (w x : List ℕ) → length w ≡ n → IsPreimage r w x → slice_index (letters every n c some).table (value r.states w) ≡ slice_index x c
    letter w x long p =
        let d : ℕ = r.width - 1 in
        let v : ℕ = value r.states w in
        let word : IsWord r.states w = subst (IsWord r.states) p.maps (IsWord-image rule x) in
        let below : v < r.states ^ n = grind (arith, value-below) in
        let found = numbered every n v some in
        grind (arith, mod-eq_of_lt, word_of-value, get_or-map-range_with_len)

-- an injective rule has a determined window, and the inverse map of it
pub has_inverse : {r : LocalRule} → IsRule r → IsInjective r → (n c : ℕ) × (g : WindowMap) × IsDetermined r n c × IsInverseMap r n c g
has_inverse {r} rule injective =
    let (n, c, window) = (IsInjective-window rule).0 injective in
    let every : IsSurjective r = IsSurjective-injective rule injective in
    let some : 1 ≤ r.states ^ n = one-le-pow n r.states (some_letter rule) in
    (n, c, letters every n c some, window, IsInverseMap-letters rule every some window)
