-- Recoloured rules: the way back, and surjective rules.
use Rattle.std.proofs.Common.{◌≡◌, ℕ, ◌^◌, List, length, slice_index, sym, ap, ap₂, ◌∙◌, subst, arith}
use Rattle.word_image.proofs.Common.{length-map, LocalRule, IsRule, IsWord, local_map, IsPreimage, IsSurjective, entry-below}
use Rattle.rule_algebra.specs.Algebra.{IsRecoloured, recoloured}
use Rattle.rule_algebra.proofs.laws.Recolouring.{RecoloursImages-recoloured}
use Rattle.rule_classes.specs.Colourings.{AreInverse}
use Rattle.rule_classes.proofs.laws.Colours.{AreInverse-swap, IsWord-colours, recoloured-back}

-- what the recoloured rule gives on a window is the new colour of what the rule gives on the window in the old letters
pub local_map-back : {r g : LocalRule} {colours letters : List ℕ} → AreInverse r.states colours letters → IsRecoloured colours r g
    → (w : List ℕ) → IsWord r.states w → length w ≡ r.width → local_map g w ≡ slice_index colours (local_map r (recoloured letters w))
local_map-back {r} {g} {colours} {letters} inverse new w word long =
    ap (local_map g) (sym (recoloured-back inverse w word))
    ∙ new.letters (recoloured letters w) (IsWord-colours (AreInverse-swap inverse) w word) (length-map w (slice_index letters) ∙ long)

-- the rule is the recoloured rule, recoloured back
pub IsRecoloured-back : {r g : LocalRule} {colours letters : List ℕ} → IsRule r → AreInverse r.states colours letters → IsRecoloured colours r g
    → IsRecoloured letters g r
IsRecoloured-back {r} {g} {colours} {letters} rule inverse new = record {
  states = sym new.states;
  width = sym new.width;
  entries = rule.entries ∙ ap₂ (λ (k m : ℕ). k ^ m) (sym new.states) (sym new.width);
  letters = λ w word long.
      sym (ap (slice_index letters) (local_map-back inverse new w (subst (λ k. IsWord k w) new.states word) (long ∙ new.width))
      ∙ inverse.back (local_map r (recoloured letters w)) (entry-below rule _));
}

-- a preimage in new colours is a preimage of the word in new colours
IsPreimage-recoloured : {r g : LocalRule} {colours letters w x : List ℕ} → IsRule r → AreInverse r.states colours letters → IsRecoloured colours r g
    → IsPreimage r w x → IsPreimage g (recoloured colours w) (recoloured colours x)
IsPreimage-recoloured {r} {g} {colours} {letters} {w} {x} rule inverse new p = record {
  word = rw new.states (IsWord-colours inverse x p.word);
  long = omega (arith, length-map x (slice_index colours), length-map w (slice_index colours), p.long, new.width);
  maps = RecoloursImages-recoloured rule new x p.word ∙ ap (recoloured colours) p.maps;
}

-- a recoloured rule is surjective if the rule is
pub IsSurjective-recoloured : (r g : LocalRule) (colours letters : List ℕ) → IsRule r → AreInverse r.states colours letters
    → IsRecoloured colours r g → IsSurjective r → IsSurjective g
IsSurjective-recoloured r g colours letters rule inverse new onto w word =
    let here : IsWord r.states w = rw new.states at word in
    let found = onto (recoloured letters w) (IsWord-colours (AreInverse-swap inverse) w here) in
    (recoloured colours found.0, rw (recoloured-back inverse w here) at (IsPreimage-recoloured rule inverse new found.1))
