-- The least automaton of a surjective rule: one class, to which each letter leads.
use Rattle.std.proofs.Common.{◌≡◌, ◌≢◌, ℕ, ◌+◌, ◌*◌, ◌<◌, List, [], ◌∷◌, length, refl, ◌∙◌, subst, arith, Less, Equal, Greater}
use Rattle.word_image.proofs.Common.{get_or-replicate, length-replicate, slice_get_within, only_place, IsOrphan-not_surjective, LocalRule, IsSurjective, word_cmp, key_not_greater}
use Rattle.image_minimal.specs.ImageLanguages.{Alike, IsLeastAlike, IsLeastAutomaton}
use Rattle.ca_answering.specs.OneClass.{one_class}

-- without orphans all words are alike
alike-surjective : {r : LocalRule} → IsSurjective r → (x y : List ℕ) → Alike r x y
alike-surjective every x y z word = ((λ o. absurd (IsOrphan-not_surjective o every)), (λ o. absurd (IsOrphan-not_surjective o every)))

-- no word comes before that of no letter
none_before : (v : List ℕ) → word_cmp [] v ≢ Greater
none_before [] = (key_not_greater 0 0 Equal).1 (omega arith, λ _ e. cc)
none_before (a ∷ v) = (key_not_greater 0 (length (a ∷ v)) Less).1 (omega arith, λ _ e. cc)

-- the automaton of one class is the least one of a surjective rule
pub IsLeastAutomaton-surjective : {r : LocalRule} → IsSurjective r → IsLeastAutomaton r (one_class r.states)
IsLeastAutomaton-surjective {r} every = record {
  words = [] ∷ [];
  states = refl;
  list = record {
    least = λ i w at. subst (IsLeastAlike r) (only_place [] w i at).1 (record { word = λ j d l. absurd (omega arith); least = λ v word alike. none_before v });
    ascending = λ i v w at next. let within : i + 1 < 1 = slice_get_within ([] ∷ []) (i + 1) w next in absurd (omega arith);
    all = λ v word. (0, [], refl, alike-surjective every v []);
  };
  classes = refl;
  long = length-replicate r.states 0 ∙ omega arith;
  next = λ i a one letter.
      let first : i ≡ 0 = omega arith in
      record {
        from = [];
        to = [];
        from_is = rw first;
        to_is = rw (get_or-replicate {A = ℕ} r.states (i * r.states + a) 0 0 (rw first (omega arith)));
        alike = alike-surjective every (a ∷ []) [];
      };
  dead = every;
}
