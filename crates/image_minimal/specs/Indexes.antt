-- A list of different sets of nodes, and an index, which has the place of each set in the list. A set is a number, in
-- which bit u says whether node u is in the set.
use Rattle.std.specs.Prelude.{◌≡◌, ℕ, ◌<◌, ◌≤◌, ◌↔◌, ◌⊎◌, List, [], ◌∷◌, ◌++◌, length, slice_get, get_or, Option, Some, None, Contains}
use Rattle.word_image.specs.LocalRules.{most_sets}

-- a list of sets, and a number that is greater than each set that may be put into it
pub record Indexed : Type 0 where
  pub sets : List ℕ
  pub limit : ℕ

-- `place` is the place of the set in the list, or None if the set isn't in the list
abbrev pub IsPlaceOf : List ℕ → ℕ → Option ℕ → Type 0
IsPlaceOf sets set place = (i : ℕ) → (place ≡ Some i) ↔ (slice_get sets i ≡ Some set)

-- the index `places` has for each set its place in the list, or None if the set isn't in the list. It has entries for all sets of the list
pub record IsExactIndex (sets : List ℕ) (places : List (Option ℕ)) : Type 0 where
  pub most : length places ≤ most_sets
  pub within : (i set : ℕ) → slice_get sets i ≡ Some set → set < length places
  pub each : (set : ℕ) → set < length places → IsPlaceOf sets set (get_or places set None)

-- the set was in the list, which stayed the same, or it was new and was appended
abbrev pub IsInserted : List ℕ → List ℕ → ℕ → Type 0
IsInserted old new set = ((new ≡ old) × Contains old set) ⊎ ((¬ Contains old set) × (new ≡ old ++ set ∷ []))
