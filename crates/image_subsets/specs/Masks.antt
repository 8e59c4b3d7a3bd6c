-- A list of different sets of at most 16 nodes, and rows of bits that mark the sets of the list. A set is a number: bit
-- u says whether node u is in the set.
use Rattle.std.specs.Prelude.{◌≡◌, ◌≢◌, ◌↔◌, AllPairs, ℕ, ◌<◌, List, [], ◌∷◌, ◌++◌, length, All, Contains, Bool, true, false}
use Rattle.word_image.specs.LocalRules.{most_sets}
use Rattle.image_subsets.specs.Marks.{IsSetMarked}

-- the result of inserting a set into a list: `true` if the set wasn't in the old list and was appended, `false` if it was in the old list and the list is unchanged
abbrev pub IsInserted : List ℕ → List ℕ → ℕ → Bool → Type 0
IsInserted old new set true = (¬ Contains old set) × (new ≡ old ++ set ∷ [])
IsInserted old new set false = Contains old set × (new ≡ old)

-- the sets of the list are all different, and the rows mark these sets and no others
pub record AreMembers (sets rows : List ℕ) : Type 0 where
  pub long : length rows ≡ 1024
  pub below : All (λ s. s < most_sets) sets
  pub apart : AllPairs (λ s t. s ≢ t) sets
  pub marked : (x : ℕ) → x < most_sets → (IsSetMarked rows x ↔ Contains sets x)
