-- Sets of last nodes. A last node of a word is the last m - 1 letters of one of its preimages, if the rule has width m.
-- Each word has the set of all its last nodes. This file lists these sets in the order of the least words that have
-- them (Sutner 1991). A cover is the set of all nodes, or a set of the list that contains no other set of the list. A
-- set is a number: bit u says whether node u is in it.
use Rattle.std.specs.Prelude.{◌≡◌, ◌≢◌, ℕ, ◌+◌, ◌<◌, ◌⊎◌, List, ◌∷◌, length, slice_index, slice_get, Some, Contains, Bool, bit_and, ◌==◌, ◌&&◌, not}
use Rattle.std.specs.List.{AllZip, filter, list_any}
use Rattle.std.specs.declared.cmp.Ordering.TheVariants.{Less, Greater}
use Rattle.word_image.specs.LocalRules.{LocalRule}
use Rattle.word_image.specs.Words.{word_cmp}
use Rattle.word_image.specs.Graphs.{full_set}
use Rattle.word_image.specs.Ranks.{IsLastSet}

-- w is the least word that has exactly this set of last nodes
pub record IsLeastWordOf (r : LocalRule) (set : ℕ) (w : List ℕ) : Type 0 where
  pub set_of : IsLastSet r w set
  pub least : (v : List ℕ) → IsLastSet r v set → word_cmp w v ≢ Greater

-- each word of the list comes before the next one: shorter words come first, and words of equal length are in dictionary order
abbrev pub IsAscending : List (List ℕ) → Type 0
IsAscending ws = (i : ℕ) (v w : List ℕ) → slice_get ws i ≡ Some v → slice_get ws (i + 1) ≡ Some w → word_cmp v w ≡ Less

-- the list has each set of last nodes once, in the order of their least words; if some word has the empty set, the empty set is the last of the list
pub record IsFamily (r : LocalRule) (sets : List ℕ) : Type 0 where
  pub words : List (List ℕ)
  pub each : AllZip (IsLeastWordOf r) sets words
  pub ascending : IsAscending words
  -- only the last set may be empty
  pub nonempty : (i : ℕ) → i + 1 < length sets → slice_index sets i ≢ 0
  -- each word has its set in the list, except for words that come after a word with the empty set
  pub all : (v : List ℕ) (set : ℕ) → IsLastSet r v set
      → Contains sets set ⊎ ((e : List ℕ) × IsLastSet r e 0 × (word_cmp e v ≡ Less) × Contains sets 0)

-- every node of the set s is in the set t
abbrev pub is_subset : ℕ → ℕ → Bool
is_subset s t = bit_and s t == s

-- the set s contains no other set of the list
abbrev pub is_minimal : List ℕ → ℕ → Bool
is_minimal sets s = not (list_any (λ t. not (t == s) && is_subset t s) sets)

-- the set s is a cover other than the set of all nodes: it contains no other set of the list
abbrev pub is_cover : ℕ → List ℕ → ℕ → Bool
is_cover full sets s = not (s == full) && is_minimal sets s

-- the cover list: the set of all nodes, then the other sets of the list that contain no other set of the list, in the order of the list
abbrev pub covers_of : ℕ → List ℕ → List ℕ
covers_of full sets = full ∷ filter (is_cover full sets) sets

-- the list is the cover list of the rule: the covers among its sets of last nodes
abbrev pub IsCoverList : LocalRule → List ℕ → Type 0
IsCoverList r covers = (family : List ℕ) × IsFamily r family × (covers ≡ covers_of (full_set r) family)
