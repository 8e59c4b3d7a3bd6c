-- The results of a search for the least orphan of a rule. Each word has the set of the last nodes of its preimages; a
-- last node is the last m - 1 letters of a preimage, if the rule has width m. The family of a rule lists these sets in
-- the order of their least words, up to and including the empty set if there is one. Its covers are the set of all
-- nodes, and each set that contains no other set of the family.
use Rattle.std.specs.Prelude.{◌≡◌, ◌≤◌, ℕ, List, [], length}
use Rattle.word_image.specs.LocalRules.{LocalRule}
use Rattle.word_image.specs.Words.{IsSurjective, IsLeastOrphan}
use Rattle.word_image.specs.Families.{IsFamily, covers_of}
use Rattle.word_image.specs.Graphs.{full_set}
use Rattle.orphan_search.specs.declared.search.Outcome.{Outcome}
use Rattle.orphan_search.specs.declared.search.Outcome.TheVariants.{Closed, Orphan}

-- what a search returns: a word, a list of sets and the covers of this list
pub record Searched : Type 0 where
  pub word : List ℕ
  pub sets : List ℕ
  pub cover : List ℕ

-- there are no results: all lists are empty
abbrev pub IsNothing : Searched → Type 0
IsNothing found = (found.word ≡ []) × (found.sets ≡ []) × (found.cover ≡ [])

-- the results are right. `Closed`: every word has a preimage, and the results are the family of the rule and its covers. `Orphan`: the result is the least orphan, which has at most 65,535 letters
abbrev pub IsVerdict : LocalRule → Outcome → Searched → Type 0
IsVerdict r Closed found = IsSurjective r × IsFamily r found.sets × (found.word ≡ []) × (found.cover ≡ covers_of (full_set r) found.sets)
IsVerdict r Orphan found = IsLeastOrphan r found.word × (length found.word ≤ 65535) × (found.sets ≡ []) × (found.cover ≡ [])
