-- A search lists the rules that have a given shape, a property and some fixed letters. Each call returns the next of
-- these listed rules. They come by ascending rank: the rank of a table is the number in base k whose digits are the
-- letters of the table, in a given order of the windows.
use Rattle.std.specs.Prelude.{◌≡◌, ℕ, ◌<◌, ◌↔◌, List, [], ◌∷◌, Contains, Option, Some, None, ⊤}
use Rattle.word_image.specs.LocalRules.{LocalRule}
use Rattle.rule_lists.specs.Ranks.{rank}
use Rattle.rule_lists.specs.Listed.{IsListed, IsFirst, NoneIs}
use Rattle.rule_lists.specs.declared.properties.Property.{Property}

-- the rule q comes after the last rule: its table has a greater rank than the table of the last rule, or there is no last rule
abbrev pub IsAfter : ℕ → List ℕ → Option LocalRule → LocalRule → Type 0
IsAfter k order None q = ⊤
IsAfter k order (Some r) q = rank k order r.table < rank k order q.table

-- the list has all listed rules after the rule `last`, by ascending rank: each is the first listed rule after the rule before it, and no listed rule is left
abbrev pub AreAll : Property → ℕ → ℕ → List ℕ → List ℕ → Option LocalRule → List LocalRule → Type 0
AreAll property k m fixed order last [] = NoneIs property k m fixed (IsAfter k order last)
AreAll property k m fixed order last (r ∷ rs) = IsFirst property k m fixed order (IsAfter k order last) r × AreAll property k m fixed order (Some r) rs

-- the list has the first listed rules after the rule `first`, by ascending rank and without gaps; `last` is the last rule of the list, or `first` if the list is empty
abbrev pub AreSoFar : Property → ℕ → ℕ → List ℕ → List ℕ → Option LocalRule → List LocalRule → Option LocalRule → Type 0
AreSoFar property k m fixed order first [] last = first ≡ last
AreSoFar property k m fixed order first (r ∷ rs) last = IsFirst property k m fixed order (IsAfter k order first) r × AreSoFar property k m fixed order (Some r) rs last

-- the rules of the list have ascending ranks, and the first of them comes after the rule `last`
abbrev pub AreAscending : ℕ → List ℕ → Option LocalRule → List LocalRule → Type 0
AreAscending k order last [] = ⊤
AreAscending k order last (r ∷ rs) = IsAfter k order last r × AreAscending k order (Some r) rs

-- the list has exactly the listed rules, each once, by ascending rank
pub record AreListed (property : Property) (k m : ℕ) (fixed order : List ℕ) (rules : List LocalRule) : Type 0 where
  pub every : (r : LocalRule) → Contains rules r ↔ IsListed property k m fixed r
  pub ascending : AreAscending k order None rules
