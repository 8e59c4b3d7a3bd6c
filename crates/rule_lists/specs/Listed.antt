-- A search lists the rules that have a given shape, a property and some fixed letters. The list `fixed` has a number
-- for each window, and a number below k fixes the letter of its window. The rank of a table is the number in base k
-- whose digits are the table's letters, in the order of the windows that `order` gives.
use Rattle.std.specs.Prelude.{◌≡◌, ℕ, ◌^◌, ◌<◌, ◌≤◌, ◌↔◌, ◌⊎◌, List, slice_index, ℤ, pos, Option, Some, IfSome}
use Rattle.word_image.specs.LocalRules.{LocalRule, IsRule}
use Rattle.rule_lists.specs.Properties.{Has}
use Rattle.rule_lists.specs.Ranks.{rank}
use Rattle.rule_lists.specs.Tables.{IsTable, HasLetters, IsPast, IsFurther}
use Rattle.rule_lists.specs.declared.properties.Property.{Property}

-- the rule r with its offset replaced by o
abbrev pub at_offset : LocalRule → ℤ → LocalRule
at_offset r o = record { states = r.states; width = r.width; offset = o; table = r.table }

-- r is a rule of k states, width m and offset 0, within the limits of rules
pub record IsOfShape (k m : ℕ) (r : LocalRule) : Type 0 where
  pub rule : IsRule r
  pub states : r.states ≡ k
  pub width : r.width ≡ m
  pub offset : r.offset ≡ pos 0

-- r is listed: it is a rule of k states, width m and offset 0 that has the property and each fixed letter
pub record IsListed (property : Property) (k m : ℕ) (fixed : List ℕ) (r : LocalRule) : Type 0 where
  pub shape : IsOfShape k m r
  pub has : Has property r
  pub begins : HasLetters k (k ^ m) fixed r.table

-- r has the least rank among the listed rules for which `From` holds
pub record IsFirst (property : Property) (k m : ℕ) (fixed order : List ℕ) (From : LocalRule → Type 0) (r : LocalRule) : Type 0 where
  pub listed : IsListed property k m fixed r
  pub from : From r
  pub least : (q : LocalRule) → IsListed property k m fixed q → From q → rank k order r.table ≤ rank k order q.table

-- `From` holds for no listed rule
abbrev pub NoneIs : Property → ℕ → ℕ → List ℕ → (LocalRule → Type 0) → Type 0
NoneIs property k m fixed From = (q : LocalRule) → IsListed property k m fixed q → ¬ From q

-- no rule of the shape has the property, the fixed letters, and the letters of `table` at the first n windows of the order
abbrev pub RulesOutStart : Property → ℕ → ℕ → List ℕ → List ℕ → List ℕ → ℕ → Type 0
RulesOutStart property k m fixed order table n = (q : LocalRule) → IsOfShape k m q → HasLetters k (k ^ m) fixed q.table → ((i : ℕ) → i < n → slice_index q.table (slice_index order i) ≡ slice_index table (slice_index order i)) → ¬ Has property q

-- the letter at window v is known to be a: v is one of the first n windows of the order and the table has a at v, or a is the number of `fixed` at v
abbrev pub IsKnownLetter : List ℕ → List ℕ → List ℕ → ℕ → ℕ → ℕ → Type 0
IsKnownLetter fixed order table n v a = ((i : ℕ) × (i < n) × (slice_index order i ≡ v) × (a ≡ slice_index table v)) ⊎ (a ≡ slice_index fixed v)

-- all letters of the table are known, and r is a listed rule with these letters
pub record IsFilled (property : Property) (k m : ℕ) (fixed table : List ℕ) (n : ℕ) (r : LocalRule) : Type 0 where
  pub full : n ≡ k ^ m
  pub listed : IsListed property k m fixed r
  pub letters : (v : ℕ) → v < k ^ m → slice_index r.table v ≡ slice_index table v

-- the search went on from the first n letters of `old` to the first `next` letters of `new` and skipped no listed rule; if `next` is None, no listed rule is left
pub record IsOn (property : Property) (k m : ℕ) (fixed order old : List ℕ) (n : ℕ) (new : List ℕ) (next : Option ℕ) : Type 0 where
  pub table : IsTable k (k ^ m) new
  pub within : IfSome next (λ i. i ≤ k ^ m)
  pub same : (q : LocalRule) → IsListed property k m fixed q → (IsPast k order old (Some n) q.table ↔ IsPast k order new next q.table)
  pub further : IfSome next (λ i. IsFurther k (k ^ m) order old n new i)
