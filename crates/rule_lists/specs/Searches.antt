-- A search returns rules call by call. Its question has a shape, a property, an order of the windows and fixed
-- letters. A rule is listed if it has the shape, the property and the fixed letters. The listed rules come by
-- ascending rank: the rank of a rule is the number whose digits are the letters of its table, in the order of the
-- windows.
use Rattle.std.specs.Prelude.{◌≡◌, ℕ, ◌+◌, ◌-◌, ◌^◌, List, Option, Some, None, IfSome, MatchOption}
use Rattle.word_image.specs.LocalRules.{LocalRule}
use Rattle.rule_lists.specs.Ranks.{IsOrder, rank_of_first, rank}
use Rattle.rule_lists.specs.Tables.{IsTable}
use Rattle.rule_lists.specs.Listed.{IsFirst, NoneIs, RulesOutStart}
use Rattle.rule_lists.specs.Calls.{IsAfter}
use Rattle.rule_lists.specs.declared.asked.Asked.{Asked}
use Rattle.rule_lists.specs.declared.search.ListedRules.{ListedRules}

-- the number of windows of the shape, which is also the length of a table
abbrev pub size_of : Asked → ℕ
size_of a = a.shape.now.states ^ a.shape.now.width

-- the order of the question has each window of the shape exactly once
abbrev pub IsOrdered : Asked → Type 0
IsOrdered a = IsOrder (size_of a) a.order.now

-- the list begins with a letter for each window of the shape
abbrev pub AreEntries : Asked → List ℕ → Type 0
AreEntries a entries = IsTable a.shape.now.states (size_of a) entries

-- the number whose digits are the letters of the list at the first n windows of the order
abbrev pub rank_in : Asked → List ℕ → ℕ → ℕ
rank_in a entries n = rank_of_first a.shape.now.states a.order.now entries n

-- no rule of the shape has the property, the fixed letters, and these letters at the first n windows of the order
abbrev pub IsStartRuledOut : Asked → List ℕ → ℕ → Type 0
IsStartRuledOut a entries n = RulesOutStart a.property a.shape.now.states a.shape.now.width a.fixed.now a.order.now entries n

-- `next` is the first listed rule for which `From` holds, or None if `From` holds for no listed rule
abbrev pub IsFirstListed : Asked → (LocalRule → Type 0) → Option LocalRule → Type 0
IsFirstListed a From next =
    MatchOption next
    (NoneIs a.property a.shape.now.states a.shape.now.width a.fixed.now From)
    (IsFirst a.property a.shape.now.states a.shape.now.width a.fixed.now a.order.now From)

-- `next` is the first listed rule after the rule `last`, or the first of all if `last` is None; `next` is None if no such rule exists
abbrev pub IsNextListed : Asked → Option LocalRule → Option LocalRule → Type 0
IsNextListed a last next = IsFirstListed a (IsAfter a.shape.now.states a.order.now last) next

-- the rule has the number of states and the width of the question
pub record HasShape (a : Asked) (r : LocalRule) : Type 0 where
  pub states : r.states ≡ a.shape.now.states
  pub width : r.width ≡ a.shape.now.width

-- the search has this question and continues after the rule `last`; if `last` is None, it begins with the first listed rule
abbrev pub IsBehind : Asked → Option LocalRule → ListedRules → Type 0
IsBehind a last s = (s.asked ≡ a) × (s.last ≡ last)

-- the search can continue: its order has each window exactly once, and the rule after which it continues has the shape of the question
pub record CanGoOn (s : ListedRules) : Type 0 where
  pub ordered : IsOrdered s.asked
  pub fits : IfSome s.last (HasShape s.asked)

-- a call of the search s returned `next`, the next listed rule, and the search t continues after this rule; if no rule is left, `next` is None, and t continues where s does
pub record GivesNext (s : ListedRules) (next : Option LocalRule) (t : ListedRules) : Type 0 where
  pub asked : t.asked ≡ s.asked
  pub listed : IsNextListed s.asked s.last next
  pub last : MatchOption next (t.last ≡ s.last) (λ r. t.last ≡ Some r)

-- how many ranks are greater than the rank of the rule `last`; if there is no last rule, the number of all ranks
abbrev pub ranks_left : Asked → Option LocalRule → ℕ
ranks_left a None = a.shape.now.states ^ size_of a
ranks_left a (Some r) = a.shape.now.states ^ size_of a - (rank a.shape.now.states a.order.now r.table + 1)
