-- The rule of a text is an accepted rule, which a checker needs of a text that it was handed.
use Rattle.std.proofs.Common.{◌≡◌, ℕ, ◌^◌, ◌<◌, List, Option, Some, None, refl, sym, subst, arith, option_map}
use Rattle.std.specs.Option.{option_or}
use Rattle.word_image.proofs.Common.{none-some, nat_tests, LocalRule, IsShape, IsRule, IsShape-shape_fault, IsWord-table_fault}
use Rattle.rule_text.specs.RuleTexts.{Said, Entries, Table, Number, IsRuleText, rule_of, table_of, fault_of, entries_fault, number_fault}
use Rattle.rule_text.proofs.laws.Numbers.{IsRule-number}

-- where neither of two options is there, both are missing
pub none_or : {A : Type 0} (a b : Option A) → option_or a b ≡ None → (a ≡ None) × (b ≡ None)
none_or None b e = (refl, e)
none_or (Some x) b e = absurd (none-some x (sym e))

-- what is missing was missing before it was changed
pub none_map : {A B : Type 0} (f : A → B) (a : Option A) → option_map f a ≡ None → a ≡ None
none_map f None e = refl
none_map f (Some x) e = absurd (none-some (f x) (sym e))

-- a number with no fault belongs to a table
pub number-below : (k m n : ℕ) → number_fault k m n ≡ None → n < k ^ (k ^ m)
number-below k m n none = grind (arith, nat_tests)

-- entries with no fault make a rule of an accepted shape
IsRule-entries : (s : Said) (e : Entries) → IsShape s.states s.width s.offset → entries_fault s e ≡ None
    → IsRule (record { states = s.states; width = s.width; offset = s.offset; table = table_of s e })
IsRule-entries s (Table letters) shape none = grind (arith, IsWord-table_fault, none_map)
IsRule-entries s (Number n) shape none = grind (arith, IsRule-number, number-below)

-- what is said with no fault is a rule
pub IsRule-said : (s : Said) → fault_of s ≡ None → IsRule (rule_of s)
IsRule-said s none = grind (arith, none_or, IsRule-entries, IsShape-shape_fault, none_map)

-- a text of a rule is one of an accepted rule
pub IsRule-text : {text : List ℕ} {r : LocalRule} → IsRuleText text r → IsRule r
IsRule-text h = subst IsRule (sym h.rule) (IsRule-said h.said h.accepted)
