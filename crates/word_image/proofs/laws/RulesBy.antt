-- Rules by what they give at each value of a window, as they are passed.
use Rattle.std.proofs.Common.{◌≡◌, ℕ, ◌^◌, ◌<◌, map, slice_index, ℤ, w8, FitsSigned, to_z, of_z, arith}
use Rattle.std.specs.List.{range_with_len}
use Rattle.std.proofs.lemmas.Int.{ints}
use Rattle.std.proofs.lemmas.List.FromFn.{get_or-map-range_with_len}
use Rattle.word_image.specs.LocalRules.{LocalRule, IsRule}
use Rattle.word_image.specs.RulesBy.{IsRuleBy}

-- the offset of an accepted rule is one of an i8
pub FitsSigned-offset : {r : LocalRule} → IsRule r → FitsSigned w8 r.offset
FitsSigned-offset rule = omega (arith, ints)

-- a rule is given by its entries
pub IsRuleBy-entries : {r : LocalRule} {k m : ℕ} {o : ℤ} {gives : ℕ → ℕ → Type 0} → IsRule r → k ≡ r.states → m ≡ r.width → o ≡ r.offset
    → ((v a : ℕ) → v < r.states ^ r.width → gives v a → a ≡ slice_index r.table v) → IsRuleBy k m (to_z w8 (of_z w8 o)) gives r
IsRuleBy-entries rule states width offset entries = grind arith

-- a rule whose table a function fills is given by that function
pub IsRuleBy-map : {r : LocalRule} {k m : ℕ} {o : ℤ} {gives : ℕ → ℕ → Type 0} (f : ℕ → ℕ) → IsRule r → k ≡ r.states → m ≡ r.width → o ≡ r.offset
    → r.table ≡ map f (range_with_len 0 (r.states ^ r.width)) → ((v a : ℕ) → v < r.states ^ r.width → gives v a → a ≡ f v)
    → IsRuleBy k m (to_z w8 (of_z w8 o)) gives r
IsRuleBy-map f rule states width offset table given = grind (arith, get_or-map-range_with_len)
