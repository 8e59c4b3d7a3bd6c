-- Rules given by a relation: `gives v a` means that the rule has the letter a for the window whose value is v.
use Rattle.std.specs.Prelude.{◌≡◌, ℕ, ◌^◌, ◌<◌, slice_index, ℤ}
use Rattle.word_image.specs.LocalRules.{LocalRule, IsRule}

-- r is an accepted rule with k states, width m and offset o. Its table has the letter a for the window whose value is v, if `gives v a` holds
pub record IsRuleBy (k m : ℕ) (o : ℤ) (gives : ℕ → ℕ → Type 0) (r : LocalRule) : Type 0 where
  pub rule : IsRule r
  pub states : r.states ≡ k
  pub width : r.width ≡ m
  pub offset : r.offset ≡ o
  pub entries : (v a : ℕ) → v < k ^ m → gives v a → a ≡ slice_index r.table v
