-- The least ring that doesn't keep its sum, among the rings of one length and among all rings.
use Rattle.std.specs.Prelude.{◌≡◌, ℕ, ◌≤◌, List, length}
use Rattle.word_image.specs.LocalRules.{LocalRule, value}
use Rattle.word_image.specs.Rings.{IsRing, KeepsSum, IsLossyRing}

-- each ring of n letters keeps its sum
abbrev pub KeepSumAt : (ℕ → ℕ) → LocalRule → ℕ → Type 0
KeepSumAt weight r n = (p : List ℕ) → IsRing r.states p → length p ≡ n → KeepsSum weight r p

-- p is the least ring of n letters that doesn't keep its sum
pub record IsFirstLossyRing (weight : ℕ → ℕ) (r : LocalRule) (n : ℕ) (p : List ℕ) : Type 0 where
  pub lossy : IsLossyRing weight r p
  pub long : length p ≡ n
  pub first : (q : List ℕ) → IsLossyRing weight r q → length q ≡ n → value r.states p ≤ value r.states q
