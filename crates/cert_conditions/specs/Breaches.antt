-- The first number for which a property doesn't hold. The checks of conditions look for such a number.
use Rattle.std.specs.Prelude.{ℕ, ◌<◌}

-- P holds for each number below n
abbrev pub EachBelow : ℕ → (ℕ → Type 0) → Type 0
EachBelow n P = (i : ℕ) → i < n → P i

-- i is the first number below n for which P doesn't hold
pub record IsFirstBreach (n : ℕ) (P : ℕ → Type 0) (i : ℕ) : Type 0 where
  pub within : i < n
  pub fails : ¬ P i
  pub earlier : EachBelow i P
