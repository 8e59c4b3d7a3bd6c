-- The principle `OneOfTwo`, which can't be proved constructively, and the principle `AllOrNot`, from which it follows.
-- Both are true in classical mathematics. A test is a function from numbers to truth values, and it passes at a number
-- if it gives true.
use Rattle.std.specs.Prelude.{◌≡◌, ◌⊎◌, ℕ, suc, Bool, true}

-- the test is falling: if it passes at n + 1, it passes at n
abbrev pub Falls : (ℕ → Bool) → Type 0
Falls test = (n : ℕ) → test (suc n) ≡ true → test n ≡ true

-- if at each number at least one of two falling tests passes, then one of the two passes at all numbers. This is a form of the lesser limited principle of omniscience
abbrev pub OneOfTwo : Type 0
OneOfTwo = (p q : ℕ → Bool) → Falls p → Falls q → ((n : ℕ) → (p n ≡ true) ⊎ (q n ≡ true)) → ((n : ℕ) → p n ≡ true) ⊎ ((n : ℕ) → q n ≡ true)

-- each test either passes at all numbers or doesn't. This is the law of the excluded middle for such sentences, a form of the weak limited principle of omniscience
abbrev pub AllOrNot : Type 0
AllOrNot = (test : ℕ → Bool) → ((n : ℕ) → test n ≡ true) ⊎ ¬ ((n : ℕ) → test n ≡ true)
