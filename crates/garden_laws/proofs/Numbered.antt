-- The numbers below a bound of which something holds that can be decided, numbered.
use Rattle.std.proofs.Common.{◌≡◌, ℕ, ◌<◌, ◌⊎◌, inl, inr, Bool, true, false, true≢false, refl, sym}
use Rattle.garden_laws.specs.ZeroPairs.{count_below}
use Rattle.garden_laws.proofs.Counts.{nth, nth-passes, nth-place}

-- what is decided, as a test
abbrev pub as_test : {P : Type 0} → P ⊎ ¬ P → Bool
as_test (inl p) = true
as_test (inr n) = false

-- what holds passes the test
pub passes : {P : Type 0} → (d : P ⊎ ¬ P) → P → as_test d ≡ true
passes (inl q) p = refl
passes (inr n) p = absurd (n p)

-- what passes the test holds
pub passed : {P : Type 0} → (d : P ⊎ ¬ P) → as_test d ≡ true → P
passed (inl p) e = p
passed (inr n) e = absurd (true≢false (sym e))

-- how many there are below n, which they are, and the place of each
pub record Numbered (P : ℕ → Type 0) (n : ℕ) : Type 0 where
  pub count : ℕ
  pub at : ℕ → ℕ
  pub place : ℕ → ℕ
  pub holds : (i : ℕ) → i < count → (at i < n) × P (at i)
  pub forth : (i : ℕ) → i < count → place (at i) ≡ i
  pub back : (a : ℕ) → a < n → P a → (place a < count) × (at (place a) ≡ a)

-- the numbers below a bound of which something holds that can be decided can be numbered
pub numbered : (P : ℕ → Type 0) → ((a : ℕ) → P a ⊎ ¬ P a) → (n : ℕ) → Numbered P n
numbered P decide n =
    let p : ℕ → Bool = λ a. as_test (decide a) in
    record {
      count = count_below p n;
      at = nth p n;
      place = count_below p;
      holds = λ i l. let is = nth-passes p n i l in (is.0, passed (decide (nth p n i)) is.1);
      forth = λ i l. (nth-passes p n i l).2;
      back = λ a l holds. nth-place p n a l (passes (decide a) holds);
    }
