-- The first determined windows of two families are the first of both.
use Rattle.std.proofs.Common.{◌≡◌, ℕ, ◌≤◌, ◌⊎◌, inl, inr, Option, Some, None, ⊎_elim, arith, IfSome, IsSomeAnd, option_map}
use Rattle.word_image.proofs.Common.{LocalRule, IsDetermined, WindowBefore}
use Rattle.inverse_window.specs.declared.windows.WindowAt.{WindowAt}
use Rattle.inverse_window.specs.Starts.{HoldsFrom}
use Rattle.inverse_window.specs.FirstWindows.{IsFirstWindowOf, IsNoLater, IsEarlier}

-- what comes before a window comes before each that is no earlier
before-no_later : (n c : ℕ) (w v : WindowAt) → WindowBefore n c w.n w.c → IsNoLater w v → WindowBefore n c v.n v.c
before-no_later n c w v before no_later =
    grind arith

-- the first of one family is the first of both, where it is no later than the first of the other
IsFirstWindowOf-no_later : (r : LocalRule) (A B C : ℕ → ℕ → Type 0) → ((n c : ℕ) → C n c → A n c ⊎ B n c) → (a b : Option WindowAt)
    → IfSome b (λ v. IsSomeAnd a (λ w. IsNoLater w v)) → IsFirstWindowOf r A a → IsFirstWindowOf r B b → IsFirstWindowOf r C a
IsFirstWindowOf-no_later r A B C either None None no_later none_a none_b = λ n c among. ⊎_elim (none_a n c) (none_b n c) (either n c among)
IsFirstWindowOf-no_later r A B C either None (Some v) no_later none_a first_b = absurd no_later
IsFirstWindowOf-no_later r A B C either (Some w) None no_later first_a none_b = record {
  determined = first_a.determined;
  least = λ n c among before. ⊎_elim (λ x. first_a.least n c x before) (none_b n c) (either n c among);
}
IsFirstWindowOf-no_later r A B C either (Some w) (Some v) no_later first_a first_b = record {
  determined = first_a.determined;
  least = λ n c among before. ⊎_elim (λ x. first_a.least n c x before) (λ y. first_b.least n c y (before-no_later n c w v before no_later)) (either n c among);
}

-- the earlier of the first windows of two families is the first of both
pub IsFirstWindowOf-earlier : (r : LocalRule) (A B C : ℕ → ℕ → Type 0) → ((n c : ℕ) → C n c → A n c ⊎ B n c) → (a b found : Option WindowAt)
    → IsEarlier a b found
    → IsFirstWindowOf r A a → IsFirstWindowOf r B b → IsFirstWindowOf r C found
IsFirstWindowOf-earlier r A B C either a b found earlier first_a first_b =
    ⊎_elim
    (λ is. rw is (IsFirstWindowOf-no_later r A B C either a b (rw is at earlier.second) first_a first_b))
    (λ is. rw is (IsFirstWindowOf-no_later r B A C (λ n c among. ⊎_elim inr inl (either n c among)) b a (rw is at earlier.first) first_b first_a))
    earlier.one

-- the windows (size n, place n), for all n
abbrev pub AreWindows : (ℕ → ℕ) → (ℕ → ℕ) → ℕ → ℕ → Type 0
AreWindows size place n' c' = (n : ℕ) × (n' ≡ size n) × (c' ≡ place n)

-- the first of these windows is that of the start, if later numbers give later windows
pub IsFirstWindowOf-start : (r : LocalRule) (size place : ℕ → ℕ) (start : Option ℕ)
    → ((a n : ℕ) → a ≤ n → ¬ WindowBefore (size n) (place n) (size a) (place a))
    → HoldsFrom start (λ n. IsDetermined r (size n) (place n))
    → IsFirstWindowOf r (AreWindows size place) (option_map (λ a. record { n = size a; c = place a }) start)
IsFirstWindowOf-start r size place None later none = λ n' c' (n, long, at) determined. none n (rw (long, at) at determined)
IsFirstWindowOf-start r size place (Some a) later from = record {
  determined = (from a).1 (omega arith);
  least = λ n' c' (n, long, at) before determined. later a n ((from n).0 (rw (long, at) at determined)) (rw (long, at) at before);
}
