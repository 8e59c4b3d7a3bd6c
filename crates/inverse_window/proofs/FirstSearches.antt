-- The search for the first window, from the greatest number of letters before the letter on.
use Rattle.std.proofs.Common.{◌≡◌, ℕ, ◌+◌, ◌-◌, ◌<◌, ◌≤◌, inl, inr, List, Option, Some, None, get_or, subst, ⊎_elim, arith, IfSome, option_map}
use Rattle.word_image.proofs.Common.{cases_eq, cases_lt, LocalRule, IsRule, node_count, first_of, second_of, pair_count, IsDetermined, WindowBefore}
use Rattle.pair_laws.proofs.Common.{first_of-below, second_of-below}
use Rattle.inverse_window.specs.declared.windows.WindowAt.{WindowAt}
use Rattle.inverse_window.specs.Starts.{HoldsFrom, later}
use Rattle.inverse_window.specs.FirstWindows.{PairDiffersAt, PairBegins, EndsFor, NoneHolds, AreStarts, IsPast, IsFirstWindowOf, IsEarlier}
use Rattle.inverse_window.proofs.StartLaws.{HoldsFrom-same, HoldsFrom-later, later-most}
use Rattle.inverse_window.proofs.WindowLaws.{IsDetermined-within, NoneHolds-split}
use Rattle.inverse_window.proofs.FirstWindowLaws.{AreWindows, IsFirstWindowOf-earlier, IsFirstWindowOf-start}

-- the windows with at least c, and at most e, letters of the image before the letter
abbrev pub HasBefore : ℕ → ℕ → ℕ → ℕ → Type 0
HasBefore e c n' c' = (c ≤ c') × (c' ≤ e) × (c' ≤ n')

-- what is known once the windows with c to e letters of the image before the letter were looked at
pub record IsSearched (r : LocalRule) (e c : ℕ) (last : Option ℕ) (found : Option WindowAt) : Type 0 where
  pub start : HoldsFrom last (NoneHolds (pair_count r) (λ p. PairDiffersAt r 0 p × EndsFor r e p c) (PairBegins r))
  pub start_most : IfSome last (λ n. n ≤ 120)
  pub first : IsFirstWindowOf r (HasBefore e c) found
  pub first_most : IfSome found (λ w. w.n ≤ 240)

-- the window with c letters before the letter, where it is found
abbrev pub window_within : ℕ → Option ℕ → Option WindowAt
window_within c start = option_map (λ n. record { n = c + n; c = c }) start

-- the earlier of two windows is within a bound that they are within
pub earlier-most : (a b found : Option WindowAt) → IsEarlier a b found → IfSome a (λ w. w.n ≤ 240) → IfSome b (λ w. w.n ≤ 240)
    → IfSome found (λ w. w.n ≤ 240)
earlier-most a b found earlier first second =
    ⊎_elim (λ is. rw is first) (λ is. rw is second) earlier.one

-- with one number of letters before the letter more, the search goes on
pub IsSearched-next : {r : LocalRule} → IsRule r → (e c : ℕ) (starts : List (Option ℕ)) (last here : Option ℕ) (found next : Option WindowAt) → c ≤ e
    → AreStarts r e (pair_count r) starts
    → here ≡ later last (get_or starts c None) → IfSome (window_within c here) (λ w. w.n ≤ 240) → IsEarlier found (window_within c here) next
    → IsSearched r e (c + 1) last found → IsSearched r e c here next
IsSearched-next {r} rule e c starts last here found next within table start_is most earlier before =
    let start : HoldsFrom here (NoneHolds (pair_count r) (λ p. PairDiffersAt r 0 p × EndsFor r e p c) (PairBegins r)) =
    rw start_is (HoldsFrom-later last (get_or starts c None) _ _ _ (NoneHolds-split rule e c) before.start (table.from c within)) in
    record {
      start = start;
      start_most = rw start_is (later-most last (get_or starts c None) 120 before.start_most (table.most c within));
      first = IsFirstWindowOf-earlier r (HasBefore e (c + 1)) (AreWindows (λ n. c + n) (λ _. c)) (HasBefore e c)
          (λ n' c' among. ⊎_elim (λ same. inr (n' - c, omega (arith, among.2), same)) (λ other. inl (omega (arith, other, among.0), among.1, among.2)) (cases_eq c' c))
          found (window_within c here) next earlier before.first
          (IsFirstWindowOf-start r (λ n. c + n) (λ _. c) here (λ a n l. ⊎_elim (λ less. omega arith) (λ tie. omega (arith, tie.1)))
          (HoldsFrom-same here _ _ (λ n. IsDetermined-within rule e c n within) start));
      first_most = earlier-most found (window_within c here) next earlier before.first_most most;
    }

-- above the finite ranks, a determined window with more letters before the letter than e comes after one with e
IsDetermined-fewer : {r : LocalRule} → IsRule r → (e n c : ℕ) → IsPast r (node_count r) e → c < n + 1 → IsDetermined r n c
    → (n' : ℕ) × (c' : ℕ) × HasBefore e 0 n' c' × IsDetermined r n' c' × ((m k : ℕ) → WindowBefore n c m k → WindowBefore n' c' m k)
IsDetermined-fewer {r} rule e n c past inside determined = ⊎_elim
    (λ many.
    let long : n ≡ c + (n - c) = omega arith in
    let none = (IsDetermined-within rule c c (n - c) (omega arith)).0 (subst (λ m. IsDetermined r m c) long determined) in (
      e + (n - c),
      e,
      (omega arith, omega arith, omega arith),
      (IsDetermined-within rule e e (n - c) (omega arith)).1 (λ p l of. none p l (of.0, (omega arith, past (first_of r p) (first_of-below rule p l) (second_of r p) e (second_of-below rule p) (omega arith) of.1.1 c))),
      λ m k before. inl (⊎_elim (λ l. omega arith) (λ tie. omega (arith, tie.0)) before),
    ))
    (λ few. (n, c, (omega arith, few, omega arith), determined, λ m k before. before))
    (cases_lt e c)

-- above the finite ranks, once the windows with at most e letters before the letter were looked at, all were
pub IsFirstWindowOf-searched : {r : LocalRule} → IsRule r → (e : ℕ) → IsPast r (node_count r) e → (found : Option WindowAt)
    → IsFirstWindowOf r (HasBefore e 0) found → IsFirstWindowOf r (λ n c. c < n + 1) found
IsFirstWindowOf-searched rule e past None none = λ n c inside determined. let (n', c', has, also, _) = IsDetermined-fewer rule e n c past inside determined in none n' c' has also
IsFirstWindowOf-searched rule e past (Some w) first = record {
  determined = first.determined;
  least = λ n c inside before determined.
      let (n', c', has, also, sooner) = IsDetermined-fewer rule e n c past inside determined in
      first.least n' c' has (sooner w.n w.c before) also;
}
