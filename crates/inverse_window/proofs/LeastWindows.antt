-- The first of all windows inside their words is the least determined one.
use Rattle.std.proofs.Common.{ℕ, ◌+◌, ◌-◌, ◌<◌, ◌↔◌, inl, inr, Option, Some, None, refl, ⊎_elim, arith, MatchOption, IsSome, option_map}
use Rattle.word_image.proofs.Common.{cases_eq, LocalRule, IsRule, IsDetermined, IsLeastDetermined}
use Rattle.tail_config.proofs.Common.{IsInjective}
use Rattle.tail_laws.proofs.Common.{IsInjective-window}
use Rattle.inverse_window.specs.declared.windows.WindowAt.{WindowAt}
use Rattle.inverse_window.specs.Starts.{HoldsFrom}
use Rattle.inverse_window.specs.FirstWindows.{IsFirstWindowOf, IsEarlier}
use Rattle.inverse_window.proofs.FirstWindowLaws.{AreWindows, IsFirstWindowOf-earlier, IsFirstWindowOf-start}

-- the windows whose letter stands before place i of the last node
abbrev pub IsBefore : ℕ → ℕ → ℕ → Type 0
IsBefore i n c = c < n + i

-- the first window, with one place more for its letter
pub IsFirstWindowOf-next : (r : LocalRule) (i : ℕ) (start : Option ℕ) (found next : Option WindowAt) → HoldsFrom start (λ n. IsDetermined r n (n + i))
    → IsEarlier found (option_map (λ n. record { n = n; c = n + i }) start) next → IsFirstWindowOf r (IsBefore i) found
    → IsFirstWindowOf r (IsBefore (i + 1)) next
IsFirstWindowOf-next r i start found next from earlier before =
    IsFirstWindowOf-earlier r (IsBefore i) (AreWindows (λ n. n) (λ n. n + i)) (IsBefore (i + 1))
    (λ n c among. ⊎_elim (λ same. inr (n, refl, same)) (λ other. inl (omega (arith, other))) (cases_eq c (n + i)))
    found _ next earlier before (IsFirstWindowOf-start r (λ n. n) (λ n. n + i) start (λ a n l. ⊎_elim (λ less. omega arith) (λ tie. omega (arith, tie.1))) from)

-- the last place is that of the last letter of the word
pub IsLeastDetermined-first : {r : LocalRule} → IsRule r → (found : Option WindowAt) → IsFirstWindowOf r (IsBefore (r.width - 1)) found
    → MatchOption found ((n c : ℕ) → ¬ IsDetermined r n c) (λ w. IsLeastDetermined r w.n w.c)
IsLeastDetermined-first rule None first = λ n c determined. first n c (omega (arith, determined.some, determined.inside, rule.shape.least_width)) determined
IsLeastDetermined-first rule (Some w) first = record {
  determined = first.determined;
  least = λ n c before determined. first.least n c (omega (arith, determined.some, determined.inside, rule.shape.least_width)) before determined;
}

-- there is a least determined window exactly where the rule is injective
pub IsInjective-least : {r : LocalRule} → IsRule r → (found : Option WindowAt)
    → MatchOption found ((n c : ℕ) → ¬ IsDetermined r n c) (λ w. IsLeastDetermined r w.n w.c)
    → IsSome found ↔ IsInjective r
IsInjective-least rule None none = (
  λ some. absurd cc,
  λ injective. let window = (IsInjective-window rule).0 injective in absurd (none window.0 window.1 window.2),
)
IsInjective-least rule (Some w) least = (λ some. (IsInjective-window rule).1 (w.n, w.c, least.determined), λ injective. refl)
