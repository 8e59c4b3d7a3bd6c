-- The checker of certificates checks condition by condition. This file says what the result of checking one condition
-- means, and what the result of a search for the first number without a property means.
use Rattle.std.specs.Prelude.{Result, MatchResult, ℕ, Option, MatchOption}
use Rattle.cert_values.specs.Certificates.{Certificate}
use Rattle.cert_conditions.specs.declared.condition.Condition.{Condition}
use Rattle.cert_conditions.specs.declared.refusal.Refusal.{Refusal}
use Rattle.cert_conditions.specs.Conditions.{Holds}
use Rattle.cert_conditions.specs.Refusals.{IsBreach}
use Rattle.cert_conditions.specs.Breaches.{EachBelow, IsFirstBreach}

-- the result of checking one condition: it is met, or a refusal that names the place at which it isn't met
abbrev pub IsChecked : Certificate → Condition → Result Unit Refusal → Type 0
IsChecked c one result = MatchResult result (λ _. Holds c one) (IsBreach c one)

-- the first number below n for which `P` doesn't hold, or None if `P` holds for each number below n
abbrev pub FirstBreach : ℕ → (ℕ → Type 0) → Option ℕ → Type 0
FirstBreach n P found = MatchOption found (EachBelow n P) (IsFirstBreach n P)
