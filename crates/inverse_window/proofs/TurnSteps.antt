-- The search for the first walk from a pair without the mark to the same pair with it, pair by pair.
use Rattle.std.proofs.Common.{◌≡◌, ℕ, ◌+◌, ◌<◌, ◌≤◌, List, length, map, Option, Some, None, ⊎_elim, arith, MatchOption}
use Rattle.word_image.proofs.Common.{cases_lt, length-map, LocalRule, IsRule, key_not_greater}
use Rattle.search_laws.proofs.Common.{uncode}
use Rattle.tail_laws.proofs.Common.{turn-some, IsTurn, IsFirstFound, IsFirstBelow-old, IsFirstFound-none}

-- the first walk found stays so with one more pair that has no walk of as few steps
pub IsFirstFound-later : {r : LocalRule} → IsRule r → (n most : ℕ) (found : Option (List ℕ))
    → MatchOption found (most ≡ 512) (λ steps. most ≡ length steps) → IsFirstFound (IsTurn r) n found
    → ((w : List (ℕ × ℕ)) → 0 < length w → length w ≤ most → ¬ IsTurn r n w) → (512 ≤ most → (w : List (ℕ × ℕ)) → 0 < length w → ¬ IsTurn r n w)
    → IsFirstFound (IsTurn r) (n + 1) found
IsFirstFound-later {r} rule n most None is none short all = IsFirstFound-none (IsTurn r) None none (λ w turn. all (omega arith) w (turn-some rule n w turn) turn)
IsFirstFound-later rule n most (Some old) is best short all =
    IsFirstBelow-old best (λ v turn. ⊎_elim
    (λ more. (key_not_greater (length (map (uncode 16) old)) (length v) _).1 (omega arith, λ same. absurd (omega arith)))
    (λ few. absurd (short v (turn-some rule n v turn) (omega (arith, few, is, length-map old (uncode 16))) turn))
    (cases_lt (length (map (uncode 16) old)) (length v)))
