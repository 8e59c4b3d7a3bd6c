-- The first list of letter pairs that the numbers below n have, number by number, and in bytes: a letter pair (a, b) is the byte 16 a + b.
use Rattle.std.proofs.lemmas.Grind.{common_steps}
use Rattle.std.proofs.Common.{◌≡◌, ◌≢◌, ℕ, ◌+◌, ◌/◌, ◌%◌, List, map, Option, Some, None, if◌then◌else◌, subst, ⊎_elim, arith, MatchOption, is_lt, Ordering, Less, Equal, Greater}
use Rattle.std.proofs.lemmas.Simd.{map-map}
use Rattle.word_image.proofs.Common.{cases_eq, word_cmp, pairs_cmp, pairs_cmp_total}
use Rattle.search_laws.proofs.Common.{pairs_cmp-uncode, uncode}
use Rattle.tail_laws.specs.FirstLists.{IsLeastOf, NoneBelow, IsFirstBelow, IsFirstFound}

-- where no number below n has a list, and n has none, no number up to n has one
NoneBelow-none : {Has : ℕ → List (ℕ × ℕ) → Type 0} {n : ℕ} → NoneBelow Has n → ((v : List (ℕ × ℕ)) → ¬ Has n v) → NoneBelow Has (n + 1)
NoneBelow-none {Has} {n} before none p v l has = ⊎_elim (λ same. none v (subst (λ q. Has q v) same has)) (λ other. before p v (omega (arith, other)) has) (cases_eq p n)

-- the first list so far stays the first, where the number n has none that comes before it
pub IsFirstBelow-old : {Has : ℕ → List (ℕ × ℕ) → Type 0} {n : ℕ} {w : List (ℕ × ℕ)} → IsFirstBelow Has n w
    → ((v : List (ℕ × ℕ)) → Has n v → pairs_cmp w v ≢ Greater) → IsFirstBelow Has (n + 1) w
IsFirstBelow-old best here = grind arith

-- the earlier of the first so far and the first of the number n is the first up to n
IsFirstBelow-earlier : {Has : ℕ → List (ℕ × ℕ) → Type 0} {n : ℕ} (old other : List ℕ) → IsFirstBelow Has n (map (uncode 16) old)
    → IsLeastOf Has n (map (uncode 16) other)
    → (o : Ordering) → pairs_cmp (map (uncode 16) other) (map (uncode 16) old) ≡ o
    → IsFirstBelow Has (n + 1) (map (uncode 16) (if is_lt o then other else old))
IsFirstBelow-earlier old other best least Less is = grind (arith, pairs_cmp_total)
IsFirstBelow-earlier old other best least Equal is = grind (arith, pairs_cmp_total)
IsFirstBelow-earlier old other best least Greater is = grind (arith, pairs_cmp_total)

-- the first list found up to n, where the number n has some list
pub IsFirstFound-next : {Has : ℕ → List (ℕ × ℕ) → Type 0} {n : ℕ} (found : Option (List ℕ)) (other steps : List ℕ)
    → MatchOption found (steps ≡ other) (λ old. steps ≡ (if is_lt (word_cmp other old) then other else old))
    → IsFirstFound Has n found → IsLeastOf Has n (map (uncode 16) other) → IsFirstBelow Has (n + 1) (map (uncode 16) steps)
IsFirstFound-next None other steps is none least = grind arith
IsFirstFound-next (Some old) other steps is best least =
    grind (arith, common_steps, pairs_cmp-uncode, IsFirstBelow-earlier)

-- the first list found so far stays so, where the number n has none
pub IsFirstFound-none : (Has : ℕ → List (ℕ × ℕ) → Type 0) {n : ℕ} → (found : Option (List ℕ)) → IsFirstFound Has n found
    → ((abs : List (ℕ × ℕ)) → ¬ Has n abs) → IsFirstFound Has (n + 1) found
IsFirstFound-none Has None before none = NoneBelow-none before none
IsFirstFound-none Has (Some old) best none = IsFirstBelow-old best (λ v has. absurd (none v has))

-- what holds of the two words of letter pairs holds of those that their bytes spell
pub spelled_pair : (P : List ℕ → List ℕ → Type 0) {bytes x y : List ℕ} (steps : List ℕ) → bytes ≡ steps → x ≡ map (λ step. step / 16) bytes
    → y ≡ map (λ step. step % 16) bytes
    → P (map (λ p. p.0) (map (uncode 16) steps)) (map (λ p. p.1) (map (uncode 16) steps)) → P x y
spelled_pair P steps same first second holds = grind (arith, map-map)
