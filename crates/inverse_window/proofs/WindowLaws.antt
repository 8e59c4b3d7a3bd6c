-- Which windows are determined, by pairs of nodes: with c letters of the image before the letter c of the word, and with all of them before it.
use Rattle.std.proofs.Common.{◌≡◌, ℕ, zero, ◌+◌, ◌-◌, ◌<◌, ◌≤◌, ◌↔◌, min, inl, inr, List, slice_index, replicate, ap, ◌∙◌, ⊎_elim, arith}
use Rattle.word_image.proofs.Common.{cases_lt, LocalRule, IsRule, IsWord, value, pair_of, pair_count, node_count, node_letter, IsRank, IsDetermined, decide_both, get_or-replicate, length-replicate, All-replicate, word_of-value, value-node}
use Rattle.word_image.specs.declared.side.Side.{Side}
use Rattle.word_image.specs.declared.side.Side.TheVariants.{Right, Left}
use Rattle.pair_laws.proofs.Common.{Together-zero, Together-less, first_of-pair_of, second_of-pair_of, pair_of-below, first_of-below, second_of-below, Together-decide}
use Rattle.pair_laws.proofs.Windows.{IsDetermined-pairs}
use Rattle.inverse_window.specs.FirstWindows.{PairDiffersAt, PairBegins, PairEnds, EndsFor, NoneHolds}

-- some pair differs at each letter: the node of zeros and the node of ones
PairDiffersAt-some : {r : LocalRule} → IsRule r → (i : ℕ) → i < r.width - 1 → (p : ℕ) × (p < pair_count r) × PairDiffersAt r i p
PairDiffersAt-some {r} rule i within =
    let states : 2 ≤ r.states = rule.shape.least_states in
    let node : (a : ℕ) → a < r.states → (u : ℕ) × (u < node_count r) × (node_letter r u i ≡ a) = λ a l.
    let w : List ℕ = replicate (r.width - 1) a in
    let word : IsWord r.states w = All-replicate (λ c. c < r.states) (r.width - 1) a l in
    let letters = rw (length-replicate (r.width - 1) a) at (word_of-value r.states w word) in
    (value r.states w, value-node r w word (length-replicate (r.width - 1) a), ap (λ z. slice_index z i) letters ∙ get_or-replicate (r.width - 1) i a 0 within) in
    let (u, hu, zeros) = node 0 (omega arith) in
    let (v, hv, ones) = node 1 (omega arith) in
    (pair_of r u v, pair_of-below r u v hu hv, rw (first_of-pair_of r u v hv, second_of-pair_of r u v hv, zeros, ones) (λ same. absurd (omega arith)))

-- no pair differs at letter i, ends together for j and begins together for l
abbrev pub NoPairDiffers : LocalRule → ℕ → ℕ → ℕ → Type 0
NoPairDiffers r i j l = (p : ℕ) → p < pair_count r → PairDiffersAt r i p → PairEnds r p j → ¬ PairBegins r p l

-- some pair differs at a letter, and every pair ends and begins together for 0
NoPairDiffers-some : {r : LocalRule} → IsRule r → (i j l : ℕ) → i < r.width - 1 → NoPairDiffers r i j l → 1 ≤ j + l
NoPairDiffers-some {r} rule i zero zero within apart =
    let (p, below, differ) = PairDiffersAt-some rule i within in
    let none = λ (side : Side). Together-zero side r _ _ (first_of-below rule p below) (second_of-below rule p) in
    absurd (apart p below differ (none Left) (none Right))
NoPairDiffers-some rule i j l within apart = omega arith

-- where j is the lesser of n and c, and the letter c of a word is letter i of its node at j, this says that (n, c) is determined
pub IsDetermined-parts : {r : LocalRule} → IsRule r → (i j l n c : ℕ) → j + i ≡ c → j + l ≡ n → min c n ≡ j → i < r.width - 1
    → IsDetermined r n c ↔ NoPairDiffers r i j l
IsDetermined-parts {r} rule i j l n c place long least within =
    let letter : c - j ≡ i = omega arith in
    let rest : n - j ≡ l = omega arith in
    let pairs = rw (least, letter, rest) at (IsDetermined-pairs rule n c) in
    (λ h. (pairs.0 h).2, λ apart. let some = NoPairDiffers-some rule i j l within apart in pairs.1 (omega arith, omega arith, apart))

-- n letters of the image past the letter c of the word, and c before it: no pair that differs at its first letter ends together for c and begins together for n
pub IsDetermined-within : {r : LocalRule} → IsRule r → (e c n : ℕ) → c ≤ e
    → IsDetermined r (c + n) c ↔ NoneHolds (pair_count r) (λ p. PairDiffersAt r 0 p × EndsFor r e p c) (PairBegins r) n
IsDetermined-within {r} rule e c n within =
    let wide : 2 ≤ r.width = rule.shape.least_width in
    let parts = IsDetermined-parts rule 0 c n (c + n) c (omega arith) (omega arith) (omega arith) (omega arith) in
    (λ h p l of. parts.0 h p l of.0 of.1.1, λ none. parts.1 (λ p l differ ends. none p l (differ, (within, ends))))

-- all letters of the image before a letter of the last node: no pair that differs at it ends together for them
pub IsDetermined-past : {r : LocalRule} → IsRule r → (i n : ℕ) → i < r.width - 1
    → IsDetermined r n (n + i) ↔ NoneHolds (pair_count r) (PairDiffersAt r i) (PairEnds r) n
IsDetermined-past {r} rule i n within =
    let parts = IsDetermined-parts rule i n 0 n (n + i) (omega arith) (omega arith) (omega arith) within in (
      λ h p l differ ends. parts.0 h p l differ ends (Together-zero Right r _ _ (first_of-below rule p l) (second_of-below rule p)),
      λ none. parts.1 (λ p l differ ends begins. none p l differ ends),
    )

-- the pairs that end together for c, counted to e, are those that do for more, and those that do for c and no more
pub NoneHolds-split : {r : LocalRule} → IsRule r → (e c n : ℕ)
    → NoneHolds (pair_count r) (λ p. PairDiffersAt r 0 p × EndsFor r e p c) (PairBegins r) n
    ↔ (NoneHolds (pair_count r) (λ p. PairDiffersAt r 0 p × EndsFor r e p (c + 1)) (PairBegins r) n × NoneHolds (pair_count r) (λ p. PairDiffersAt r 0 p × IsRank (EndsFor r e p) c) (PairBegins r) n)
NoneHolds-split rule e c n = (
  λ none. (
    λ p l of. none p l (of.0, (omega (arith, of.1.0), Together-less Left rule _ _ c _ (omega arith) of.1.1)),
    λ p l of. none p l (of.0, of.1.holds),
  ),
  λ none p l of. ⊎_elim (λ more. none.0 p l (of.0, more)) (λ last. none.1 p l (of.0, record { holds = of.1; no_more = last }))
      (decide_both (⊎_elim (λ more. inr (λ most. omega arith)) inl (cases_lt e (c + 1))) (Together-decide Left rule (c + 1) _ _ (first_of-below rule p l) (second_of-below rule p))),
)
