-- A set of nodes contains a listed set exactly where it is listed, or contains one without one of its nodes.
use Rattle.std.proofs.Common.{◌≡◌, ℕ, ◌+◌, ◌*◌, ◌%◌, ◌^◌, ◌<◌, ◌≤◌, ◌↔◌, ◌⊎◌, inl, inr, List, Contains, bit_and, w16, ap, subst, ◌∙◌, ⊎_elim, arith}
use Rattle.std.proofs.lemmas.Nat.Bits.{bit_at_and, bit_at_clear_same, bit_at_clear_other, same_from_bits, same_from_bits_below}
use Rattle.std.specs.Int.Bits.{and_self}
use Rattle.word_image.proofs.Common.{bit_at, bit_not, cases_eq, and_le_l, and_le_r}
use Rattle.pair_laws.proofs.Common.{differ_below}
use Rattle.cert_conditions.proofs.Common.{HasPart}
use Rattle.cert_conditions.proofs.laws.Parts.{part-of_part}
use Rattle.cert_check.specs.Rows.{IsMarked, AreMarked, without}

-- a set without a node is a part of it
without-part : (s n : ℕ) → bit_and (without s n) s ≡ without s n
without-part s n =
    let m : ℕ = bit_not w16 (1 * 2 ^ n % 2 ^ 16) in
    same_from_bits (bit_and (bit_and s m) s) (bit_and s m) (λ i. omega (arith, bit_at_and (bit_and s m) s i, bit_at_and s m i))

-- a part has no other bit
part-bit : (t s i : ℕ) → bit_and t s ≡ t → bit_at t i ≤ bit_at s i
part-bit t s i part = let e : bit_at (bit_and t s) i ≡ bit_at t i = ap (λ n. bit_at n i) part in omega (arith, bit_at_and t s i)

-- a set each of whose bits is one of another's is a part of it
bits-part : (t s : ℕ) → t < 2 ^ 16 → ((i : ℕ) → i < 16 → bit_at t i ≤ bit_at s i) → bit_and t s ≡ t
bits-part t s small bits = same_from_bits_below 16 (bit_and t s) t (omega (arith, and_le_l t s)) small (λ i l. omega (arith, bit_at_and t s i, bits i l))

-- a set without a node that it has is less
without-less : (s n : ℕ) → n < 16 → bit_at s n ≡ 1 → without s n < s
without-less s n l some =
    ⊎_elim
    (λ same. let e : bit_at (without s n) n ≡ bit_at s n = ap (λ x. bit_at x n) same in absurd (omega (arith, bit_at_clear_same w16 s n l)))
    (λ other. omega (arith, and_le_l s (bit_not w16 (1 * 2 ^ n % 2 ^ 16))))
    (cases_eq (without s n) s)

-- a set that contains a listed one is listed, or contains one without one of its nodes
pub HasPart-split : (sets : List ℕ) (s : ℕ) → s < 2 ^ 16 → HasPart sets s
    → Contains sets s ⊎ ((n : ℕ) × (n < 16) × (without s n < s) × HasPart sets (without s n))
HasPart-split sets s small (t, listed, part) =
    let less : t ≤ s = omega (arith, and_le_r t s) in
    ⊎_elim
    (λ all. inl (subst (Contains sets) (same_from_bits_below 16 t s (omega arith) small all) listed))
    (λ (n, l, differ).
    let here = part-bit t s n part in
    let some : bit_at s n ≡ 1 = omega arith in
    inr (
      n,
      l,
      without-less s n l some,
      (
        t,
        listed,
        bits-part t (without s n) (omega arith) (λ i below.
            ⊎_elim
            (λ same. let zeroth : bit_at t i ≡ 0 = ap (bit_at t) same ∙ (omega arith) in omega arith)
            (λ other. omega (arith, part-bit t s i part, bit_at_clear_other w16 s n l i below other))
            (cases_eq i n)),
      ),
    ))
    (differ_below (bit_at t) (bit_at s) 16)

-- the sets before one are marked that contain a listed one
abbrev AreAbove : List ℕ → List ℕ → ℕ → Type 0
AreAbove sets above i = (s : ℕ) → IsMarked above s ↔ ((s < i) × HasPart sets s)

-- the test of the next: it is listed, or marked without a node
abbrev IsAbove : List ℕ → List ℕ → ℕ → Type 0
IsAbove listed above i = IsMarked listed i ⊎ ((n : ℕ) × (n < 16) × IsMarked above (without i n))

-- the test of the next set is passed exactly where the set contains a listed one
IsAbove-part : (sets listed above : List ℕ) (i : ℕ) → i < 2 ^ 16 → AreMarked listed sets → AreAbove sets above i
    → IsAbove listed above i ↔ HasPart sets i
IsAbove-part sets listed above i small marked before = (
  (λ test. ⊎_elim
      (λ some. (i, (marked i).0 some, and_self i))
      (λ (n, l, some). let (less, (t, listed, part)) = (before (without i n)).0 some in (t, listed, part-of_part t (without i n) i part (without-part i n)))
      test),
  (λ kept. ⊎_elim
      (λ one. inl ((marked i).1 one))
      (λ (n, l, less, part). inr (n, l, (before (without i n)).1 (less, part)))
      (HasPart-split sets i small kept)),
)

-- the next set is marked exactly where the test holds
pub above_next : (sets listed above after : List ℕ) (i : ℕ) → i < 2 ^ 16 → AreMarked listed sets → AreAbove sets above i
    → ((s : ℕ) → IsMarked after s ↔ (((s ≡ i) × IsAbove listed above i) ⊎ IsMarked above s)) → AreAbove sets after (i + 1)
above_next sets listed above after i small marked before more s =
    let test = IsAbove-part sets listed above i small marked before in (
      (λ some. ⊎_elim
          (λ (same, is). (omega arith, rw same (test.0 is)))
          (λ old. let (l, is) = (before s).0 old in (omega arith, is))
          ((more s).0 some)),
      (λ (l, is). (more s).1 (⊎_elim (λ same. inl (same, test.1 (rw same at is))) (λ other. inr ((before s).1 (omega arith, is))) (cases_eq s i))),
    )
