-- A set of a family is minimal if and only if it isn't marked.
use Rattle.std.proofs.Common.{◌≡◌, ◌≢◌, ℕ, ◌<◌, ◌↔◌, List, Bool, IsTrue, length, slice_index, bit_and, refl, ap, arith, ◌==◌, ◌&&◌, not}
use Rattle.std.proofs.lemmas.Bool.Decides.{Decides-and, Decides-not, Decides-like, Decides-by_or, same_from_decides}
use Rattle.std.proofs.lemmas.Nat.Bits.{bit_at_and, same_from_bits}
use Rattle.word_image.proofs.Common.{list_any, Decides-eqb, get_or_default, bit_at, is_subset, is_minimal}
use Rattle.image_subsets.specs.Marks.{IsSetMarked, IsPart, AreCovers}

-- `is_subset` tests whether a set is part of another
is_subset-IsPart : (s x : ℕ) → IsTrue (is_subset s x) ↔ IsPart s x
is_subset-IsPart s x = Decides-like (is_subset s x)
    (λ same i. omega (arith, bit_at_and s x i, ap (λ n. bit_at n i) same))
    (λ part. same_from_bits (bit_and s x) s (λ i. omega (arith, bit_at_and s x i, part i)))
    (Decides-eqb (bit_and s x) s)

-- a set of the family is minimal if and only if it isn't marked, as a test of its mark says
pub is_minimal-marks : {sets rows : List ℕ} → AreCovers sets rows → (i : ℕ) → i < length sets
    → (marked : Bool) → (IsTrue marked ↔ IsSetMarked rows (slice_index sets i))
    → not marked ≡ is_minimal sets (slice_index sets i)
is_minimal-marks {sets} h i inside marked says =
    let x = slice_index sets i in
    let test : ℕ → Bool = λ t. not (t == x) && is_subset t x in
    let exact = h.marked x (h.within i inside) in
    let any = Decides-by_or test (λ t. (t ≢ x) × IsPart t x) (list_any test)
    (λ t. Decides-and (not (t == x)) (is_subset t x) (Decides-not (t == x) (Decides-eqb t x)) (is_subset-IsPart t x)) refl (λ _ _. refl) sets in
    ap not (same_from_decides marked (list_any test sets) says (grind (arith, get_or_default)))
