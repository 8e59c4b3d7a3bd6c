-- Marks on the sets that contain another set, one node more at a time.
use Rattle.std.proofs.Common.{◌≡◌, ◌≢◌, ℕ, ◌+◌, ◌-◌, ◌*◌, ◌/◌, ◌%◌, ◌^◌, ◌<◌, ◌≤◌, ◌↔◌, ◌⊎◌, inl, inr, List, length, slice_index, slice_set, take, drop, ◌++◌, IsBitSet, bit_and, bit_or, ap, ◌∙◌, subst, arith, ⊎_elim, w16}
use Rattle.std.proofs.Math.Pow.{pow-lt, pow_mono}
use Rattle.std.proofs.lemmas.Nat.Bits.{and_pow, bit_at_and, bit_at_not, bit_at_above, bit_at-pow_same, bit_at-pow_other, same_from_bits}
use Rattle.word_image.proofs.Common.{bit_at, cases_eq, cases_lt, get_or_default, take-append_seam, and-not, and_comm, one_shl, some_below, bit_at-IsBitSet}
use Rattle.pair_laws.proofs.Common.{HasBit-or}
use Rattle.image_subsets.specs.Marks.{IsSetMarked, IsPart, HoldsWithout, IsSpreadTo, AreListed, ContainsBy, AreMarksTo, AreAbove, AreBeyond, HoldsSmaller}

-- a set without one of its nodes lacks this node and has its other nodes
without-bit : (x u i : ℕ) → x < 2 ^ 16 → u < 16 → IsBitSet x u
    → ((i ≡ u) × (bit_at (x - 2 ^ u) i ≡ 0)) ⊎ ((i ≢ u) × (bit_at (x - 2 ^ u) i ≡ bit_at x i))
without-bit x u i small node has =
    let one : bit_at x u ≡ 1 = (bit_at-IsBitSet x u).0 has in
    let minus : x - 2 ^ u ≡ bit_and (65535 - 2 ^ u) x =
    omega (arith, and-not 16 (2 ^ u) x (pow-lt node) small, and_comm (2 ^ u) x, and_pow x u, ap (λ b. b * 2 ^ u) one) in
    let both = bit_at_and (65535 - 2 ^ u) x i in
    rw minus (grind (arith, bit_at_not w16 (2 ^ u) i (pow-lt node), bit_at-pow_same u, bit_at-pow_other u i, bit_at_above x 16 i small))

-- sets that lack the node keep their marks, so that the rows may be the rows from which marks are spread
pub HoldsWithout-same : {u n : ℕ} {old now : List ℕ} → IsSpreadTo u n old old now → u < 16 → (x : ℕ) → x < 2 ^ 16
    → HoldsWithout now u x ↔ HoldsWithout old u x
HoldsWithout-same h node x small = grind (arith, without-bit, bit_at-IsBitSet)

-- the marks of one row more are spread
pub IsSpreadTo-row : {u i : ℕ} (more : ℕ) {others old now : List ℕ} → IsSpreadTo u (64 * i) others old now → i < length now
    → ((b : ℕ) → b < 64 → (IsBitSet more b ↔ HoldsWithout others u (64 * i + b)))
    → IsSpreadTo u (64 * (i + 1)) others old (slice_set now i (bit_or (slice_index now i) more))
IsSpreadTo-row {u} {i} more {others} {now = now} h inside exact = record {
  marked = λ x.
      let written = HasBit-or now i more inside (x / 64) (x % 64) in
      let before = h.marked x in
      let here = exact (x % 64) (omega arith) in (
        (λ marked. ⊎_elim
            (λ (row, bit). inr (omega (arith, row), subst (HoldsWithout others u) (omega (arith, row)) (here.0 bit)))
            (λ old. ⊎_elim (λ first. inl first) (λ (less, holds). inr (omega (arith, less), holds)) (before.0 old))
            (written.0 marked)),
        (λ either. written.1 (⊎_elim
            (λ old. inr (before.1 (inl old)))
            (λ (less, holds). ⊎_elim
            (λ (earlier : x < 64 * i). inr (before.1 (inr (earlier, holds))))
            (λ past. let row : x / 64 ≡ i = omega (arith, past, less) in inl (row, here.1 (subst (HoldsWithout others u) (omega (arith, row)) holds)))
            (cases_lt x (64 * i)))
            either)),
      );
}

-- at the beginning only the sets of the list are marked
pub AreMarksTo-start : (sets : List ℕ) (n : ℕ) (rows : List ℕ) → AreListed sets n rows → AreMarksTo sets n 0 rows
AreMarksTo-start sets n rows h x below = (
  grind (arith, get_or_default),
  (λ (i, inside, contains).
      let same = same_from_bits (slice_index sets i) x (λ v. (contains v).1 (omega arith)) in
      (h x below).1 (i, inside, get_or_default sets i x 0 inside ∙ same)),
)

-- x contains s by nodes up to u if and only if it does so by nodes below u, or it has node u and does so without u
ContainsBy-next : (s x u : ℕ) → x < 2 ^ 16 → u < 16 → ContainsBy (u + 1) s x ↔ (ContainsBy u s x ⊎ (IsBitSet x u × ContainsBy u s (x - 2 ^ u)))
ContainsBy-next s x u small node = (
  (λ h. ⊎_elim
      (λ same. inl (λ i. grind arith))
      (grind (arith, bit_at-IsBitSet, without-bit))
      (cases_eq (bit_at s u) (bit_at x u))),
  (λ either. grind (arith, without-bit)),
)

-- the marks of one node more are spread
pub AreMarksTo-next : (sets : List ℕ) (n u : ℕ) (old new : List ℕ) (count : ℕ) → n ≤ 16 → u < n → 2 ^ n ≤ count → IsSpreadTo u count old old new
    → AreMarksTo sets n u old → AreMarksTo sets n (u + 1) new
AreMarksTo-next sets n u old new count few node all spread marks x below =
    let next = λ (j : ℕ). ContainsBy-next (slice_index sets j) x u (omega (arith, pow_mono few)) (omega arith) in (
      (λ marked. ⊎_elim
          (λ before. let (j, inside, contains) = (marks x below).0 before in (j, inside, (next j).1 (inl contains)))
          (λ (_, (has, lower)). let (j, inside, contains) = (marks (x - 2 ^ u) (omega arith)).0 lower in (j, inside, (next j).1 (inr (has, contains))))
          ((spread.marked x).0 marked)),
      (λ (j, inside, contains). (spread.marked x).1 (⊎_elim
          (λ before. inl ((marks x below).1 (j, inside, before)))
          (λ (has, lower). inr (omega arith, (has, (marks (x - 2 ^ u) (omega arith)).1 (j, inside, lower))))
          ((next j).0 contains))),
    )

-- a node of x that another part of x lacks
lacking : (n s x : ℕ) → x < 2 ^ n → IsPart s x → s ≢ x → (u : ℕ) × (u < n) × (bit_at s u < bit_at x u)
lacking n s x small part other = ⊎_elim
    (λ found. found)
    (λ none. absurd (other (same_from_bits s x (λ i. grind (arith, cases_lt i n, none i, part i, bit_at_above x n i small)))))
    (some_below (λ u. bit_at s u < bit_at x u)
    (λ u. ⊎_elim (λ less. inl less) (λ le. inr (λ less. omega (arith, le, less))) (cases_lt (bit_at s u) (bit_at x u))) n)

-- a set contains another set of the list if and only if, without some node, it contains a set of the list
pub AreBeyond-above : (sets above rows : List ℕ) {n : ℕ} → n ≤ 16 → AreAbove sets n above
    → ((x : ℕ) → x < 2 ^ n → (IsSetMarked rows x ↔ HoldsSmaller above n x)) → AreBeyond sets n rows
AreBeyond-above sets above rows {n} few marked exact x below =
    let small : x < 2 ^ 16 = omega (arith, pow_mono few) in
    let smaller : (u : ℕ) → x - 2 ^ u < 2 ^ n = λ u. omega arith in (
      grind (arith, without-bit, bit_at-IsBitSet),
      (λ (j, inside, other, part).
          let (u, node, less) = lacking n (slice_index sets j) x below part other in
          let has = (bit_at-IsBitSet x u).1 (omega arith) in
          (exact x below).1 (
            u,
            node,
            (
              has,
              (marked (x - 2 ^ u) (smaller u)).1 (
                j,
                inside,
                λ i. grind (arith, without-bit x u i small (omega (arith, node, few)) has, bit_at_above x n i below),
              ),
            ),
          )),
    )

-- a list that was lent whole and is written back
pub written_back : (new old : List ℕ) (len : ℕ) → length new ≡ len → take len (new ++ drop (length new) old) ≡ new
written_back new old len long = rw (← long) (take-append_seam new (drop (length new) old))

-- the rows have a mark for each set of n nodes
pub rows_room : (n : ℕ) → n ≤ 16 → 2 ^ n ≤ 64 * ((1 * 2 ^ n % 2 ^ 64 + 64 - 1) / 64)
rows_room n few = omega (arith, one_shl n 64 (omega (arith, few)))
