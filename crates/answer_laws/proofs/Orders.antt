-- The orders of words, of pairs of words and of splits: of two that come no later than each other both are one.
use Rattle.std.proofs.Common.{◌≡◌, ◌≢◌, ℕ, List, length, map, sym, ap, ◌∙◌, zip, nat_cmp, Less, Equal, Greater}
use Rattle.std.proofs.lemmas.Slice.Zip.{firsts-zip, seconds-zip}
use Rattle.word_image.proofs.Common.{slice_cmp, not_before, pair_cmp, pairs_cmp, pairs_cmp_total, then_equal, tied, word_cmp, word_cmp_total}
use Rattle.search_laws.proofs.Common.{one_word}
use Rattle.std.specs.FinMap.{slice_cmp-IsAntisymmetric}
use Rattle.std.proofs.lemmas.Map.Lookups.{exact_unsigned, exact_pairs}
use Rattle.tail_laws.proofs.Common.{splits_cmp_total}
use Rattle.tail_config.proofs.Common.{TailConfig, splits_cmp}

-- lists of letter pairs that compare equal are equal
letter_pairs-equal : (v w : List (ℕ × ℕ)) → slice_cmp pair_cmp v w ≡ Equal → v ≡ w
letter_pairs-equal = slice_cmp-IsAntisymmetric {R = pair_cmp} (exact_pairs nat_cmp nat_cmp exact_unsigned exact_unsigned)

-- words side by side are told by their letter pairs
zip-equal : (x y u v : List ℕ) → length x ≡ length y → length u ≡ length v → zip x y ≡ zip u v → (x ≡ u) × (y ≡ v)
zip-equal x y u v here there same = (
  sym (firsts-zip x y (sym here)) ∙ ap (map (λ (p : ℕ × ℕ). p.0)) same ∙ firsts-zip u v (sym there),
  sym (seconds-zip x y (sym here)) ∙ ap (map (λ (p : ℕ × ℕ). p.1)) same ∙ seconds-zip u v (sym there),
)

-- of two pairs of words of one length that come no later than each other both are one
pub one_pair : (x y u v : List ℕ) → length x ≡ length y → length u ≡ length v → pairs_cmp (zip x y) (zip u v) ≢ Greater
    → pairs_cmp (zip u v) (zip x y) ≢ Greater
    → (x ≡ u) × (y ≡ v)
one_pair x y u v first second here there =
    let one : pairs_cmp (zip x y) (zip u v) ≡ Equal = tied pairs_cmp_total (zip x y) (zip u v) here there in
    zip-equal x y u v first second
    (letter_pairs-equal (zip x y) (zip u v) (then_equal (nat_cmp (length (zip x y)) (length (zip u v))) (slice_cmp pair_cmp (zip x y) (zip u v)) one).1)

-- of two splits that come no later than each other the middles and the right periods are one
pub one_split : (x y u v : TailConfig) → length x.middle ≡ length y.middle → length x.right ≡ length y.right → length u.middle ≡ length v.middle
    → length u.right ≡ length v.right
    → splits_cmp (x, y) (u, v) ≢ Greater → splits_cmp (u, v) (x, y) ≢ Greater
    → ((x.middle ≡ u.middle) × (y.middle ≡ v.middle)) × ((x.right ≡ u.right) × (y.right ≡ v.right))
one_split x y u v middles rights middles' rights' here there =
    let one : splits_cmp (x, y) (u, v) ≡ Equal = tied splits_cmp_total (x, y) (u, v) here there in
    let first = then_equal _ _ one in
    let second = then_equal _ _ first.1 in
    let third = then_equal _ _ second.1 in (
      zip-equal x.middle y.middle u.middle v.middle middles middles' (letter_pairs-equal _ _ third.0),
      zip-equal x.right y.right u.right v.right rights rights' (letter_pairs-equal _ _ third.1),
    )

-- of two words of which neither comes before the other both are one
pub one_first : (v w : List ℕ) → word_cmp v w ≢ Less → word_cmp w v ≢ Less → v ≡ w
one_first v w here there = one_word v w (not_before word_cmp_total w v there) (not_before word_cmp_total v w here)
