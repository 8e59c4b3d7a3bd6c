-- Worked examples that need a proof: what some definitions hold of, and what they refuse.
use Rattle.std.proofs.Common.{◌≡◌, ◌≢◌, ℕ, zero, suc, ◌+◌, ◌^◌, ◌<◌, List, [], ◌∷◌, length, drop, replicate, refl, sym, ap, ◌∙◌, subst, arith, pos, negsuc, slice_index, nat_cmp, is_gt, Less, Greater, true≢false, get_or-drop}
use Rattle.word_image.proofs.Common.{ordering_then, nat_cmp_is, slice_cmp, length-replicate, All-head, All-replicate}
use Rattle.word_image.specs.LocalRules.{IsWord, word_of, value}
use Rattle.word_image.specs.Words.{image, IsOrphan, IsLeastOrphan, word_cmp}
use Rattle.word_image.specs.Rings.{IsTwins, IsLossyRing, IsFlux}
use Rattle.word_image.specs.Windows.{HaveOneImage, IsDetermined, IsLeastDetermined, IsRightAhead, IsLeastRightAhead}
use Rattle.word_image.specs.Sides.{IsLeftAhead}
use Rattle.word_image.specs.Graphs.{label}
use Rattle.word_image.specs.Ranks.{BeginTogether, EndTogether, IsRank, IsEndless}
use Rattle.word_image.specs.Erasure.{IsErasable}
use Rattle.word_image.specs.PairLists.{IsPairList}
use Rattle.word_image.specs.FirstPairs.{IsFirstOfRight, IsFirstOfLeft}
use Rattle.word_image.specs.Examples.{rule184, lossy_at_three, shift, stay, both, zero_rule}
use Rattle.word_image.proofs.laws.Values.{value-below, word_of-value}
use Rattle.word_image.proofs.laws.Words.{word_by_test}

-- what holds of the four words of two letters holds of each
each_of_four : (P : List ℕ → Type 0) → P (0 ∷ 0 ∷ []) → P (0 ∷ 1 ∷ []) → P (1 ∷ 0 ∷ []) → P (1 ∷ 1 ∷ []) → (x : List ℕ) → IsWord 2 x → length x ≡ 2
    → P x
each_of_four P p q s t x word long =
    let below : value 2 x < 2 ^ 2 = subst (λ n. value 2 x < 2 ^ n) long (value-below 2 x word) in
    subst P (ap (λ n. word_of 2 n (value 2 x)) (sym long) ∙ word_of-value 2 x word) (at (value 2 x) below)
  where
    at : (v : ℕ) → v < 4 → P (word_of 2 2 v)
    at zero h = p
    at (suc zero) h = q
    at (suc (suc zero)) h = s
    at (suc (suc (suc zero))) h = t
    at (suc (suc (suc (suc v)))) h = absurd (omega arith)

-- Rings: the words 0011 and 0101 are twins of rule 184, and 0 and 1 are none, since the ring 0 stays 0 and the ring 1 stays 1

twins-184 : IsTwins rule184 (0 ∷ 0 ∷ 1 ∷ 1 ∷ []) (0 ∷ 1 ∷ 0 ∷ 1 ∷ [])
twins-184 = grind arith

no_twins-184 : ¬ IsTwins rule184 (0 ∷ []) (1 ∷ [])
no_twins-184 twins = let letter = ap (λ w. slice_index w 0) twins.one_image in absurd (omega arith)

-- the ring 012 has the sum 3 and becomes 010, whose sum is 1

lossy-012 : IsLossyRing (λ a. a) lossy_at_three (0 ∷ 1 ∷ 2 ∷ [])
lossy-012 = grind arith

-- The shift: its image of two letters is the second one

image-shift : (x : List ℕ) → IsWord 2 x → length x ≡ 2 → image shift x ≡ drop 1 x
image-shift = each_of_four (λ x. image shift x ≡ drop 1 x) refl refl refl refl

-- under the shift two words with one image of one letter have the same second letter
same_second : {x y : List ℕ} → HaveOneImage shift 1 x y → drop 1 x ≡ drop 1 y
same_second {x} {y} h = sym (image-shift x h.first h.first_long) ∙ h.one_image ∙ image-shift y h.second h.second_long

-- the words 00 and 10 have one image
one_image-shift : HaveOneImage shift 1 (0 ∷ 0 ∷ []) (1 ∷ 0 ∷ [])
one_image-shift = grind arith

window-shift : IsDetermined shift 1 1
window-shift = grind (arith, get_or-drop, same_second)

no_window-shift : ¬ IsDetermined shift 1 0
no_window-shift determined = let same = determined.letter _ _ one_image-shift in absurd (omega arith)

least_window-shift : IsLeastDetermined shift 1 1
least_window-shift = grind (arith, window-shift, no_window-shift)

ahead-shift : IsLeastRightAhead shift 1
ahead-shift = grind (arith, get_or-drop, same_second)

-- read backwards, the rule that keeps each letter is the shift: the letter before the last one is determined
left_ahead-stay : IsLeftAhead stay 1
left_ahead-stay = grind arith

-- the words 00 and 01 begin with 0 and have one image under the rule that is 1 where both cells are
no_ahead-both : ¬ IsRightAhead both 1
no_ahead-both ahead = let same = ahead.letter (0 ∷ 0 ∷ []) (0 ∷ 1 ∷ []) one_image refl in absurd (omega arith)
  where
    one_image : HaveOneImage both 1 (0 ∷ 0 ∷ []) (0 ∷ 1 ∷ [])
    one_image = record {
      first = word_by_test 2 (0 ∷ 0 ∷ []) refl;
      second = word_by_test 2 (0 ∷ 1 ∷ []) refl;
      first_long = refl;
      second_long = refl;
      one_image = refl;
    }

-- the difference of each window is the flux over its first node less that over its second: 0 over the node 0, -1 over 1

flux-shift : IsFlux (λ a. a) shift (pos 0 ∷ negsuc 0 ∷ [])
flux-shift = grind arith

-- The backward rank of the nodes 0 and 1 is 0: two words of two letters with one image end with one letter

rank-shift : IsRank (EndTogether shift 0 1) 0
rank-shift = record {
  holds = record {
    x = 0 ∷ [];
    y = 1 ∷ [];
    one_image = record {
      first = word_by_test 2 (0 ∷ []) refl;
      second = word_by_test 2 (1 ∷ []) refl;
      first_long = refl;
      second_long = refl;
      one_image = refl;
    };
    first = refl;
    second = refl;
  };
  no_more = λ h. let same = sym h.first ∙ ap (value 2) (same_second h.one_image) ∙ h.second in omega arith;
}

-- The forward rank of a node and itself is endless

endless-shift : IsEndless (BeginTogether shift 0 0)
endless-shift n =
    let zeros : List ℕ = replicate (suc n) 0 in
    let word : IsWord 2 zeros = All-replicate (λ a. a < 2) (suc n) 0 (omega arith) in
    let long : length zeros ≡ n + 1 = omega (arith, length-replicate {A = ℕ} (suc n) 0) in
    record {
      x = zeros;
      y = zeros;
      one_image = record { first = word; second = word; first_long = long; second_long = long; one_image = refl };
      first = refl;
      second = refl;
    }

-- The words 000 and 010 become 00 under the rule that is 1 where both cells are, and begin and end with 0

erasable-both : IsErasable both (0 ∷ 0 ∷ 0 ∷ []) (0 ∷ 1 ∷ 0 ∷ [])
erasable-both = grind arith

-- The letters 0 and 1 lead from the node 0 with the label 0: to the pair of 0 and 1, whose number is 1

first_of_right-both : IsFirstOfRight both 1
first_of_right-both = grind arith

-- From the nodes 0 and 1 the letter 0 leads with the label 0

first_of_left-shift : IsFirstOfLeft shift 1
first_of_left-shift = grind arith

-- The shift has no first pair of the right, since each label is the letter: the empty list of pairs proves that it is surjective

label-shift : (u a : ℕ) → u < 2 → a < 2 → label shift u a ≡ a
label-shift zero zero h l = refl
label-shift zero (suc zero) h l = refl
label-shift (suc zero) zero h l = refl
label-shift (suc zero) (suc zero) h l = refl
label-shift u (suc (suc a)) h l = absurd (omega arith)
label-shift (suc (suc u)) a h l = absurd (omega arith)

pairs-shift : IsPairList shift []
pairs-shift = grind arith

-- The word 1 is the least orphan of the rule that is 0 everywhere: the words before it are the empty one and 0

image-zero_rule : (x : List ℕ) → IsWord 2 x → length x ≡ 2 → image zero_rule x ≡ 0 ∷ []
image-zero_rule = each_of_four (λ x. image zero_rule x ≡ 0 ∷ []) refl refl refl refl

orphan-zero_rule : IsOrphan zero_rule (1 ∷ [])
orphan-zero_rule = grind arith

least_orphan-zero_rule : IsLeastOrphan zero_rule (1 ∷ [])
least_orphan-zero_rule = record { orphan = orphan-zero_rule; least = least }
  where
    least : (v : List ℕ) → IsOrphan zero_rule v → word_cmp (1 ∷ []) v ≢ Greater
    least [] orphan greater =
        orphan.none (0 ∷ []) (record { word = word_by_test 2 (0 ∷ []) refl; long = refl; maps = refl })
    least (zero ∷ []) orphan greater =
        orphan.none (0 ∷ 0 ∷ []) (record { word = word_by_test 2 (0 ∷ 0 ∷ []) refl; long = refl; maps = refl })
    least (suc zero ∷ []) orphan greater = absurd (true≢false (ap is_gt (sym greater)))
    least (suc (suc a) ∷ []) orphan greater = let letter : suc (suc a) < 2 = All-head (λ b. b < 2) (suc (suc a)) [] orphan.word in omega arith
    least (a ∷ b ∷ v) orphan greater =
        let shorter : Less ≡ nat_cmp 1 (length (a ∷ b ∷ v)) = nat_cmp_is 1 (length (a ∷ b ∷ v)) Less (omega arith) in
        absurd (true≢false (ap is_gt (sym greater) ∙ ap (λ o. is_gt (ordering_then o (slice_cmp nat_cmp (1 ∷ []) (a ∷ b ∷ v)))) (sym shorter)))
