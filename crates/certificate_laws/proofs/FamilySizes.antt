-- The sets of a family are different, so there are at most as many as sets of nodes.
use Rattle.std.proofs.Common.{◌≡◌, ◌≢◌, ℕ, zero, suc, ◌+◌, ◌-◌, ◌^◌, ◌<◌, ◌≤◌, List, [], length, get_or, AllPairs, refl, ap, subst, arith, not}
use Rattle.std.proofs.lemmas.List.Filters.{length-filter_both}
use Rattle.std.proofs.lemmas.Map.Made.{IsDistinct-from_AllPairs}
use Rattle.std.proofs.lemmas.Map.Steps.{length-le_from_distinct_below}
use Rattle.std.proofs.lemmas.Map.Views.{Contains-from_any}
use Rattle.word_image.proofs.Common.{Decides-eqb, slice_get-get_or, pow-le-pow_right, LocalRule, IsRule, IsWord, node_count, IsLastSet, IsFamily, IsAscending, IsLeastWordOf, IsCoverList, is_cover, full_set, paired_at, paired_length}
use Rattle.search_laws.proofs.Common.{word_number, word_number-le, word_number-less}
use Rattle.certificate_laws.proofs.MetConditions.{IsLastSet-each}

-- each word of the list is one over k letters
abbrev AllWords : ℕ → List (List ℕ) → Type 0
AllWords k ws = (i : ℕ) → i < length ws → IsWord k (get_or ws i [])

-- in ascending words the next one has a greater number
word_number-next : {k : ℕ} (ws : List (List ℕ)) → IsAscending ws → AllWords k ws → (i : ℕ) → i + 1 < length ws
    → word_number k (get_or ws i []) < word_number k (get_or ws (i + 1) [])
word_number-next ws ascending words i l = grind (arith, word_number-less, slice_get-get_or)

-- of ascending words each later one has a greater number
word_number-later : {k : ℕ} (ws : List (List ℕ)) → IsAscending ws → AllWords k ws → (i g j : ℕ) → i + g + 1 ≡ j → j < length ws
    → word_number k (get_or ws i []) < word_number k (get_or ws j [])
word_number-later {k} ws ascending words i zero j e l =
    subst (λ (n : ℕ). word_number k (get_or ws i []) < word_number k (get_or ws n [])) (omega arith) (word_number-next ws ascending words i (omega arith))
word_number-later ws ascending words i (suc g) j e l =
    let m : ℕ = i + g + 1 in
    grind (arith, word_number-next, word_number-later ws ascending words i g m refl (omega arith))

-- the sets of a family are different
sets-apart : {r : LocalRule} {sets : List ℕ} → IsFamily r sets → AllPairs (λ s t. s ≢ t) sets
sets-apart {r} {sets} family i j d less within same =
    let ws : List (List ℕ) = family.words in
    let long : length sets ≡ length ws = paired_length (IsLeastWordOf r) sets ws family.each in
    let at : (n : ℕ) → n < length sets → IsLeastWordOf r (get_or sets n d) (get_or ws n []) = grind (arith, paired_at) in
    let first = at i (omega arith) in
    let second = at j within in
    let after = word_number-later ws family.ascending (λ n l. (at n (omega arith)).set_of.word) i (j - i - 1) j (omega arith) (omega arith) in
    let before = word_number-le r.states (get_or ws j []) (get_or ws i []) second.set_of.word first.set_of.word
    (second.least (get_or ws i []) (subst (IsLastSet r (get_or ws i [])) same first.set_of)) in
    omega arith

-- a family has at most 65,536 sets
length-family : {r : LocalRule} {sets : List ℕ} → IsRule r → IsFamily r sets → length sets ≤ 65536
length-family {r} {sets} rule family =
    let few = length-le_from_distinct_below sets (2 ^ node_count r) (IsDistinct-from_AllPairs Decides-eqb sets (sets-apart family)) (λ s any.
    (IsLastSet-each r sets family.words family.each s (Contains-from_any (λ x y same. (Decides-eqb x y).0 same) s sets any)).1.last.within) in
    grind (arith, pow-le-pow_right)

-- a cover list has at most 65,537 sets
pub length-IsCoverList : {r : LocalRule} {sets : List ℕ} → IsRule r → IsCoverList r sets → length sets ≤ 65537
length-IsCoverList {r} rule (family, is, same) = omega (arith, ap length same, length-filter_both (is_cover (full_set r) family) (λ s. not (is_cover (full_set r) family s)) (λ s. refl) family, length-family rule is)
