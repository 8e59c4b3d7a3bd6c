-- The least word of each set of a family: the empty word for the full set, and that of the parent followed by its letter.
use Rattle.std.proofs.Common.{◌≡◌, ℕ, zero, suc, ◌+◌, ◌*◌, ◌<◌, ◌≤◌, List, [], ◌∷◌, ◌++◌, length, get_or, slice_index, refl, sym, ap, ◌∙◌, subst, arith, ⊎_elim, add-one}
use Rattle.word_image.proofs.Common.{cases_eq, cases_lt, get_or_default, slice_get-get_or, LocalRule, IsRule, full_set, IsStep, IsLastSet, IsLeastWordOf, IsFamily, paired_at, paired_length, digits-lt, IsLastSet-full, IsLastSet-step}
use Rattle.search_laws.proofs.Common.{word_number, word_number-snoc, word_cmp-not_greater, word_number-le, word_number-less, Leads-induct, LeadsToSet, LeadsToSet-last, IsLastSet-leads}
use Rattle.image_subsets.specs.FamilyTrees.{IsLeastParent}

-- the word that a family has for the set at a place
abbrev family_word : {r : LocalRule} {sets : List ℕ} → IsFamily r sets → ℕ → List ℕ
family_word family i = get_or family.words i []

-- the word that a family has for the set at a place is the least one of its set
family_word-least : {r : LocalRule} {sets : List ℕ} → (family : IsFamily r sets) (i : ℕ) → i < length sets
    → IsLeastWordOf r (slice_index sets i) (family_word family i)
family_word-least {r} {sets} family i below = paired_at (IsLeastWordOf r) sets family.words i 0 [] family.each below

-- no word of a set has a lesser number than its least word
least_number : {r : LocalRule} {set : ℕ} {v u : List ℕ} → IsLeastWordOf r set v → IsLastSet r u set → word_number r.states v ≤ word_number r.states u
least_number {r} {v = v} {u = u} first last = word_number-le r.states v u first.set_of.word last.word (first.least u last)

-- the words of a family have ascending numbers
family_word-ascending : {r : LocalRule} {sets : List ℕ} → (family : IsFamily r sets) (p q : ℕ) → p ≤ q → q < length sets
    → word_number r.states (family_word family p) + q ≤ word_number r.states (family_word family q) + p
family_word-ascending {r} family p zero le below = let first : p ≡ 0 = omega (arith, le) in omega (arith, ap (λ i. word_number r.states (family_word family i)) first)
family_word-ascending {r} {sets} family p (suc q) le below =
    let words = family.words in
    let long = paired_length (IsLeastWordOf r) sets words family.each in
    let next = word_number-less r.states (family_word family q) (family_word family (q + 1))
    (family_word-least family q (omega (arith, below))).set_of.word (family_word-least family (q + 1) (omega (arith, below))).set_of.word
    (family.ascending q (family_word family q) (family_word family (q + 1))
    (slice_get-get_or words q [] (omega (arith, below, long))) (slice_get-get_or words (q + 1) [] (omega (arith, below, long)))) in
    ⊎_elim
    (λ (same : p ≡ suc q). omega (arith, ap (λ i. word_number r.states (family_word family i)) same))
    (λ other. omega (arith, rw add-one at next, family_word-ascending family p q (omega (arith, le, other)) (omega (arith, below))))
    (cases_eq p (suc q))

-- no word of the set has a lesser number than its word
family_word-le : {r : LocalRule} {sets : List ℕ} → (family : IsFamily r sets) (i : ℕ) → i < length sets → (u : List ℕ) (set : ℕ) → IsLastSet r u set
    → slice_index sets i ≡ set
    → word_number r.states (family_word family i) ≤ word_number r.states u
family_word-le {r} family i below u set last same = least_number (family_word-least family i below) (rw same last)

-- a number of two digits is at most another if its first digit is less, or equal and its last digit at most the other's
digits-le : (x y a b k : ℕ) → a < k → x ≤ y → (x ≡ y → a ≤ b) → x * k + a ≤ y * k + b
digits-le x y a b k digit le last =
    ⊎_elim (λ same. omega (arith, ap (λ z. z * k) same, last same))
    (λ other. omega (arith, digits-lt x y a b k digit (omega (arith, le, other)))) (cases_eq x y)

-- no word of the set has a lesser number than the word of the parent followed by its letter
parent-le : {r : LocalRule} {sets : List ℕ} {i p a : ℕ} → IsRule r → (family : IsFamily r sets) → i < length sets → IsLeastParent r sets i p a
    → (v : List ℕ) → IsLeastWordOf r (slice_index sets p) v → (u : List ℕ) (set : ℕ) → LeadsToSet r u set → set ≡ slice_index sets i
    → word_number r.states v * r.states + a + 1 ≤ word_number r.states u
parent-le {r} {sets} {i} {p} {a} rule family below parent v first =
    let k = r.states in
    let inside : p < length sets = omega (arith, parent.earlier) in
    let mine = least_number first (family_word-least family p inside).set_of in
    Leads-induct (λ u set. set ≡ slice_index sets i → word_number k v * k + a + 1 ≤ word_number k u)
    (λ same.
    let none = family_word-le family i below [] (full_set r) (IsLastSet-full r) (sym same) in
    absurd (omega (arith, none, family_word-ascending family p i (omega (arith, parent.earlier)) below, parent.earlier)))
    (λ w b s t before letter step _ same.
    let last = IsLastSet-leads rule before in
    omega (
      arith,
      word_number-snoc k w b,
      ⊎_elim
          (λ (q, within, stands).
          let here : slice_index sets q ≡ s = get_or_default sets q 0 s within ∙ stands in
          let from : IsStep r (slice_index sets q) b (slice_index sets i) = rw (here, ← same) step in
          let place : p ≤ q = parent.least_place q b within letter from in
          let its = family_word-le family q within w s last here in
          let later = family_word-ascending family p q place within in
          digits-le (word_number k v) (word_number k w) a b k parent.letter (omega (arith, mine, its, later, place))
          (λ one. parent.least_letter b letter (subst (λ j. IsStep r (slice_index sets j) b (slice_index sets i)) (omega (arith, one, mine, its, later, place)) from)))
          (λ (e, nothing, less, (z, within, stands)).
          let ends : i ≤ z = ⊎_elim (λ less. absurd (family.nonempty z less stands)) (λ le. omega (arith, le, below)) (cases_lt (z + 1) (length sets)) in
          let lesser : word_number k v < word_number k w = omega (
            arith,
            mine,
            parent.earlier,
            family_word-ascending family p i (omega (arith, parent.earlier)) below,
            family_word-ascending family i z ends within,
            family_word-le family z within e 0 nothing stands,
            word_number-less k e w nothing.word last.word less,
          ) in
          digits-le (word_number k v) (word_number k w) a b k parent.letter (omega (arith, lesser)) (λ one. omega (arith, one, lesser)))
          (family.all w s last),
    ))

-- the word of the parent followed by its letter is the least one of the set
pub IsLeastWordOf-parent : {r : LocalRule} {sets : List ℕ} {i p a : ℕ} → IsRule r → IsFamily r sets → i < length sets → IsLeastParent r sets i p a
    → (v : List ℕ) → IsLeastWordOf r (slice_index sets p) v → IsLeastWordOf r (slice_index sets i) (v ++ a ∷ [])
IsLeastWordOf-parent {r} {sets} {i} {p} {a} rule family below parent v first =
    let k = r.states in
    let set_of : IsLastSet r (v ++ a ∷ []) (slice_index sets i) =
    IsLastSet-step {set = slice_index sets p} {after = slice_index sets i} rule first.set_of parent.letter parent.step in
    record {
      set_of = set_of;
      least = λ u last. word_cmp-not_greater k (v ++ a ∷ []) u set_of.word last.word
          (omega (arith, word_number-snoc k v a, parent-le rule family below parent v first u (slice_index sets i) (LeadsToSet-last rule last) refl));
    }

-- the empty word is the least one of the full set
pub IsLeastWordOf-full : (r : LocalRule) → IsLeastWordOf r (full_set r) []
IsLeastWordOf-full r = record {
  set_of = IsLastSet-full r;
  least = λ u last. word_cmp-not_greater r.states [] u (IsLastSet-full r).word last.word (omega arith);
}
