-- A list of different sets with a mark on each, one set more at a time, and emptied.
use Rattle.std.proofs.lemmas.Grind.{common_steps}
use Rattle.std.proofs.Common.{Bool, true, false, ◌≡◌, ◌≢◌, ℕ, ◌*◌, ◌/◌, ◌%◌, ◌^◌, ◌<◌, ◌≤◌, ◌↔◌, ◌⊎◌, inl, inr, List, [], ◌∷◌, ◌++◌, length, replicate, slice_index, slice_set, Contains, bit_or, refl, sym, ap, ◌∙◌, subst, arith, ⊎_elim, length-set}
use Rattle.std.proofs.lemmas.List.Quantifiers.{all_pairs_push}
use Rattle.std.proofs.lemmas.Map.Made.{IsDistinct-from_AllPairs}
use Rattle.std.proofs.lemmas.Map.Steps.{length-le_from_distinct_below}
use Rattle.std.proofs.lemmas.Map.Views.{Contains-from_any}
use Rattle.word_image.proofs.Common.{Decides-eqb, length_push, length-replicate, get_or_default, Contains-push, Contains-append_left, Contains-push_cases, All-nil, All-push, All-contains}
use Rattle.pair_laws.proofs.Common.{HasBit-none}
use Rattle.image_subsets.specs.Marks.{IsSetMarked}
use Rattle.image_subsets.specs.Masks.{AreMembers, IsInserted}

-- no set is marked in rows of zeros
pub AreMembers-none : (rows : List ℕ) → rows ≡ replicate 1024 0 → AreMembers [] rows
AreMembers-none rows zeros = record {
  long = ap length zeros ∙ length-replicate {A = ℕ} 1024 0;
  below = All-nil (λ s. s < 65536);
  apart = λ i j d less within. absurd (omega (arith, within));
  marked = λ x small. ((λ some. absurd (HasBit-none 1024 (x / 64) (x % 64) (rw (← zeros) some))), (λ has. absurd (omega (arith, has.1))));
}

-- rows with a mark more
IsSetMarked-more : (rows : List ℕ) (set i v : ℕ) → i < length rows → i ≡ set / 64 → v ≡ set % 64 → (x : ℕ)
    → IsSetMarked (slice_set rows i (bit_or (slice_index rows i) (1 * 2 ^ v % 2 ^ 64))) x ↔ ((x ≡ set) ⊎ IsSetMarked rows x)
IsSetMarked-more rows set i v inside row bit x = grind (arith, common_steps)

-- a new set is put in at the end
pub AreMembers-push : {sets rows : List ℕ} → AreMembers sets rows → (set i v : ℕ) → i ≡ set / 64 → v ≡ set % 64 → set < 65536 → ¬ Contains sets set
    → AreMembers (sets ++ set ∷ []) (slice_set rows i (bit_or (slice_index rows i) (1 * 2 ^ v % 2 ^ 64)))
AreMembers-push {sets} {rows} h set i v row bit small new = record {
  long = length-set rows i (bit_or (slice_index rows i) (1 * 2 ^ v % 2 ^ 64)) ∙ h.long;
  below = All-push (λ s. s < 65536) sets set h.below small;
  apart = all_pairs_push (λ s t. s ≢ t) sets set h.apart (λ k d within same. new (k, within, get_or_default sets k set d within ∙ same));
  marked = λ x below.
      let more = IsSetMarked-more rows set i v (omega (arith, row, small, h.long)) row bit x in (
        (λ some. ⊎_elim
            (λ same. subst (Contains (sets ++ set ∷ [])) (sym same) (Contains-push sets set))
            (λ old. Contains-append_left sets (set ∷ []) x ((h.marked x below).0 old))
            (more.0 some)),
        (λ has. more.1 (⊎_elim (λ there. inr ((h.marked x below).1 there)) (λ same. inl (sym same)) (Contains-push_cases sets set x has))),
      );
}

-- a list of different sets that the rows mark has at most 65,536 sets
length-masks-le : {sets rows : List ℕ} → AreMembers sets rows → length sets ≤ 65536
length-masks-le {sets} h =
    length-le_from_distinct_below sets 65536 (IsDistinct-from_AllPairs Decides-eqb sets h.apart) (λ s any.
    All-contains (λ z. z < 65536) sets s h.below (Contains-from_any (λ x y same. (Decides-eqb x y).0 same) s sets any))

-- before a new set is put in, there are fewer than all
pub few_before_new : {sets rows : List ℕ} → AreMembers sets rows → (set : ℕ) → set < 65536 → ¬ Contains sets set → length sets < 65536
few_before_new {sets} h set small new = omega (arith, length-masks-le (AreMembers-push h set (set / 64) (set % 64) refl refl small new), length_push sets set)

-- the first set is put into an empty list
pub first_set : (old new : List ℕ) (set : ℕ) (added : Bool) → old ≡ [] → IsInserted old new set added → new ≡ set ∷ []
first_set old new set true none h = h.1 ∙ ap (λ l. l ++ set ∷ []) none
first_set old new set false none (has, same) = absurd (let (i, below, at) = subst (λ l. Contains l set) none has in omega (arith, below))
