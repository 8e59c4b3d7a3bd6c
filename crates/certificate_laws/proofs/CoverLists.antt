-- Each set of a list contains a set of its cover list, and each set of the cover list is listed.
use Rattle.std.proofs.Common.{◌≡◌, ◌≢◌, ℕ, zero, suc, ◌<◌, Bool, true, false, cond, List, [], ◌∷◌, Contains, bit_and, refl, ap, ap₂, subst, ◌∙◌, ⊎_elim, arith, ◌==◌, ◌&&◌, not, filter, ne_eqb, eqb-true}
use Rattle.std.specs.Int.Bits.{and_self}
use Rattle.word_image.proofs.Common.{list_any, cases_eq, eqb-false, and_parts, not-true, and_le_r, All-filter, All-contains_itself, is_subset, is_cover, covers_of}
use Rattle.cert_values.proofs.laws.Members.{some_passes}
use Rattle.cert_conditions.proofs.laws.Parts.{part-of_part}

-- what is contained is contained where something may stand before
Contains-cond : {X : Type 0} (b : Bool) (y : X) (zs : List X) (x : X) → Contains zs x → Contains (cond b (y ∷ zs) zs) x
Contains-cond true y zs x h = (suc h.0, omega (arith, h.1), h.2)
Contains-cond false y zs x h = h

-- what passes the test is contained in what is left
Contains-filter : {X : Type 0} (p : X → Bool) (xs : List X) (x : X) → Contains xs x → p x ≡ true → Contains (filter p xs) x
Contains-filter p [] x h passes = absurd (omega arith)
Contains-filter p (y ∷ xs) x (zero, l, same) passes = grind arith
Contains-filter p (y ∷ xs) x (suc k, l, same) passes =
    Contains-cond (p y) y (filter p xs) x (Contains-filter p xs x (k, omega arith, same) passes)

-- each set of a cover list is the full set or listed
pub Contains-covers : (full : ℕ) (sets : List ℕ) → Contains sets full → (set : ℕ) → Contains (covers_of full sets) set → Contains sets set
Contains-covers full sets there set (zero, l, same) = subst (Contains sets) same there
Contains-covers full sets there set (suc k, l, same) =
    subst (Contains sets) same (All-filter (is_cover full sets) (Contains sets) sets (All-contains_itself sets) k set (omega arith))

-- a set in the cover list that is part of a set
pub record HasCover (full : ℕ) (sets : List ℕ) (set : ℕ) : Type 0 where
  pub cover : ℕ
  pub listed : Contains (covers_of full sets) cover
  pub part : bit_and cover set ≡ cover

-- `HasCover-listed` for the sets below n
cover_below : (full : ℕ) (sets : List ℕ) (n set : ℕ) → set < n → Contains sets set → HasCover full sets set
cover_below full sets zero set l there = absurd (omega arith)
cover_below full sets (suc n) set l there =
    ⊎_elim
    (λ same. record { cover = full; listed = (zero, omega arith, refl); part = ap (bit_and full) same ∙ and_self full })
    (λ other. elim (list_any (λ t. not (t == set) && is_subset t set) sets) as (λ b. list_any (λ t. not (t == set) && is_subset t set) sets ≡ b → HasCover full sets set) [
      | true ↦ (λ any.
          let h = some_passes (λ t. not (t == set) && is_subset t set) sets any in
          let parts = and_parts (not (h.0 == set)) (is_subset h.0 set) h.2 in
          let part : bit_and h.0 set ≡ h.0 = eqb-true (bit_and h.0 set) h.0 parts.1 in
          let apart : h.0 ≢ set = eqb-false h.0 set (not-true (h.0 == set) parts.0) in
          let less : h.0 < set = omega (arith, and_le_r h.0 set) in
          grind (arith, part-of_part, cover_below full sets n h.0 (omega arith) h.1))
      | false ↦ (λ none.
          let left = Contains-filter (is_cover full sets) sets set there (ap₂ (λ (a b : Bool). not a && not b) (ne_eqb set full other) none) in
          record { cover = set; listed = (suc left.0, omega arith, left.2); part = and_self set })
    ] refl)
    (cases_eq set full)

-- each listed set contains a set of the cover list
pub HasCover-listed : (full : ℕ) (sets : List ℕ) (set : ℕ) → Contains sets set → HasCover full sets set
HasCover-listed full sets set there = cover_below full sets (suc set) set (omega arith) there
