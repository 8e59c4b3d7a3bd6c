-- The cover list of a family, one set more at a time.
use Rattle.std.proofs.Common.{◌≡◌, ◌≢◌, ℕ, ◌+◌, ◌<◌, List, [], ◌∷◌, ◌++◌, Bool, cond, AllPairs, length, take, slice_index, refl, sym, ap, ◌∙◌, arith, ◌&&◌, not, filter, eq-eqb, ne_eqb}
use Rattle.word_image.proofs.Common.{filter_more, is_minimal, is_cover}

-- among the first set alone there is no cover
pub no_cover-first : (sets : List ℕ) → 0 < length sets → filter (is_cover (slice_index sets 0) sets) (take 1 sets) ≡ []
no_cover-first [] some = absurd (omega arith)
no_cover-first (s ∷ sets) some = ap (λ (b : Bool). cond (not b && is_minimal (s ∷ sets) s) (s ∷ []) []) (eq-eqb s s refl)

-- a set other than the full one is in the cover list where it is minimal
is_cover-minimal : (full : ℕ) (sets : List ℕ) (s : ℕ) → s ≢ full → is_cover full sets s ≡ is_minimal sets s
is_cover-minimal full sets s other = ap (λ b. not b && is_minimal sets s) (ne_eqb s full other)

-- a set other than the first comes into the cover list behind those before it, where it is minimal
pub covers_more : (sets : List ℕ) → AllPairs (λ s t. s ≢ t) sets → (i : ℕ) → 0 < i → i < length sets → (minimal : Bool)
    → minimal ≡ is_minimal sets (slice_index sets i)
    → filter (is_cover (slice_index sets 0) sets) (take (i + 1) sets)
    ≡ filter (is_cover (slice_index sets 0) sets) (take i sets) ++ cond minimal (slice_index sets i ∷ []) []
covers_more sets apart i later inside minimal says =
    let full = slice_index sets 0 in
    let other : slice_index sets i ≢ full = λ same. apart 0 i 0 later inside (sym same) in
    filter_more (is_cover full sets) sets i 0 inside
    ∙ ap (λ b. filter (is_cover full sets) (take i sets) ++ cond b (slice_index sets i ∷ []) []) (is_cover-minimal full sets (slice_index sets i) other ∙ sym says)
