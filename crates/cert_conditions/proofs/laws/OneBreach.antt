-- A certificate has at most one first condition that it doesn't meet, and one thing is said of it.
use Rattle.std.proofs.Common.{◌≡◌, refl, ap, ap₂, List, ℕ, ⊎_elim, arith}
use Rattle.word_image.proofs.Common.{cases_lt, LocalRule}
use Rattle.tail_config.proofs.Common.{TailConfig}
use Rattle.cert_values.proofs.Common.{Certificate}
use Rattle.cert_values.proofs.laws.ShapeFaults.{IsFirstWithout-unique}
use Rattle.cert_conditions.specs.declared.condition.Condition.{Condition}
use Rattle.cert_conditions.specs.declared.refusal.TwinCause.{TwinCause}
use Rattle.cert_conditions.specs.declared.refusal.SplitCause.{SplitCause}
use Rattle.cert_conditions.specs.declared.refusal.Refusal.{Refusal}
use Rattle.cert_conditions.specs.declared.refusal.Refusal.TheVariants as refusal
use Rattle.cert_conditions.specs.Breaches.{IsFirstBreach}
use Rattle.cert_conditions.specs.Pairs.{IsFirstLeaving}
use Rattle.cert_conditions.specs.Refusals.{IsBreach, IsTwinsBreach, IsSplitBreach, IsFirstUnmet}
use Rattle.cert_conditions.specs.Refusals.IsBreach.{Rising, NoFull, Empty, NotClosed, NoFirst, Diagonal, Leaves, NoOrphan, NoWindow, NoTwins, NoAhead, NoSplit, NoFlux, NoRing}
use Rattle.cert_conditions.specs.Refusals.IsTwinsBreach.{Length, Same as SameWords, Image as OtherRings}
use Rattle.cert_conditions.specs.Refusals.IsSplitBreach.{Same as SameCells, Apart, Image as OtherImages}

-- two first breaches are at one number
one_breach : {n : ℕ} {P : ℕ → Type 0} {i j : ℕ} → IsFirstBreach n P i → IsFirstBreach n P j → i ≡ j
one_breach {i = i} {j} h k =
    ⊎_elim
    (λ before. absurd (h.fails (k.earlier i before)))
    (λ not_before. ⊎_elim (λ after. absurd (k.fails (h.earlier j after))) (λ not_after. omega arith) (cases_lt j i))
    (cases_lt i j)

-- the cause of two words is one
one_twin_cause : {r : LocalRule} {x y : List ℕ} {a b : TwinCause} → IsTwinsBreach r x y a → IsTwinsBreach r x y b → a ≡ b
one_twin_cause (Length _) (Length _) = refl
one_twin_cause (Length none) (SameWords one some _) = absurd (none (one, some))
one_twin_cause (Length none) (OtherRings one some _ _) = absurd (none (one, some))
one_twin_cause (SameWords one some _) (Length none) = absurd (none (one, some))
one_twin_cause (SameWords _ _ _) (SameWords _ _ _) = refl
one_twin_cause (SameWords _ _ same) (OtherRings _ _ other _) = absurd (other same)
one_twin_cause (OtherRings one some _ _) (Length none) = absurd (none (one, some))
one_twin_cause (OtherRings _ _ other _) (SameWords _ _ same) = absurd (other same)
one_twin_cause (OtherRings _ _ _ _) (OtherRings _ _ _ _) = refl

-- two configurations are no split for one cause alone
one_split_cause : {r : LocalRule} {Agree : TailConfig → TailConfig → Type 0} {x y : TailConfig} {a b : SplitCause} → IsSplitBreach r Agree x y a
    → IsSplitBreach r Agree x y b → a ≡ b
one_split_cause (SameCells _) (SameCells _) = refl
one_split_cause (SameCells none) (Apart other _) = absurd (none other)
one_split_cause (SameCells none) (OtherImages other _ _) = absurd (none other)
one_split_cause (Apart other _) (SameCells none) = absurd (none other)
one_split_cause (Apart _ _) (Apart _ _) = refl
one_split_cause (Apart _ none) (OtherImages _ agree _) = absurd (none agree)
one_split_cause (OtherImages other _ _) (SameCells none) = absurd (none other)
one_split_cause (OtherImages _ agree _) (Apart _ none) = absurd (none agree)
one_split_cause (OtherImages _ _ _) (OtherImages _ _ _) = refl

-- the first letters of a step are one
one_leaving : {r : LocalRule} {pairs : List ℕ} {p a b d e : ℕ} → IsFirstLeaving r pairs p a b → IsFirstLeaving r pairs p d e → (a ≡ d) × (b ≡ e)
one_leaving h k = let first = one_breach h.first k.first in (first, one_breach (rw first at h.second) k.second)

-- what is said of a condition is one
one_said : {c : Certificate} {one : Condition} {f g : Refusal} → IsBreach c one f → IsBreach c one g → f ≡ g
one_said (Rising side p h) (Rising _ q k) = ap (refusal.Rank side) (one_breach h k)
one_said (NoFull _ _ _) (NoFull _ _ _) = refl
one_said (Empty s i p h) (Empty t j q k) = let same : s ≡ t = cc in ap refusal.EmptySet (one_breach (rw same at h) k)
one_said (NotClosed s i a p h u) (NotClosed t j b q k v) =
    let same : s ≡ t = cc in
    let places = one_breach (rw same at h) k in
    ap₂ (λ (i a : ℕ). refusal.NotClosed i a) places (one_breach (rw (same, places) at u) v)
one_said (NoFirst s p e h) (NoFirst t q f k) = let same : s ≡ t = cc in ap refusal.NoFirst (one_breach (rw same at h) k)
one_said (Diagonal s i e h) (Diagonal t j f k) = let same : s ≡ t = cc in ap refusal.Diagonal (one_breach (rw same at h) k)
one_said (Leaves s i a b p h u) (Leaves t j d e q k v) =
    let same : s ≡ t = cc in
    let places = one_breach (rw same at h) k in
    let letters = one_leaving (rw (same, places) at u) v in
    rw (places, letters.0, letters.1)
one_said (NoOrphan _ _ _) (NoOrphan _ _ _) = refl
one_said (NoWindow n a p s h) (NoWindow m b q t k) =
    let same_n : n ≡ m = cc in
    let same_a : a ≡ b = cc in
    ap refusal.Window (one_breach (rw (same_n, same_a) at h) k)
one_said (NoTwins x y a s h) (NoTwins u v b t k) =
    let first : x ≡ u = cc in
    let second : y ≡ v = cc in
    ap refusal.Twins (one_twin_cause (rw (first, second) at h) k)
one_said (NoAhead side n p s h) (NoAhead _ m q t k) = let same : n ≡ m = cc in ap (refusal.Ahead side) (one_breach (rw same at h) k)
one_said (NoSplit side x y a s h) (NoSplit _ u v b t k) =
    let first : x ≡ u = cc in
    let second : y ≡ v = cc in
    ap (refusal.Split side) (one_split_cause (rw (first, second) at h) k)
one_said (NoFlux phi v s h) (NoFlux psi w t k) = let same : phi ≡ psi = cc in ap refusal.Flux (one_breach (rw same at h) k)
one_said (NoRing _ _ _) (NoRing _ _ _) = refl

-- a certificate has at most one first breach
pub one_unmet : {c : Certificate} {f g : Refusal} → IsFirstUnmet c f → IsFirstUnmet c g → f ≡ g
one_unmet h k = one_said (rw (IsFirstWithout-unique h.first k.first) at h.breach) k.breach
