-- True evidence meets the conditions: the sets of last nodes, and an orphan.
use Rattle.std.proofs.Common.{◌≢◌, ℕ, List, [], ◌∷◌, ◌++◌, length, slice_index, Contains, subst}
use Rattle.word_image.proofs.Common.{Contains-get_or, LocalRule, IsRule, IsSurjective, IsOrphan, full_set, IsLastSet, IsLastSet-full, IsLastSet-step, IsOrphan-empty_set, IsOrphan-not_surjective}
use Rattle.search_laws.proofs.Common.{LeadsToSet-last, IsLastSet-orphan, IsStep-some}
use Rattle.cert_values.specs.declared.cert_version.CertVersion.TheVariants.{One}
use Rattle.cert_conditions.specs.Breaches.{EachBelow}
use Rattle.cert_conditions.specs.Sets.{StepIsKept, LeadsTo}

-- the list has the last nodes of each word, and no other set
pub record AreLastSets (r : LocalRule) (sets : List ℕ) : Type 0 where
  pub each : (set : ℕ) → Contains sets set → (w : List ℕ) × IsLastSet r w set
  pub all : (w : List ℕ) (set : ℕ) → IsLastSet r w set → Contains sets set

-- the list of the last nodes of each word has the full set
pub Contains-full : {r : LocalRule} {sets : List ℕ} → AreLastSets r sets → Contains sets (full_set r)
Contains-full {r} last = last.all [] (full_set r) (IsLastSet-full r)

-- where the rule is surjective, the list of the last nodes of each word has no empty set
pub nonempty-last_sets : {r : LocalRule} {sets : List ℕ} → IsSurjective r → AreLastSets r sets → EachBelow (length sets) (λ i. slice_index sets i ≢ 0)
nonempty-last_sets {r} {sets} surjective last i l empty =
    let found = last.each (slice_index sets i) (Contains-get_or sets i 0 l) in
    IsOrphan-not_surjective (IsOrphan-empty_set (subst (IsLastSet r found.0) empty found.1)) surjective

-- the list of the last nodes of each word has each step from one of its sets
pub StepIsKept-last_sets : {r : LocalRule} {sets : List ℕ} → IsRule r → AreLastSets r sets
    → EachBelow (length sets) (λ i. EachBelow r.states (StepIsKept One r sets (slice_index sets i)))
StepIsKept-last_sets {r} {sets} rule last i l a letter =
    let found = last.each (slice_index sets i) (Contains-get_or sets i 0 l) in
    let step = IsStep-some r (slice_index sets i) a in
    (step.0, step.1, last.all (found.0 ++ a ∷ []) step.0 (IsLastSet-step {set = slice_index sets i} {after = step.0} rule found.1 letter step.1))

-- an orphan leads to the empty set
pub LeadsTo-orphan : {r : LocalRule} {w : List ℕ} → IsRule r → IsOrphan r w → LeadsTo r (full_set r) w 0
LeadsTo-orphan rule orphan = (LeadsToSet-last rule (IsLastSet-orphan rule orphan)).walk
