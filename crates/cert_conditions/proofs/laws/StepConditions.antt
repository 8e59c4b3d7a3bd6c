-- What listed sets and a read orphan say of surjectivity (Sutner 1991), and what says so of every rule.
use Rattle.std.proofs.Common.{◌≡◌, ◌≢◌, ℕ, ◌^◌, ◌<◌, min, List, [], ◌∷◌, ◌++◌, length, slice_index, Contains, IsBitSet, bit_and, sym, ap, subst, ◌∙◌, append_assoc, append-nil, arith, pow_pos}
use Rattle.std.proofs.lemmas.Nat.Bits.{bit_at_and, bit_at-lt}
use Rattle.std.specs.Int.Bits.{and_self}
use Rattle.word_image.proofs.Common.{bit_at, and_le_r, get_or_default, All-tail, LocalRule, IsRule, IsWord, node_count, IsSurjective, IsOrphan, full_set, IsLastNode, bit_at-IsBitSet, IsBitSet-some, IsOrphan-empty_set}
use Rattle.word_image.proofs.laws.LastNodes.{IsLastNode-empty, IsLastNode-push}
use Rattle.search_laws.proofs.Common.{IsLastSet-leads}
use Rattle.cert_values.specs.declared.cert_version.CertVersion.{CertVersion}
use Rattle.cert_values.specs.declared.cert_version.CertVersion.TheVariants.{One, Two}
use Rattle.cert_conditions.specs.Breaches.{EachBelow}
use Rattle.cert_conditions.specs.Sets.{IsKept, HasPart, StepIsKept, LeadsTo}

-- a fact of each listed set, at a set that is listed
pub at_listed : (P : ℕ → Type 0) (sets : List ℕ) → EachBelow (length sets) (λ i. P (slice_index sets i)) → (set : ℕ) → Contains sets set → P set
at_listed P sets each set h = subst P (get_or_default sets h.0 0 set h.1 ∙ h.2) (each h.0 h.1)

-- what is asked of a step in some version gives it a listed part
pub HasPart-kept : (version : CertVersion) (sets : List ℕ) (set : ℕ) → IsKept version sets set → HasPart sets set
HasPart-kept One sets set listed = (set, listed, and_self set)
HasPart-kept _ sets set kept = kept

-- a place of a part of a set is one of the set
pub IsBitSet-part : (s t u : ℕ) → bit_and s t ≡ s → IsBitSet s u → IsBitSet t u
IsBitSet-part s t u part some =
    let one = (bit_at-IsBitSet s u).0 some in
    let both : min (bit_at s u) (bit_at t u) ≡ bit_at s u = sym (bit_at_and s t u) ∙ ap (λ n. bit_at n u) part in
    (bit_at-IsBitSet t u).1 (omega (arith, bit_at-lt t u))

-- the nodes of a listed set are last nodes of a word
record IsCovered (r : LocalRule) (sets : List ℕ) (w : List ℕ) : Type 0 where
  set : ℕ
  listed : Contains sets set
  within : set < 2 ^ node_count r
  last : (u : ℕ) → u < node_count r → IsBitSet set u → IsLastNode r w u

-- each step from a listed set contains one
abbrev StepsAreKept : LocalRule → List ℕ → Type 0
StepsAreKept r sets = EachBelow (length sets) (λ i. EachBelow r.states (StepIsKept Two r sets (slice_index sets i)))

-- where each step contains a listed set, a word with one letter more is covered
IsCovered-push : {r : LocalRule} {sets w : List ℕ} → IsRule r → StepsAreKept r sets → IsCovered r sets w → (a : ℕ) → a < r.states
    → IsCovered r sets (w ++ a ∷ [])
IsCovered-push {r} {sets} rule closed h a letter =
    let (after, step, kept) = at_listed (λ s. EachBelow r.states (StepIsKept Two r sets s)) sets closed h.set h.listed a letter in
    let (part, listed, is_part) = kept in
    record {
      set = part;
      listed = listed;
      within = omega (arith, step.within, is_part, and_le_r part after);
      last = λ u below some.
          let (v, node, (present, edge)) = (step.nodes u below).0 (IsBitSet-part part after u is_part some) in
          IsLastNode-push rule (h.last v node present) edge;
    }

-- a covered word with more letters behind it is covered
IsCovered-append : {r : LocalRule} {sets : List ℕ} → IsRule r → StepsAreKept r sets → (v w : List ℕ) → IsCovered r sets v → IsWord r.states w
    → IsCovered r sets (v ++ w)
IsCovered-append {r} {sets} rule closed v [] h word = subst (IsCovered r sets) (sym (append-nil v)) h
IsCovered-append {r} {sets} rule closed v (a ∷ w) h word =
    subst (IsCovered r sets) (append_assoc v (a ∷ []) w)
    (IsCovered-append rule closed (v ++ a ∷ []) w (IsCovered-push rule closed h a (word 0 0 (omega arith))) (All-tail (λ b. b < r.states) a w word))

-- the nodes of some listed set are last nodes of each word
IsCovered-word : {r : LocalRule} {sets : List ℕ} → IsRule r → Contains sets (full_set r) → StepsAreKept r sets → (w : List ℕ) → IsWord r.states w
    → IsCovered r sets w
IsCovered-word {r} rule full closed w word =
    IsCovered-append rule closed [] w (record { set = full_set r; listed = full; within = omega (arith, pow_pos (node_count r)); last = λ u below some. IsLastNode-empty r u below }) word

-- listed sets that have the full set, no empty one, and all that is asked of their steps: every word has a preimage
pub IsSurjective-sets : {r : LocalRule} (version : CertVersion) → IsRule r → (sets : List ℕ) → Contains sets (full_set r)
    → EachBelow (length sets) (λ i. slice_index sets i ≢ 0)
    → EachBelow (length sets) (λ i. EachBelow r.states (StepIsKept version r sets (slice_index sets i))) → IsSurjective r
IsSurjective-sets {r} version rule sets full some closed w word =
    let kept : StepsAreKept r sets = λ i within a letter. let (after, step, is) = closed i within a letter in (after, step, HasPart-kept version sets after is) in
    let h = IsCovered-word rule full kept w word in
    let node = IsBitSet-some (node_count r) h.set h.within (at_listed (λ s. s ≢ 0) sets some h.set h.listed) in
    let last : IsLastNode r w node.0 = h.last node.0 node.1 node.2 in
    (last.x, last.preimage)

-- a word that leads from the full set to the empty one is an orphan
pub IsOrphan-read : {r : LocalRule} {w : List ℕ} → IsRule r → IsWord r.states w → LeadsTo r (full_set r) w 0 → IsOrphan r w
IsOrphan-read {r} rule word leads = IsOrphan-empty_set (IsLastSet-leads rule (record { walk = leads; word = word }))
