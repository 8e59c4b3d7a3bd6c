-- The first of the smallest sets of a search, and the word that is spelled to it.
use Rattle.std.proofs.Common.{◌≡◌, ◌≢◌, ℕ, ◌*◌, ◌<◌, ◌≤◌, ◌⊎◌, inl, inr, List, [], ◌∷◌, ◌++◌, length, slice_index, Option, Some, Contains, count_ones, sym, ap, subst, arith, ⊎_elim, slice_get, Greater}
use Rattle.std.proofs.lemmas.Nat.{ones_le_self}
use Rattle.std.proofs.lemmas.Grind.{get_or_default_zero}
use Rattle.word_image.proofs.Common.{cases_lt, cases_eq, slice_get-get_or, get_or_from_slice_get, get_or_append_left, length_push, slice_get-push, LocalRule, IsRule, IsLastSet, word_cmp}
use Rattle.search_laws.specs.SearchQueues.{TreeSpells}
use Rattle.search_laws.proofs.Common.{search_place, length-search, Leads-spelled, TreeSpells-unique, TreeSpells-ascending, IsLastSet-leads, LeadsToSet-last, word_number, word_number-less, word_cmp-not_greater}
use Rattle.search_laws.proofs.LeastFirst.{reached_all, reached_or_after}
use Rattle.image_subsets.specs.Searches.{IsTreeSearch}
use Rattle.image_subsets.specs.SmallestSets.{IsFirstSmallest}
use Rattle.image_subsets.proofs.Searches.{state_at}

-- a set stands before the last place or at it
pushed : (sets : List ℕ) (after i : ℕ) → i < length (sets ++ after ∷ [])
    → ((i < length sets) × (slice_index (sets ++ after ∷ []) i ≡ slice_index sets i)) ⊎ ((i ≡ length sets) × (slice_index (sets ++ after ∷ []) i ≡ after))
pushed sets after i below =
    ⊎_elim
    (λ before. inl (before, get_or_append_left sets (after ∷ []) 0 i before))
    (λ le.
    let last : i ≡ length sets = omega (arith, le, below, length_push sets after) in
    inr (last, get_or_from_slice_get (sets ++ after ∷ []) i after 0 (subst (λ j. slice_get (sets ++ after ∷ []) j ≡ Some after) (sym last) (slice_get-push sets after))))
    (cases_lt i (length sets))

-- the set that is appended stands at the last place
pub last_set : (sets : List ℕ) (after : ℕ) → slice_index (sets ++ after ∷ []) (length sets) ≡ after
last_set sets after = get_or_from_slice_get (sets ++ after ∷ []) (length sets) after 0 (slice_get-push sets after)

-- a set with no fewer nodes is appended
pub IsFirstSmallest-kept : {sets : List ℕ} {p : ℕ} (after : ℕ) → IsFirstSmallest sets p → count_ones (slice_index sets p) ≤ count_ones after
    → IsFirstSmallest (sets ++ after ∷ []) p
IsFirstSmallest-kept {sets} {p} after h le =
    let here = ap count_ones (get_or_append_left sets (after ∷ []) 0 p h.inside) in
    record {
      inside = omega (arith, h.inside, length_push sets after);
      fewest = λ i below. ⊎_elim (λ b. omega (arith, here, ap count_ones b.1, h.fewest i b.0)) (λ l. omega (arith, here, ap count_ones l.1, le)) (pushed sets after i below);
      first = λ i less. omega (arith, here, ap count_ones (get_or_append_left sets (after ∷ []) 0 i (omega (arith, less, h.inside))), h.first i less);
    }

-- a set with fewer nodes is appended
pub IsFirstSmallest-new : {sets : List ℕ} {p : ℕ} (after : ℕ) → IsFirstSmallest sets p → count_ones after < count_ones (slice_index sets p)
    → IsFirstSmallest (sets ++ after ∷ []) (length sets)
IsFirstSmallest-new {sets} {p} after h less =
    let here = ap count_ones (last_set sets after) in
    record {
      inside = omega (arith, length_push sets after);
      fewest = λ i below. ⊎_elim (λ b. omega (arith, here, ap count_ones b.1, h.fewest i b.0, less)) (λ l. omega (arith, here, ap count_ones l.1)) (pushed sets after i below);
      first = λ i before. omega (arith, here, ap count_ones (get_or_append_left sets (after ∷ []) 0 i before), h.fewest i before, less);
    }

-- in a list of one set this set is the smallest
pub IsFirstSmallest-one : (set : ℕ) → IsFirstSmallest (set ∷ []) 0
IsFirstSmallest-one set = record {
  inside = omega arith;
  fewest = λ i below. let only : i ≡ 0 = omega (arith, below) in omega (arith, ap (λ j. count_ones (slice_index (set ∷ []) j)) only);
  first = λ i less. absurd (omega (arith, less));
}

-- no set is empty if the smallest one has a node
pub not_empty : {sets : List ℕ} {p : ℕ} → IsFirstSmallest sets p → 0 < count_ones (slice_index sets p) → ¬ Contains sets 0
not_empty {sets} {p} h some (j, below, at) =
    omega (arith, some, h.fewest j below, ap count_ones (get_or_default_zero sets j 0 below), ap count_ones at, ones_le_self 0)

module _ {r : LocalRule} {sets : List ℕ} {parents : List (Option (ℕ × ℕ))} {e : ℕ} (rule : IsRule r) (h : IsTreeSearch r sets parents e) where
  -- the word that is spelled to a place has the set of the place
  pub IsLastSet-place : {i : ℕ} {w : List ℕ} → i < length sets → TreeSpells h.search.tree i w → IsLastSet r w (slice_index sets i)
  IsLastSet-place {i} {w} below s =
      let (x, at, state) = search_place h.search i (slice_index sets i) (slice_get-get_or sets i 0 below) in
      subst (IsLastSet r w) state (IsLastSet-leads rule (Leads-spelled h.search.queue.fills s x at))

  -- the word that is spelled to the first of the smallest sets comes before each other word with so few nodes
  pub first_word : {p : ℕ} {w : List ℕ} → IsFirstSmallest sets p → TreeSpells h.search.tree p w → (v : List ℕ) (set : ℕ) → IsLastSet r v set
      → count_ones set ≤ count_ones (slice_index sets p) → word_cmp w v ≢ Greater
  first_word {p} {w} small s v set last few =
      let fills = h.search.queue.fills in
      let (x, at, state) = search_place h.search p (slice_index sets p) (slice_get-get_or sets p 0 small.inside) in
      let mine = IsLastSet-place small.inside s in
      word_cmp-not_greater r.states w v mine.word last.word (⊎_elim
      (λ reached.
      let there = state_at h reached.at reached.place reached.stands in
      let later : p ≤ reached.at = ⊎_elim (λ less. absurd (omega (arith, small.first reached.at less, ap count_ones there.1, ap count_ones reached.of_state, few))) (λ le. le) (cases_lt reached.at p) in
      ⊎_elim
      (λ (same : p ≡ reached.at). omega (arith, ap (word_number r.states) (TreeSpells-unique (subst (λ n. TreeSpells h.search.tree n w) same s) reached.spells), reached.no_later))
      (λ other.
      let less = TreeSpells-ascending fills (omega (arith, later, other)) s reached.spells x reached.place at reached.stands in
      let word = (Leads-spelled fills reached.spells reached.place reached.stands).word in
      omega (arith, word_number-less r.states w reached.word mine.word word less, reached.no_later))
      (cases_eq p reached.at))
      (λ after. omega (arith, word_number-less r.states w v mine.word last.word after))
      (reached_or_after h.search.queue s x at v set (LeadsToSet-last rule last)))

  -- where all edges were followed, no word has fewer nodes than the smallest set
  pub fewest_of_all : {p : ℕ} → length sets * r.states ≤ e → IsFirstSmallest sets p → (v : List ℕ) (set : ℕ) → IsLastSet r v set
      → count_ones (slice_index sets p) ≤ count_ones set
  fewest_of_all all small v set last =
      let reached = reached_all h.search.queue (subst (λ n. n * r.states ≤ e) (sym (length-search h.search)) all) v set (LeadsToSet-last rule last) in
      let there = state_at h reached.at reached.place reached.stands in
      omega (arith, small.fewest reached.at there.0, ap count_ones there.1, ap count_ones reached.of_state)
