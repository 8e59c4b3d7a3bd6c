-- The sets that a breadth first queue lists from the full set are the family of last sets, in the order of their least words.
use Rattle.std.proofs.Common.{◌≡◌, ◌≢◌, ℕ, zero, suc, ◌+◌, ◌*◌, ◌<◌, ◌≤◌, ◌⊎◌, inl, inr, List, [], ◌∷◌, length, get_or, Some, Contains, refl, sym, ap, ◌∙◌, subst, arith, ⊎_elim, slice_get, Less}
use Rattle.word_image.proofs.Common.{length-map, slice_get_within, slice_get-get_or, get_or_from_slice_get, none-some, LocalRule, IsRule, word_cmp, full_set, IsStep, IsLastSet, IsLeastWordOf, IsFamily, AllZip-places}
use Rattle.search_laws.specs.SearchQueues.{Place, TreeSpells, IsQueue}
use Rattle.search_laws.proofs.QueueStates.{states_of, mapped_at, unmapped_at, Contains-state}
use Rattle.search_laws.proofs.SpelledWords.{TreeSpells-some, TreeSpells-ascending}
use Rattle.search_laws.proofs.LeastFirst.{IsLeastTo-spelled, reached_all, reached_or_after}
use Rattle.search_laws.proofs.StepSets.{IsLastSet-leads, LeadsToSet-last}

-- a queue of sets, from the full one on
abbrev pub IsSetQueue : LocalRule → List (Place ℕ) → ℕ → Type 0
IsSetQueue r = IsQueue (IsStep r) r.states (full_set r)

-- the word that is spelled to a place is the least one of its set
IsLeastWordOf-spelled : {r : LocalRule} {tree : List (Place ℕ)} {e i : ℕ} {w : List ℕ} → IsRule r → IsSetQueue r tree e
    → TreeSpells tree i w → (x : Place ℕ) → slice_get tree i ≡ Some x → IsLeastWordOf r x.state w
IsLeastWordOf-spelled rule q s x at =
    let first = IsLeastTo-spelled q s x at in
    record { set_of = IsLastSet-leads rule first.leads; least = λ v last. first.least v (LeadsToSet-last rule last) }

-- a fact of each place of a longer list
pub chosen_cons : {Y : Type 0} (P : ℕ → Y → Type 0) (y : Y) → P 0 y → (ys : List Y) → ((i : ℕ) (z : Y) → slice_get ys i ≡ Some z → P (suc i) z)
    → (i : ℕ) (z : Y) → slice_get (y ∷ ys) i ≡ Some z → P i z
chosen_cons P y first ys rest zero z at = let same : y ≡ z = cc in subst (P 0) same first
chosen_cons P y first ys rest (suc i) z at = rest i z at

-- what can be found at each place of a list, found at all of them
pub chosen : {X Y : Type 0} (xs : List X) (P : ℕ → Y → Type 0) → ((i : ℕ) (x : X) → slice_get xs i ≡ Some x → (y : Y) × P i y)
    → (ys : List Y) × (length xs ≡ length ys) × ((i : ℕ) (y : Y) → slice_get ys i ≡ Some y → P i y)
chosen [] P find = ([], refl, λ i y at. absurd (none-some y at))
chosen {Y = Y} (x ∷ xs) P find =
    let first = find 0 x refl in
    let rest = chosen xs (λ i. P (suc i)) (λ i z at. find (suc i) z at) in
    (first.0 ∷ rest.0, ap suc rest.1, chosen_cons P first.0 first.1 rest.0 rest.2)

-- something stands at each place below the length
pub stands_at : (tree : List (Place ℕ)) (i : ℕ) → i < length tree → (x : Place ℕ) × (slice_get tree i ≡ Some x)
stands_at tree i l = (get_or tree i (record { state = 0; parent = 0; letter = 0 }), slice_get-get_or tree i (record { state = 0; parent = 0; letter = 0 }) l)

-- no set is missing, but for those of words after a word with the empty set
abbrev pub HasAllSets : LocalRule → List ℕ → Type 0
HasAllSets r sets = (v : List ℕ) (set : ℕ) → IsLastSet r v set → Contains sets set ⊎ ((e : List ℕ) × IsLastSet r e 0 × (word_cmp e v ≡ Less) × Contains sets 0)

-- the sets of a queue are a family if no set is missing and only the last may be empty
family_with : {r : LocalRule} {tree : List (Place ℕ)} {e : ℕ} → IsRule r → IsSetQueue r tree e
    → ((i : ℕ) (x : Place ℕ) → i + 1 < length tree → slice_get tree i ≡ Some x → x.state ≢ 0) → HasAllSets r (states_of tree)
    → IsFamily r (states_of tree)
family_with {r} {tree} rule q some all =
    let words = chosen tree (TreeSpells tree) (TreeSpells-some q.fills) in
    let long = length-map tree (λ x. x.state) ∙ words.1 in
    record {
      words = words.0;
      each = AllZip-places (IsLeastWordOf r) (states_of tree) words.0 long (λ i set w at also.
          let found = unmapped_at (λ x. x.state) tree i set at in
          subst (λ s. IsLeastWordOf r s w) found.2 (IsLeastWordOf-spelled rule q (words.2 i w also) found.0 found.1));
      ascending = λ i v w at also.
          let first = stands_at tree i (omega (arith, words.1, slice_get_within words.0 i v at)) in
          let second = stands_at tree (i + 1) (omega (arith, words.1, slice_get_within words.0 (i + 1) w also)) in
          TreeSpells-ascending q.fills (omega arith) (words.2 i v at) (words.2 (i + 1) w also) first.0 second.0 first.1 second.1;
      nonempty = λ i less empty.
          let before : i + 1 < length tree = omega (arith, length-map tree (λ x. x.state)) in
          let here = stands_at tree i (omega arith) in
          some i here.0 before here.1 (sym (get_or_from_slice_get (states_of tree) i here.0.state 0 (mapped_at (λ x. x.state) tree i here.0 here.1)) ∙ empty);
      all = all;
    }

-- where all edges were followed and only the last set may be empty, the sets are a family
pub IsFamily-closed : {r : LocalRule} {tree : List (Place ℕ)} {e : ℕ} → IsRule r → IsSetQueue r tree e → length tree * r.states ≤ e
    → ((i : ℕ) (x : Place ℕ) → i + 1 < length tree → slice_get tree i ≡ Some x → x.state ≢ 0) → IsFamily r (states_of tree)
IsFamily-closed {r} {tree} rule q closed some = family_with rule q some (λ v set last.
    let reached = reached_all q closed v set (LeadsToSet-last rule last) in
    inl (Contains-state tree reached.at reached.place set reached.stands reached.of_state))

-- where the last set is the empty one, the sets are a family
pub IsFamily-stopped : {r : LocalRule} {tree : List (Place ℕ)} {e : ℕ} → IsRule r → IsSetQueue r tree e → (i : ℕ) (x : Place ℕ) → i + 1 ≡ length tree
    → slice_get tree i ≡ Some x → x.state ≡ 0
    → IsFamily r (states_of tree)
IsFamily-stopped {r} {tree} rule q i x ends at empty =
    let spelled = TreeSpells-some q.fills i x at in
    family_with rule q
    (λ j y before there also. let same = q.apart j i y x there at (also ∙ sym empty) in omega (arith, same))
    (λ v set last. ⊎_elim
    (λ reached. inl (Contains-state tree reached.at reached.place set reached.stands reached.of_state))
    (λ after. inr (spelled.0, subst (IsLastSet r spelled.0) empty (IsLeastWordOf-spelled rule q spelled.1 x at).set_of, after, Contains-state tree i x 0 at empty))
    (reached_or_after q spelled.1 x at v set (LeadsToSet-last rule last)))
