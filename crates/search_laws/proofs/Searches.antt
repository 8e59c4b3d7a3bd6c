-- Breadth first search, said of the list of the states: one edge more at a time.
use Rattle.std.proofs.Common.{◌≡◌, ℕ, ◌+◌, ◌*◌, ◌<◌, ◌≤◌, List, [], ◌∷◌, ◌++◌, length, Some, Contains, refl, sym, ap, ◌∙◌, subst, arith, slice_get}
use Rattle.word_image.proofs.Common.{length-map, map-append}
use Rattle.search_laws.specs.SearchQueues.{Place, IsSearch}
use Rattle.search_laws.proofs.QueueSteps.{IsQueue-start, IsQueue-there, IsQueue-new}
use Rattle.search_laws.proofs.QueueStates.{unmapped_at, place_of_listed, Contains-state, length-queue-le, state-below}

-- at the beginning the start stands alone
pub IsSearch-start : (Step : ℕ → ℕ → ℕ → Type 0) (k start : ℕ) → IsSearch Step k start (start ∷ []) 0
IsSearch-start Step k start =
    let first : Place ℕ = record { state = start; parent = 0; letter = 0 } in
    record { tree = first ∷ []; queue = IsQueue-start first refl; lists = refl }

-- the place of a state that is listed
pub search_place : {Step : ℕ → ℕ → ℕ → Type 0} {k start : ℕ} {states : List ℕ} {e : ℕ} → (x : IsSearch Step k start states e) → (i s : ℕ)
    → slice_get states i ≡ Some s
    → (y : Place ℕ) × (slice_get x.tree i ≡ Some y) × (y.state ≡ s)
search_place x i s at = unmapped_at (λ y. y.state) x.tree i s (subst (λ l. slice_get l i ≡ Some s) (sym x.lists) at)

-- the tree of a search has as many places as there are states listed
pub length-search : {Step : ℕ → ℕ → ℕ → Type 0} {k start : ℕ} {states : List ℕ} {e : ℕ} → (x : IsSearch Step k start states e)
    → length x.tree ≡ length states
length-search x = sym (length-map x.tree (λ y. y.state)) ∙ ap length x.lists

-- a search stays one where one more edge is followed, to nothing that isn't listed
abbrev pub IsSearch-there : {Step : ℕ → ℕ → ℕ → Type 0} {k start : ℕ} {states : List ℕ} (h n from : ℕ) → IsSearch Step k start states (h * k + n) → n < k
    → slice_get states h ≡ Some from → ((t : ℕ) → Step from n t → Contains states t) → IsSearch Step k start states (h * k + n + 1)
IsSearch-there {Step} {states = states} h n from x letter here there =
    let (y, at, state) = search_place x h from here in
    record {
      tree = x.tree;
      queue = IsQueue-there x.queue h n y refl letter at (λ t step. place_of_listed x.tree t (subst (λ l. Contains l t) (sym x.lists) (there t (subst (λ s. Step s n t) state step))));
      lists = x.lists;
    }

-- a search stays one where one more edge is followed, to a state that isn't listed and is put into the list
abbrev pub IsSearch-new : {Step : ℕ → ℕ → ℕ → Type 0} {k start : ℕ} {states : List ℕ} (h n from to : ℕ) → IsSearch Step k start states (h * k + n) → n < k
    → slice_get states h ≡ Some from → Step from n to → ((t : ℕ) → Step from n t → t ≡ to) → ¬ Contains states to
    → IsSearch Step k start (states ++ to ∷ []) (h * k + n + 1)
IsSearch-new {Step} {states = states} h n from to x letter here step only new =
    let (y, at, state) = search_place x h from here in
    let z : Place ℕ = record { state = to; parent = h; letter = n } in
    record {
      tree = x.tree ++ z ∷ [];
      queue = IsQueue-new x.queue h n y z refl letter at refl refl (subst (λ s. Step s n to) (sym state) step) (λ t other. only t (subst (λ s. Step s n t) state other))
          (λ j v found is. new (subst (λ l. Contains l to) x.lists (Contains-state x.tree j v to found is)));
      lists = map-append (λ (v : Place ℕ). v.state) x.tree (z ∷ []) ∙ ap (λ l. l ++ to ∷ []) x.lists;
    }

-- where the start is below n and steps lead below n, all states are below n
pub search-below : {Step : ℕ → ℕ → ℕ → Type 0} {k start : ℕ} {states : List ℕ} {e : ℕ} → IsSearch Step k start states e → (n : ℕ) → start < n
    → ((s a t : ℕ) → Step s a t → t < n)
    → (i s : ℕ) → slice_get states i ≡ Some s → s < n
search-below x n first steps i s at =
    let (y, stands, state) = search_place x i s at in
    subst (λ u. u < n) state (state-below x.queue n first steps i y stands)

-- where the start is below n and steps lead below n, there are at most n states
pub length-search-le : {Step : ℕ → ℕ → ℕ → Type 0} {k start : ℕ} {states : List ℕ} {e : ℕ} → IsSearch Step k start states e → (n : ℕ) → start < n
    → ((s a t : ℕ) → Step s a t → t < n) → length states ≤ n
length-search-le x n first steps = omega (arith, length-search x, length-queue-le x.queue n first steps)
