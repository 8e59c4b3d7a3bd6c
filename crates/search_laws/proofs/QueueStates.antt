-- The states of a breadth first queue: each is listed once, so there are no more places than states.
use Rattle.std.proofs.Common.{◌≡◌, ◌≢◌, ℕ, zero, suc, ◌<◌, ◌≤◌, List, [], ◌∷◌, length, map, Some, Contains, AllPairs, refl, sym, ap, ◌∙◌, subst, arith, ⊎_elim, option_map, slice_get}
use Rattle.std.proofs.lemmas.Map.Made.{IsDistinct-from_AllPairs}
use Rattle.std.proofs.lemmas.Map.Steps.{length-le_from_distinct_below}
use Rattle.std.proofs.lemmas.Map.Views.{Contains-from_any}
use Rattle.word_image.proofs.Common.{Decides-eqb, cases_eq, length-map, slice_get_within, slice_get-get_or, get_or_from_slice_get, slice_get-map, none-some}
use Rattle.search_laws.specs.SearchQueues.{Place, IsFilled, IsQueue}

-- the states of a list, in its order
abbrev pub states_of : List (Place ℕ) → List ℕ
states_of = map (λ x. x.state)

-- what stands in a list stands there when all is mapped
pub mapped_at : {X Y : Type 0} (f : X → Y) (xs : List X) (i : ℕ) (x : X) → slice_get xs i ≡ Some x → slice_get (map f xs) i ≡ Some (f x)
mapped_at f xs i x at = slice_get-map f xs i ∙ ap (option_map f) at

-- what stands in a list that was mapped comes from what stood there
pub unmapped_at : {X Y : Type 0} (f : X → Y) (xs : List X) (i : ℕ) (y : Y) → slice_get (map f xs) i ≡ Some y
    → (x : X) × (slice_get xs i ≡ Some x) × (f x ≡ y)
unmapped_at f [] i y at = absurd (none-some y at)
unmapped_at f (x ∷ xs) zero y at = (x, refl, cc)
unmapped_at f (x ∷ xs) (suc i) y at = unmapped_at f xs i y at

-- the state of a place is listed
pub Contains-state : (tree : List (Place ℕ)) (i : ℕ) (x : Place ℕ) (set : ℕ) → slice_get tree i ≡ Some x → x.state ≡ set
    → Contains (states_of tree) set
Contains-state tree i x set at same =
    let there = mapped_at (λ y. y.state) tree i x at ∙ ap Some same in
    (i, slice_get_within (states_of tree) i set there, get_or_from_slice_get (states_of tree) i set set there)

-- a listed state has a place
pub place_of_listed : (tree : List (Place ℕ)) (set : ℕ) → Contains (states_of tree) set
    → (i : ℕ) × (x : Place ℕ) × (slice_get tree i ≡ Some x) × (x.state ≡ set)
place_of_listed tree set (i, below, same) = grind (arith, unmapped_at, slice_get-get_or)

-- what holds of the start, and where each step leads, holds of each state
pub state-all : {S : Type 0} {Step : S → ℕ → S → Type 0} {Met : S → ℕ → Type 0} {k : ℕ} {start : S} {tree : List (Place S)} {e : ℕ}
    → IsFilled Step Met k start tree e
    → (P : S → Type 0) → P start → ((s : S) (a : ℕ) (t : S) → Step s a t → P t) → (i : ℕ) (x : Place S) → slice_get tree i ≡ Some x → P x.state
state-all {tree = tree} q P first steps i x at =
    ⊎_elim
    (grind arith)
    (λ some. let b = q.branches i x (omega arith) at in steps b.parent.state x.letter x.state b.step)
    (cases_eq i 0)

module _ {Step : ℕ → ℕ → ℕ → Type 0} {k start : ℕ} {tree : List (Place ℕ)} {e : ℕ} (q : IsQueue Step k start tree e) where
  -- each state is below n if the start is, and each step leads below n
  pub state-below : (n : ℕ) → start < n → ((s a t : ℕ) → Step s a t → t < n) → (i : ℕ) (x : Place ℕ) → slice_get tree i ≡ Some x → x.state < n
  state-below n first steps = state-all q.fills (λ s. s < n) first steps

  -- no state is listed twice
  pub states-apart : AllPairs (λ s t. s ≢ t) (states_of tree)
  states-apart i j d less within same =
      let first = unmapped_at (λ x. x.state) tree i _ (slice_get-get_or (states_of tree) i d (omega arith)) in
      let second = unmapped_at (λ x. x.state) tree j _ (slice_get-get_or (states_of tree) j d within) in
      let one = q.apart i j first.0 second.0 first.1 second.1 (first.2 ∙ same ∙ sym second.2) in
      omega (arith, one)

  -- a queue has no more places than there are states
  pub length-queue-le : (n : ℕ) → start < n → ((s a t : ℕ) → Step s a t → t < n) → length tree ≤ n
  length-queue-le n first steps =
      let few = length-le_from_distinct_below (states_of tree) n (IsDistinct-from_AllPairs Decides-eqb (states_of tree) states-apart) (λ s any.
      let found = place_of_listed tree s (Contains-from_any (λ x y same. (Decides-eqb x y).0 same) s (states_of tree) any) in
      subst (λ z. z < n) found.3 (state-below n first steps found.0 found.1 found.2)) in
      omega (arith, few, length-map tree (λ x. x.state))
