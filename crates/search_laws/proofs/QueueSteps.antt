-- A breadth first queue, one edge more at a time.
use Rattle.std.proofs.Common.{◌≡◌, ◌≢◌, ℕ, zero, suc, ◌+◌, ◌*◌, ◌<◌, ◌≤◌, List, [], ◌∷◌, ◌++◌, length, Some, refl, sym, ap, ap₂, ◌∙◌, subst, arith, ⊎_elim, slice_get, rules}
use Rattle.word_image.proofs.Common.{cases_eq, same_from_place, slice_get_within, slice_get-append, slice_get-push, slice_get-push_cases, only_place}
use Rattle.search_laws.specs.SearchQueues.{Place, IsBranch, HaveMet, IsFilled, IsQueue, filled}

-- when a place that isn't the first was filled
pub filled-later : {S : Type 0} (k i : ℕ) (x : Place S) → 0 < i → filled k i x ≡ x.parent * k + x.letter + 1
filled-later k zero x h = absurd (omega arith)
filled-later k (suc i) x h = refl

-- one more edge is followed
pub HaveMet-next : {S : Type 0} (Step : S → ℕ → S → Type 0) (Met : S → ℕ → Type 0) (k : ℕ) (tree : List (Place S)) (e h n : ℕ) (x : Place S)
    → HaveMet Step Met k tree e
    → e ≡ h * k + n → n < k → slice_get tree h ≡ Some x → ((t : S) → Step x.state n t → Met t (e + 1)) → HaveMet Step Met k tree (e + 1)
HaveMet-next Step Met k tree e h n x met edge below head next i a t y at letter less step = ⊎_elim
    (λ same.
    let parts = same_from_place i a h n k letter below (same ∙ edge) in
    let alike : y ≡ x = let there = subst (λ j. slice_get tree j ≡ Some y) parts.0 at in cc in
    subst (λ f. Met t (f + 1)) (sym same) (next t (subst (λ b. Step x.state b t) parts.1 (subst (λ z. Step z.state a t) alike step))))
    (λ other. met i a t y at letter (omega (arith, other)) step)
    (cases_eq (i * k + a) e)

-- a place that is added has no edge yet
pub HaveMet-push : {S : Type 0} (Step : S → ℕ → S → Type 0) (Met : S → ℕ → Type 0) (k : ℕ) (tree : List (Place S)) (e : ℕ) (y : Place S)
    → HaveMet Step Met k tree e
    → e ≤ length tree * k → HaveMet Step Met k (tree ++ y ∷ []) e
HaveMet-push Step Met k tree e y met all i a t z at letter less step = grind (arith, slice_get-push_cases)

-- an edge from a place of the list comes before all edges from places past its end
pub edge-within : {S : Type 0} (k : ℕ) (tree : List (Place S)) (h n : ℕ) (x : Place S) → slice_get tree h ≡ Some x → n ≤ k
    → h * k + n ≤ length tree * k
edge-within k tree h n x at most = search (rules, slice_get_within)

-- at the beginning the start stands alone
pub IsFilled-start : {S : Type 0} {Step : S → ℕ → S → Type 0} {Met : S → ℕ → Type 0} {k : ℕ} {start : S} (x : Place S) → x.state ≡ start
    → IsFilled Step Met k start (x ∷ []) 0
IsFilled-start {k = k} x starts = record {
  first = x;
  root = refl;
  starts = starts;
  branches = λ i y positive at. absurd (omega (arith, (only_place x y i at).0));
  so_far = λ i y at. subst (λ j. filled k j y ≤ 0) (sym (only_place x y i at).0) (omega arith);
  ascending = λ i j y z less at_i at_j. absurd (omega (arith, (only_place x z j at_j).0));
  done = λ i a t y at letter less step. absurd (omega arith);
}

pub IsQueue-start : {Step : ℕ → ℕ → ℕ → Type 0} {k start : ℕ} (x : Place ℕ) → x.state ≡ start → IsQueue Step k start (x ∷ []) 0
IsQueue-start x starts = grind arith

-- one more edge is followed, and nothing is added
pub IsFilled-there : {S : Type 0} {Step : S → ℕ → S → Type 0} {Met : S → ℕ → Type 0} {k : ℕ} {start : S} {tree : List (Place S)} {e : ℕ}
    → IsFilled Step Met k start tree e
    → (h n : ℕ) (x : Place S) → e ≡ h * k + n → n < k → slice_get tree h ≡ Some x → ((t : S) → Step x.state n t → Met t (e + 1))
    → IsFilled Step Met k start tree (e + 1)
IsFilled-there {Step = Step} {Met = Met} {k = k} {tree = tree} {e = e} q h n x edge below head met = record {
  first = q.first;
  root = q.root;
  starts = q.starts;
  branches = q.branches;
  so_far = λ i y at. omega (arith, q.so_far i y at);
  ascending = q.ascending;
  done = HaveMet-next Step Met k tree e h n x q.done edge below head met;
}

-- a queue stays one where one more edge is followed that leads to no state, or to states that are there
pub IsQueue-there : {Step : ℕ → ℕ → ℕ → Type 0} {k start : ℕ} {tree : List (Place ℕ)} {e : ℕ} → IsQueue Step k start tree e
    → (h n : ℕ) (x : Place ℕ) → e ≡ h * k + n → n < k → slice_get tree h ≡ Some x
    → ((t : ℕ) → Step x.state n t → (j : ℕ) × (y : Place ℕ) × (slice_get tree j ≡ Some y) × (y.state ≡ t))
    → IsQueue Step k start tree (e + 1)
IsQueue-there q h n x edge below head there = record {
  fills = IsFilled-there q.fills h n x edge below head (λ t step. let (j, y, at, same) = there t step in (j, y, at, same, omega (arith, q.fills.so_far j y at)));
  apart = q.apart;
}

-- one more edge is followed, and where it leads is added: what was met stays so, and where the edge leads is met
pub IsFilled-new : {S : Type 0} {Step : S → ℕ → S → Type 0} {Met More : S → ℕ → Type 0} {k : ℕ} {start : S} {tree : List (Place S)} {e : ℕ}
    → IsFilled Step Met k start tree e
    → (h n : ℕ) (x y : Place S) → e ≡ h * k + n → n < k → slice_get tree h ≡ Some x → y.parent ≡ h → y.letter ≡ n → Step x.state n y.state
    → ((t : S) (f : ℕ) → Met t f → More t f) → ((t : S) → Step x.state n t → filled k (length tree) y ≡ e + 1 → More t (e + 1))
    → IsFilled Step More k start (tree ++ y ∷ []) (e + 1)
IsFilled-new {Step = Step} {More = More} {k = k} {tree = tree} {e = e} q h n x y edge below head parent letter step stays met =
    let within = slice_get_within tree h x head in
    let late : (i : ℕ) → i ≡ length tree → filled k i y ≡ e + 1 = λ i last.
    filled-later k i y (omega (arith, last)) ∙ ap₂ (λ (p l : ℕ). p * k + l + 1) parent letter ∙ ap (λ j. j + 1) (sym edge) in
    let longer = slice_get-append tree (y ∷ []) in
    record {
      first = q.first;
      root = longer 0 q.first q.root;
      starts = q.starts;
      branches = λ i z positive at. ⊎_elim
          (λ before. let b = q.branches i z positive before in
          record { parent = b.parent; stands = longer z.parent b.parent b.stands; earlier = b.earlier; letter = b.letter; step = b.step })
          (λ last. subst (IsBranch Step k (tree ++ y ∷ []) i) last.1 (record {
            parent = x;
            stands = subst (λ j. slice_get (tree ++ y ∷ []) j ≡ Some x) (sym parent) (longer h x head);
            earlier = omega (arith, last.0);
            letter = omega arith;
            step = subst (λ b. Step x.state b y.state) (sym letter) step;
          }))
          (slice_get-push_cases tree y i z at);
      so_far = λ i z at. ⊎_elim
          (λ before. omega (arith, q.so_far i z before))
          (λ last. subst (λ v. filled k i v ≤ e + 1) last.1 (omega (arith, late i last.0)))
          (slice_get-push_cases tree y i z at);
      ascending = λ i j v z less at_i at_j. ⊎_elim
          (λ before. ⊎_elim
          (λ earlier. q.ascending i j v z less earlier before)
          (λ last. absurd (omega (arith, last.0, slice_get_within tree j z before)))
          (slice_get-push_cases tree y i v at_i))
          (λ last. ⊎_elim
          (λ earlier. subst (λ u. filled k i v < filled k j u) last.1 (omega (arith, late j last.0, q.so_far i v earlier)))
          (λ also. absurd (omega (arith, last.0, also.0)))
          (slice_get-push_cases tree y i v at_i))
          (slice_get-push_cases tree y j z at_j);
      done = HaveMet-push Step More k tree (e + 1) y (HaveMet-next Step More k tree e h n x (λ i a t z at letter less follows. stays t (i * k + a + 1) (q.done i a t z at letter less follows))
          edge below head (λ t follows. met t follows (late (length tree) refl))) (omega (arith, edge-within k tree h (n + 1) x head (omega arith)));
    }

-- a queue stays one where one more edge is followed that leads to a state that isn't there, and the state is added
pub IsQueue-new : {Step : ℕ → ℕ → ℕ → Type 0} {k start : ℕ} {tree : List (Place ℕ)} {e : ℕ} → IsQueue Step k start tree e
    → (h n : ℕ) (x y : Place ℕ) → e ≡ h * k + n → n < k → slice_get tree h ≡ Some x → y.parent ≡ h → y.letter ≡ n → Step x.state n y.state
    → ((t : ℕ) → Step x.state n t → t ≡ y.state)
    → ((j : ℕ) (z : Place ℕ) → slice_get tree j ≡ Some z → z.state ≢ y.state)
    → IsQueue Step k start (tree ++ y ∷ []) (e + 1)
IsQueue-new {tree = tree} q h n x y edge below head parent letter step only new =
    search (rules, slice_get-append, slice_get-push, slice_get-push_cases, IsFilled-new)
