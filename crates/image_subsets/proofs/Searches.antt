-- A search through the sets, one edge more at a time, and the family that it lists in the end.
use Rattle.std.proofs.Common.{◌≡◌, ◌≢◌, ℕ, ◌+◌, ◌-◌, ◌*◌, ◌^◌, ◌<◌, ◌≤◌, List, [], ◌∷◌, ◌++◌, length, slice_index, Option, Some, None, MatchOption, Contains, false, refl, sym, ap, ◌∙◌, subst, subst₂, arith, ⊎_elim, slice_get, pow_mono, pow_pos}
use Rattle.word_image.proofs.Common.{slice_get_within, slice_get-get_or, get_or_from_slice_get, get_or_append_left, length_push, Contains-push_cases, LocalRule, IsRule, node_count, full_set, IsStep, IsFamily, node_count_pos, slice_get-append, slice_get-push, slice_get-push_cases, only_place}
use Rattle.search_laws.proofs.Common.{Place, states_of, mapped_at, IsSearch-start, IsSearch-there, IsSearch-new, search_place, search-below, length-search, length-search-le, IsSetOf-unique, IsFamily-closed, IsFamily-stopped}
use Rattle.search_laws.proofs.LeastSteps.{parent-least}
use Rattle.image_subsets.specs.FamilyTrees.{IsTree, IsLeastParent, IsFamilyTree}
use Rattle.image_subsets.specs.Searches.{IsWay, IsTreeSearch, EndsEmpty, IsExpanded}

-- a way stays one where places are added
IsWay-more : (tree more : List (Place ℕ)) (i : ℕ) (way : Option (ℕ × ℕ)) → IsWay tree i way → IsWay (tree ++ more) i way
IsWay-more tree more i None none = none
IsWay-more tree more i (Some (p, a)) (x, later, at, from, by) = (x, later, slice_get-append tree more i x at, from, by)

-- the full set alone is a search that has just begun, and it isn't empty
pub IsExpanded-start : {r : LocalRule} → IsRule r → IsExpanded r (full_set r ∷ []) (None ∷ []) (0 * r.states) false
IsExpanded-start {r} rule =
    let none : 0 * r.states ≡ 0 = omega arith in
    let search = IsSearch-start (IsStep r) r.states (full_set r) in (
      rw none (record { search = search; one_each = refl; ways = λ i way at. let only = only_place None way i at in subst (IsWay search.tree i) only.1 only.0 }),
      λ has. ⊎_elim (λ before. omega (arith, before.1)) (λ empty. omega (arith, empty, pow_mono {i = 1} {j = node_count r} (node_count_pos rule)))
          (Contains-push_cases [] (full_set r) 0 has),
    )

module _ {r : LocalRule} {sets : List ℕ} {parents : List (Option (ℕ × ℕ))} {e : ℕ} (h : IsTreeSearch r sets parents e) where
  -- the set that stands at a place
  pub state_at : (i : ℕ) (x : Place ℕ) → slice_get h.search.tree i ≡ Some x → (i < length sets) × (slice_index sets i ≡ x.state)
  state_at i x at =
      let there : slice_get sets i ≡ Some x.state = subst (λ l. slice_get l i ≡ Some x.state) h.search.lists (mapped_at (λ y. y.state) h.search.tree i x at) in
      (slice_get_within sets i x.state there, get_or_from_slice_get sets i x.state 0 there)

  -- the sets are sets of nodes
  pub set-below : (i : ℕ) → i < length sets → slice_index sets i < 2 ^ node_count r
  set-below i below =
      search-below h.search (2 ^ node_count r) (omega (arith, pow_pos (node_count r))) (λ s a t step. step.within) i (slice_index sets i) (slice_get-get_or sets i 0 below)

  -- the parents of a search are the least ones
  IsLeastParent-search : (i p a : ℕ) → slice_get parents i ≡ Some (Some (p, a)) → IsLeastParent r sets i p a
  IsLeastParent-search i p a way =
      let (x, positive, at, from_p, by_a) = h.ways i (Some (p, a)) way in
      let set = slice_index sets i in
      let state : x.state ≡ set = sym (state_at i x at).1 in
      let branch = h.search.queue.fills.branches i x positive at in
      let from = state_at x.parent branch.parent branch.stands in
      let least = λ (q b : ℕ) (less : q < length sets) (letter : b < r.states) (step : IsStep r (slice_index sets q) b set).
      let (y, there, other) = search_place h.search q (slice_index sets q) (slice_get-get_or sets q 0 less) in
      parent-least h.search.queue i q b x y positive at there letter (subst₂ (λ s t. IsStep r s b t) (sym other) (sym state) step) in
      subst₂ (λ q b. IsLeastParent r sets i q b) from_p by_a (record {
        earlier = branch.earlier;
        letter = branch.letter;
        step = subst₂ (λ s t. IsStep r s x.letter t) (sym from.1) state branch.step;
        least_place = λ q b less letter step. (least q b less letter step).0;
        least_letter = λ b letter step. (least x.parent b from.0 letter step).1 refl;
      })

  -- each parent stands before its set
  pub earlier_of : (i : ℕ) (way : Option (ℕ × ℕ)) → slice_get parents i ≡ Some way → MatchOption way (i ≡ 0) (λ (p, a). p < i)
  earlier_of i None at = h.ways i None at
  earlier_of i (Some (p, a)) at = (IsLeastParent-search i p a at).earlier

  -- each set has its least parent, but for the first, which has none
  parent_of : (i : ℕ) (way : Option (ℕ × ℕ)) → slice_get parents i ≡ Some way → MatchOption way (i ≡ 0) (λ (p, a). IsLeastParent r sets i p a)
  parent_of i None at = h.ways i None at
  parent_of i (Some (p, a)) at = IsLeastParent-search i p a at

module _ {r : LocalRule} {sets : List ℕ} {parents : List (Option (ℕ × ℕ))} {e : ℕ} (rule : IsRule r) (h : IsTreeSearch r sets parents e) where
  -- a search of the sets of at most 16 nodes has at most 65,536 sets
  pub length-search-most : length sets ≤ 65536
  length-search-most =
      let few = length-search-le h.search (2 ^ node_count r) (omega (arith, pow_pos (node_count r))) (λ s a t step. step.within) in
      omega (arith, few, pow_mono {i = node_count r} {j = 16} rule.shape.most_nodes)

  -- a search lists a tree
  pub IsTree-search : IsTree (record { sets = sets; parents = parents })
  IsTree-search = record {
    most = length-search-most;
    one_each = h.one_each;
    earlier = earlier_of h;
  }

  -- the sets of a search and their parents, if the sets are a family
  IsFamilyTree-search : IsFamily r (states_of h.search.tree) → IsFamilyTree r (record { sets = sets; parents = parents })
  IsFamilyTree-search family =
      let q = h.search.queue.fills in
      let first = state_at h 0 q.first q.root in
      record {
        rule = rule;
        family = subst (IsFamily r) h.search.lists family;
        starts = slice_get-get_or sets 0 0 first.0 ∙ ap Some (first.1 ∙ q.starts);
        parents = parent_of h;
      }

  -- where all edges were followed and no set is empty, the search has listed the family
  pub IsFamilyTree-closed : length sets * r.states ≤ e → ¬ Contains sets 0 → IsFamilyTree r (record { sets = sets; parents = parents })
  IsFamilyTree-closed all nonempty =
      IsFamilyTree-search (IsFamily-closed rule h.search.queue (subst (λ n. n * r.states ≤ e) (sym (length-search h.search)) all) (λ i x _ at empty.
      let there = state_at h i x at in
      nonempty (i, there.0, there.1 ∙ empty)))

  -- where the empty set was found last, the search has listed the family
  pub IsFamilyTree-stopped : EndsEmpty sets → IsFamilyTree r (record { sets = sets; parents = parents })
  IsFamilyTree-stopped empty =
      let (x, at, state) = search_place h.search (length sets - 1) 0 empty in
      let some = slice_get_within sets (length sets - 1) 0 empty in
      IsFamilyTree-search (IsFamily-stopped rule h.search.queue (length sets - 1) x (omega (arith, length-search h.search)) at state)

-- the empty set was added last
pub EndsEmpty-push : (sets : List ℕ) (after : ℕ) → after ≡ 0 → EndsEmpty (sets ++ after ∷ [])
EndsEmpty-push sets after empty =
    ap (slice_get (sets ++ after ∷ [])) (omega (arith, length_push sets after)) ∙ slice_get-push sets after ∙ ap Some empty

-- the edges from the places before h are followed, and from h, where the set stands, those of the first n letters; no set is empty
pub record IsExpanding (r : LocalRule) (sets : List ℕ) (parents : List (Option (ℕ × ℕ))) (h set n : ℕ) : Type 0 where
  pub so_far : IsTreeSearch r sets parents (h * r.states + n)
  pub nonempty : ¬ Contains sets 0
  pub within : h < length sets
  pub here : slice_index sets h ≡ set

-- the set whose edges are followed stands at its place
head_at : {r : LocalRule} {sets : List ℕ} {parents : List (Option (ℕ × ℕ))} {h set n : ℕ} → IsExpanding r sets parents h set n
    → slice_get sets h ≡ Some set
head_at {sets = sets} {h = h} x = slice_get-get_or sets h 0 x.within ∙ ap Some x.here

-- the number of the edge after the edge of the letter n from place h
edge : (h k n : ℕ) → h * k + (n + 1) ≡ h * k + n + 1
edge h k n = omega arith

-- the next step leads to a set that is there
pub IsExpanding-there : {r : LocalRule} {sets : List ℕ} {parents : List (Option (ℕ × ℕ))} {h set n : ℕ} → IsExpanding r sets parents h set n
    → (after : ℕ) → n < r.states → IsStep r set n after → Contains sets after → IsExpanding r sets parents h set (n + 1)
IsExpanding-there {r} {sets} {parents} {h} {set} {n} x after letter step has =
    record {
      so_far = rw (edge h r.states n) (record {
        search = IsSearch-there h n set x.so_far.search letter (head_at x) (λ t other. subst (Contains sets) (IsSetOf-unique step other) has);
        one_each = x.so_far.one_each;
        ways = x.so_far.ways;
      });
      nonempty = x.nonempty;
      within = x.within;
      here = x.here;
    }

-- the next step leads to a set that is new
pub IsTreeSearch-expanding : {r : LocalRule} {sets : List ℕ} {parents : List (Option (ℕ × ℕ))} {h set n : ℕ} → IsExpanding r sets parents h set n
    → (after : ℕ) → n < r.states → IsStep r set n after → ¬ Contains sets after
    → IsTreeSearch r (sets ++ after ∷ []) (parents ++ Some (h, n) ∷ []) (h * r.states + (n + 1))
IsTreeSearch-expanding {r} {sets} {parents} {h} {set} {n} x after letter step new =
    let old = x.so_far in
    let z : Place ℕ = record { state = after; parent = h; letter = n } in
    let tree = old.search.tree in
    rw (edge h r.states n) (record {
      search = IsSearch-new h n set after old.search letter (head_at x) step (λ t other. IsSetOf-unique other step) new;
      one_each = omega (arith, length_push parents (Some (h, n)), length_push sets after, old.one_each);
      ways = λ i way at. ⊎_elim
          (λ before. IsWay-more tree (z ∷ []) i way (old.ways i way before))
          (λ last.
          let there : slice_get (tree ++ z ∷ []) i ≡ Some z = subst (λ j. slice_get (tree ++ z ∷ []) j ≡ Some z) (omega (arith, last.0, old.one_each, length-search old.search)) (slice_get-push tree z) in
          subst (IsWay (tree ++ z ∷ []) i) last.1 (z, omega (arith, last.0, old.one_each, x.within), there, refl, refl))
          (slice_get-push_cases parents (Some (h, n)) i way at);
    })

-- the next step leads to a set that is new and isn't empty
pub IsExpanding-new : {r : LocalRule} {sets : List ℕ} {parents : List (Option (ℕ × ℕ))} {h set n : ℕ} → IsExpanding r sets parents h set n
    → (after : ℕ) → n < r.states → IsStep r set n after → ¬ Contains sets after → after ≢ 0
    → IsExpanding r (sets ++ after ∷ []) (parents ++ Some (h, n) ∷ []) h set (n + 1)
IsExpanding-new {r} {sets} {parents} {h} {set} {n} x after letter step new some =
    record {
      so_far = IsTreeSearch-expanding x after letter step new;
      nonempty = λ has. ⊎_elim x.nonempty some (Contains-push_cases sets after 0 has);
      within = omega (arith, x.within, length_push sets after);
      here = get_or_append_left sets (after ∷ []) 0 h x.within ∙ x.here;
    }
