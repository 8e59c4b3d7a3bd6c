-- A search through sets of nodes that are put into a list, and the unread sets that one lists.
use Rattle.image_minimal.proofs.Common.{◌≡◌, ℕ, suc, ◌+◌, ◌*◌, ◌<◌, ◌≤◌, List, [], ◌∷◌, length, slice_index, Some, Contains, refl, sym, ap, ◌∙◌, subst, arith, ⊎_elim, slice_get, mul-le-mul_right, suc-mul, slice_get_within, slice_get-get_or, slice_get-append, LocalRule, Leads, Place, IsQueue, IsSearch, Leads-induct, place_of_listed, Contains-state, IsSearch-start, IsSearch-there, IsSearch-new, length-search, TreeSpells-some, Leads-spelled, IsBack, IsUnread, IsUnreadSet, IsInserted, AreUnreadSets}

-- at the beginning the start is put into an empty list
pub IsSearch-first : (Step : ℕ → ℕ → ℕ → Type 0) (k : ℕ) {start : ℕ} {old new : List ℕ} → old ≡ [] → IsInserted old new start
    → IsSearch Step k start new (0 * k)
IsSearch-first Step k {start} {old} {new} none h = grind (arith, IsSearch-start)

-- a search in which the steps on the first letters have been followed from the state at a place
pub record IsSearchAt (Step : ℕ → ℕ → ℕ → Type 0) (k start : ℕ) (states : List ℕ) (place from letter : ℕ) : Type 0 where
  pub search : IsSearch Step k start states (place * k + letter)
  pub here : slice_get states place ≡ Some from

-- before the first letter
pub IsSearchAt-start : {Step : ℕ → ℕ → ℕ → Type 0} {k start : ℕ} {states : List ℕ} {place from : ℕ} → IsSearch Step k start states (place * k)
    → place < length states → from ≡ slice_index states place
    → IsSearchAt Step k start states place from 0
IsSearchAt-start {Step} {k} {start} {states} {place} x inside is = record { search = subst (IsSearch Step k start states) (omega arith) x; here = slice_get-get_or states place 0 inside ∙ ap Some (sym is) }

-- one more step is followed, to a state that is put into the list
pub IsSearchAt-insert : {Step : ℕ → ℕ → ℕ → Type 0} {k start : ℕ} {states new : List ℕ} {place from letter to : ℕ}
    → IsSearchAt Step k start states place from letter → letter < k
    → Step from letter to → ((t : ℕ) → Step from letter t → to ≡ t) → IsInserted states new to → IsSearchAt Step k start new place from (letter + 1)
IsSearchAt-insert {Step} {k} {start} {states} {new} {place} {from} {letter} {to} h below step only added =
    let next : place * k + letter + 1 ≡ place * k + (letter + 1) = omega arith in
    ⊎_elim
    (λ (same, there). grind (arith, IsSearch-there))
    (λ (absent, longer). grind (arith, IsSearch-new, slice_get-append))
    added

-- where steps backwards lead is an unread set
unread_leads : {r : LocalRule} {w : List ℕ} {set : ℕ} → Leads (IsBack r) r.states 0 w set → IsUnreadSet r set
unread_leads {r} {w} {set} = Leads-induct (λ _ s. IsUnreadSet r s) ([], refl) (λ v a s t before letter step (z, unread). (a ∷ z, (s, (letter, step), unread))) w set

-- where all edges are followed each unread set is listed
listed_unread : {r : LocalRule} {tree : List (Place ℕ)} {e : ℕ} → IsQueue (IsBack r) r.states 0 tree e → length tree * r.states ≤ e
    → (z : List ℕ) (set : ℕ) → IsUnread r z set → (i : ℕ) × (x : Place ℕ) × (slice_get tree i ≡ Some x) × (x.state ≡ set)
listed_unread q closed [] set unread = (0, q.fills.first, q.fills.root, q.fills.starts ∙ sym unread)
listed_unread {r} {tree} {e} q closed (a ∷ z) set (rest, (letter, back), unread) =
    let (i, x, at, same) = listed_unread q closed z rest unread in
    let row : suc i * r.states ≤ length tree * r.states = mul-le-mul_right r.states (slice_get_within tree i x at) in
    let found = q.fills.done i a set x at letter (omega (arith, suc-mul i r.states)) (subst (λ s. IsBack r s a set) (sym same) back) in
    (found.0, found.1, found.2, found.3)

-- where all edges are followed exactly the unread sets are listed
pub AreUnreadSets-closed : {r : LocalRule} {sets : List ℕ} {e : ℕ} → IsSearch (IsBack r) r.states 0 sets e → length sets * r.states ≤ e
    → AreUnreadSets r sets
AreUnreadSets-closed {r} {sets} {e} x closed set = (
  (λ has.
      let (i, y, at, state) = place_of_listed x.tree set (subst (λ l. Contains l set) (sym x.lists) has) in
      let word = TreeSpells-some x.queue.fills i y at in
      subst (IsUnreadSet r) state (unread_leads (Leads-spelled x.queue.fills word.1 y at))),
  (λ (z, unread).
      let (i, y, at, state) = listed_unread x.queue (subst (λ n. n * r.states ≤ e) (sym (length-search x)) closed) z set unread in
      subst (λ l. Contains l set) x.lists (Contains-state x.tree i y set at state)),
)
