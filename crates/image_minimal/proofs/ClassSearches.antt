-- A search through the closures has the classes of the least automaton in the end.
use Rattle.image_minimal.proofs.Common.{◌≡◌, ℕ, suc, ◌+◌, ◌*◌, ◌/◌, ◌%◌, ◌^◌, ◌<◌, ◌≤◌, List, length, replicate, slice_index, Option, Some, None, refl, sym, ap, ◌∙◌, subst, subst₂, arith, ⊎_elim, slice_get, pow_pos, mul-le-mul_right, suc-mul, cases_eq, same_Some, same_from_place, slice_get_within, slice_get-get_or, get_or_from_slice_get, none-some, length-replicate, LocalRule, IsRule, node_count, some_below, mapped_at, search_place, search-below, length-search, length-search-le, chosen, IsSearch, IsStep, IsStep-some, IsSetOf-unique, Automaton, IsLeastAutomaton, IsClosedStep, AreClosures, IsPlaceOf, IsClassSearch, HasClasses}
use Rattle.image_minimal.proofs.laws.ClosedSteps.{closed_step}
use Rattle.image_minimal.proofs.laws.Classes.{AreClassWords-closed, IsNextClass-step, IsDeadClass-place}
use Rattle.image_minimal.proofs.laws.ClassLists.{table_place, IsLeastAutomaton-unique}

-- there are no more classes than sets of nodes
pub length-classes-le : {r : LocalRule} {classes : List ℕ} {e : ℕ} → IsClassSearch r classes e → length classes ≤ 2 ^ node_count r
length-classes-le {r} x = length-search-le x (2 ^ node_count r) (omega (arith, pow_pos (node_count r))) (λ s a t step. step.closure.of.within)

-- each class is a set of nodes
pub class-below : {r : LocalRule} {classes : List ℕ} {e : ℕ} → IsClassSearch r classes e → (i : ℕ) → i < length classes
    → slice_index classes i < 2 ^ node_count r
class-below {r} {classes} x i l = search-below x (2 ^ node_count r) (omega (arith, pow_pos (node_count r))) (λ s a t step. step.closure.of.within) i (slice_index classes i) (slice_get-get_or classes i 0 l)

-- if all edges have been followed, a closed step from a class leads to a class
class_after : {r : LocalRule} {classes : List ℕ} {e : ℕ} → IsClassSearch r classes e → length classes * r.states ≤ e → (i a to : ℕ)
    → i < length classes → a < r.states → IsClosedStep r (slice_index classes i) a to
    → (j : ℕ) × (slice_get classes j ≡ Some to)
class_after {r} {classes} x closed i a to inside letter step =
    let (y, at, state) = search_place x i (slice_index classes i) (slice_get-get_or classes i 0 inside) in
    let row : suc i * r.states ≤ length classes * r.states = mul-le-mul_right r.states inside in
    let (j, z, stands, leads, early) = x.queue.fills.done i a to y at letter (omega (arith, suc-mul i r.states)) (subst (λ s. IsClosedStep r s a to) (sym state) step) in
    (j, subst (λ l. slice_get l j ≡ Some to) x.lists (mapped_at (λ v. v.state) x.tree j z stands ∙ ap Some leads))

-- a state stands at one place of a search
one_place : {Step : ℕ → ℕ → ℕ → Type 0} {k start : ℕ} {states : List ℕ} {e : ℕ} → IsSearch Step k start states e → (i j s : ℕ)
    → slice_get states i ≡ Some s → slice_get states j ≡ Some s → i ≡ j
one_place x i j s at also =
    let (y, here, same) = search_place x i s at in
    let (z, there, other) = search_place x j s also in
    x.queue.apart i j y z here there (same ∙ sym other)

-- a state stands somewhere in a search or nowhere
place_in : {Step : ℕ → ℕ → ℕ → Type 0} {k start : ℕ} {states : List ℕ} {e : ℕ} → IsSearch Step k start states e → (s : ℕ)
    → (place : Option ℕ) × IsPlaceOf states s place
place_in {states = states} x s =
    ⊎_elim
    (λ (i, inside, same).
    let at = slice_get-get_or states i 0 inside ∙ ap Some same in
    (Some i, λ j. ((λ e. subst (λ g. slice_get states g ≡ Some s) (same_Some i j e) at), (λ also. ap Some (one_place x i j s at also)))))
    (λ none. (None, λ i. ((λ e. absurd (none-some i e)), (λ at. absurd (none i (slice_get_within states i s at) (get_or_from_slice_get states i s 0 at))))))
    (some_below (λ i. slice_index states i ≡ s) (λ i. cases_eq (slice_index states i) s) (length states))

-- if all edges have been followed, there is a least automaton, of these classes
pub HasClasses-closed : {r : LocalRule} {closures classes : List ℕ} {e : ℕ} → IsRule r → AreClosures r closures → IsClassSearch r classes e
    → length classes * r.states ≤ e → HasClasses r closures classes
HasClasses-closed {r} {closures} {classes} rule have x closed =
    let k = r.states in
    let (words, are) = AreClassWords-closed rule have x closed in
    let size : ℕ = length classes * k in
    let Leads : ℕ → ℕ → ℕ → Type 0 = λ i a j. slice_get classes j ≡ Some (slice_index closures (IsStep-some r (slice_index classes i) a).0) in
    let (next, long, fits) = chosen {X = ℕ} (replicate size 0) (λ e j. (i a : ℕ) → i * k + a ≡ e → a < k → Leads i a j) (λ e y at.
    let (inside, letter, same) = table_place (length classes) k e (omega (arith, slice_get_within (replicate size 0) e y at, length-replicate {A = ℕ} size 0)) in
    let step = IsStep-some r (slice_index classes (e / k)) (e % k) in
    let (j, there) = class_after x closed (e / k) (e % k) (slice_index closures step.0) inside letter (closed_step (slice_index classes (e / k)) (e % k) have step.1) in (
      j,
      λ i a is below. let (row, column) = same_from_place i a (e / k) (e % k) k below letter (is ∙ same) in subst₂ (λ g b. Leads g b j) (sym row) (sym column) there,
    )) in
    let full : length next ≡ size = sym long ∙ length-replicate {A = ℕ} size 0 in
    let entry : (i a : ℕ) → i < length classes → a < k → Leads i a (slice_index next (i * k + a)) =
    grind (arith, mul-le-mul_right, suc-mul, slice_get-get_or) in
    let (dead, place) = place_in x 0 in
    record {
      rule = rule;
      closed = have;
      automaton = record { states = k; classes = length classes; next = next; dead = dead };
      least = record {
        words = words;
        states = refl;
        list = are.list;
        classes = are.long;
        long = full;
        next = λ i a inside letter.
            let step = IsStep-some r (slice_index classes i) a in
            IsNextClass-step rule are i a (slice_index next (i * k + a)) (slice_index classes i) (slice_index closures step.0) (slice_get-get_or classes i 0 inside) (entry i a inside letter) letter
            (closed_step (slice_index classes i) a have step.1);
        dead = IsDeadClass-place rule have are dead place;
      };
      long = refl;
      some = omega (arith, slice_get_within x.tree 0 x.queue.fills.first x.queue.fills.root, length-search x);
      below = class-below x;
      next = λ i a from to inside is letter step. entry i a inside letter ∙ ap (λ t. Some (slice_index closures t)) (IsSetOf-unique (IsStep-some r (slice_index classes i) a).1 (subst (λ s. IsStep r s a to) is step));
      dead = place;
    }

-- it is the least automaton
pub the_automaton : {r q : LocalRule} {closures classes : List ℕ} {m : Automaton} → (h : HasClasses r closures classes) → r ≡ q → IsLeastAutomaton q m
    → h.automaton ≡ m
the_automaton {m = m} h same least = IsLeastAutomaton-unique h.rule h.least (subst (λ r. IsLeastAutomaton r m) (sym same) least)

-- a class of the least automaton is listed
pub class_inside : {r q : LocalRule} {closures classes : List ℕ} → HasClasses r closures classes → r ≡ q → (i : ℕ)
    → ((m : Automaton) → IsLeastAutomaton q m → i < m.classes) → i < length classes
class_inside h same i inside = omega (arith, h.long, inside h.automaton (subst (λ r. IsLeastAutomaton r h.automaton) same h.least))
