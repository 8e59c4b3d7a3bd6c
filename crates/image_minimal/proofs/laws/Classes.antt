-- The closures that a search lists are the classes of alike words, in the order of their least words.
use Rattle.image_minimal.proofs.Common.{◌≡◌, ℕ, ◌+◌, ◌*◌, ◌<◌, ◌≤◌, ◌↔◌, List, [], length, get_or, Option, Some, None, refl, sym, ap, ◌∙◌, subst, arith, slice_get, iff_then, slice_get_within, slice_get-get_or, LocalRule, IsRule, IsOrphan, full_set, slice_get-unique, IsPreimage-nonempty_set, Place, TreeSpells, Leads-push, TreeSpells-some, TreeSpells-ascending, chosen, stands_at, length-search, mapped_at, IsLeastTo, IsLeastTo-spelled, reached_all, Alike, IsClassList, IsNextClass, IsDeadClass, IsClosedStep, AreClosures, IsPlaceOf, IsClassSearch}
use Rattle.image_minimal.proofs.laws.Unread.{IsOrphan-last}
use Rattle.image_minimal.proofs.laws.Closures.{Alike-closure, IsClosure-empty}
use Rattle.image_minimal.proofs.laws.ClosedSteps.{LeadsToClosure, IsLastClosure-leads, LeadsToClosure-some}

-- words are alike exactly where they lead to one closure
Alike-leads : {r : LocalRule} {x y : List ℕ} {closure other : ℕ} → IsRule r → LeadsToClosure r x closure → LeadsToClosure r y other
    → (Alike r x y ↔ (closure ≡ other))
Alike-leads rule of_x of_y =
    let a = IsLastClosure-leads rule of_x in
    let b = IsLastClosure-leads rule of_y in
    Alike-closure rule a.last b.last a.closes b.closes

-- the words of the classes, in their order
pub record AreClassWords (r : LocalRule) (classes : List ℕ) (words : List (List ℕ)) : Type 0 where
  pub long : length classes ≡ length words
  pub leads : (i s : ℕ) (w : List ℕ) → slice_get classes i ≡ Some s → slice_get words i ≡ Some w → LeadsToClosure r w s
  pub list : IsClassList r words

-- where all edges are followed there are words of the classes
pub AreClassWords-closed : {r : LocalRule} {closures classes : List ℕ} {e : ℕ} → IsRule r → AreClosures r closures → IsClassSearch r classes e
    → length classes * r.states ≤ e
    → (words : List (List ℕ)) × AreClassWords r classes words
AreClassWords-closed {r} {closures} {classes} {e} rule have x closed =
    let q = x.queue in
    let (words, long, spelled) = chosen x.tree (TreeSpells x.tree) (TreeSpells-some q.fills) in
    let all : length x.tree * r.states ≤ e = rw (length-search x) closed in
    let place : (i : ℕ) (w : List ℕ) → slice_get words i ≡ Some w → (y : Place ℕ) × (slice_get x.tree i ≡ Some y) × IsLeastTo (IsClosedStep r) r.states (full_set r) y.state w = λ i w at.
    let (y, stands) = stands_at x.tree i (omega (arith, long, slice_get_within words i w at)) in
    (y, stands, IsLeastTo-spelled q (spelled i w at) y stands) in (
      words,
      record {
        long = sym (length-search x) ∙ long;
        leads = grind (arith, mapped_at, LeadsToClosure, slice_get-unique);
        list = record {
          least = λ i w at.
              let (y, stands, first) = place i w at in
              record {
                word = first.leads.word;
                least = λ v word alike. let (end, leads) = LeadsToClosure-some have v word in first.least v (subst (LeadsToClosure r v) ((Alike-leads rule leads first.leads).0 alike) leads);
              };
          ascending = λ i v w at also.
              let (y, here, _) = place i v at in
              let (z, next, _) = place (i + 1) w also in
              TreeSpells-ascending q.fills (omega arith) (spelled i v at) (spelled (i + 1) w also) y z here next;
          all = λ v word.
              let (end, leads) = LeadsToClosure-some have v word in
              let reached = reached_all q all v end leads in
              let w = get_or words reached.at [] in
              let at = slice_get-get_or words reached.at [] (omega (arith, sym long, slice_get_within x.tree reached.at reached.place reached.stands)) in
              let (y, stands, first) = place reached.at w at in
              (reached.at, w, at, (Alike-leads rule leads first.leads).1 (sym reached.of_state ∙ ap (λ z. z.state) (slice_get-unique x.tree reached.at reached.place y reached.stands stands)));
        };
      },
    )

-- the word of a class
word_at : {r : LocalRule} {classes : List ℕ} {words : List (List ℕ)} → AreClassWords r classes words → (i s : ℕ) → slice_get classes i ≡ Some s
    → (w : List ℕ) × (slice_get words i ≡ Some w) × LeadsToClosure r w s
word_at {classes = classes} {words} c i s at =
    let w = get_or words i [] in
    let stands = slice_get-get_or words i [] (omega (arith, sym c.long, slice_get_within classes i s at)) in
    (w, stands, c.leads i s w at stands)

-- a closed step from one class to another
pub IsNextClass-step : {r : LocalRule} {classes : List ℕ} {words : List (List ℕ)} → IsRule r → AreClassWords r classes words → (i a j from to : ℕ)
    → slice_get classes i ≡ Some from → slice_get classes j ≡ Some to
    → a < r.states → IsClosedStep r from a to → IsNextClass r words i a j
IsNextClass-step rule c i a j from to at also letter step =
    let (v, at_v, of_v) = word_at c i from at in
    let (w, at_w, of_w) = word_at c j to also in
    record { from = v; to = w; from_is = at_v; to_is = at_w; alike = (Alike-leads rule (Leads-push of_v letter step) of_w).1 refl }

-- a word is an orphan exactly where it leads to the empty set
IsOrphan-leads : {r : LocalRule} {w : List ℕ} {closure : ℕ} → IsRule r → LeadsToClosure r w closure → (IsOrphan r w ↔ (closure ≡ 0))
IsOrphan-leads rule leads =
    let h = IsLastClosure-leads rule leads in
    iff_then (IsOrphan-last rule h.last) (IsClosure-empty h.last.last.within h.closes)

-- the place of the empty set is the class of the orphans
pub IsDeadClass-place : {r : LocalRule} {closures classes : List ℕ} {words : List (List ℕ)} → IsRule r → AreClosures r closures
    → AreClassWords r classes words → (dead : Option ℕ) → IsPlaceOf classes 0 dead → IsDeadClass r words dead
IsDeadClass-place {r} {classes = classes} rule have c None at = λ v word.
    let (end, leads) = LeadsToClosure-some have v word in
    let (i, w, stands, alike) = c.list.all v word in
    let s = get_or classes i 0 in
    let here = slice_get-get_or classes i 0 (omega (arith, c.long, slice_get_within _ i w stands)) in
    let same = (Alike-leads rule leads (c.leads i s w here stands)).0 alike in
    let h = IsLastClosure-leads rule leads in
    IsPreimage-nonempty_set h.last (λ empty.
    let none = (IsClosure-empty h.last.last.within h.closes).0 empty in
    let never : None ≡ Some i = (at i).1 (here ∙ ap Some (sym same ∙ none)) in cc)
IsDeadClass-place rule have c (Some i) at = let (w, stands, leads) = word_at c i 0 ((at i).0 refl) in (w, stands, (IsOrphan-leads rule leads).1 refl)
