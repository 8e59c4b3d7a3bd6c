-- Calls one after another give each listed rule once.
use Rattle.std.proofs.Common.{◌≡◌, ℕ, zero, suc, ◌^◌, ◌<◌, List, [], ◌∷◌, ◌++◌, ◌⊎◌, inl, inr, Option, Some, None, refl, sym, subst, arith, ⊎_elim, Contains, slice_index}
use Rattle.word_image.proofs.Common.{cases_lt, Contains-append_right, LocalRule}
use Rattle.rule_lists.specs.Ranks.{IsOrder, rank, rank_of_first}
use Rattle.rule_lists.specs.Listed.{IsOfShape, IsListed, IsFirst, NoneIs}
use Rattle.rule_lists.specs.Calls.{IsAfter, AreAll, AreSoFar, AreAscending, AreListed}
use Rattle.rule_lists.specs.declared.properties.Property.{Property}
use Rattle.rule_lists.proofs.laws.Ranks.{same_letters}
use Rattle.rule_lists.proofs.laws.Going.{IsTable-shape, same_rule}

-- two rules of a shape with one rank are one
pub one_rule : (k m : ℕ) (order : List ℕ) (q r : LocalRule) → IsOrder (k ^ m) order → IsOfShape k m q → IsOfShape k m r
    → rank k order q.table ≡ rank k order r.table → q ≡ r
one_rule k m order q r h first second e =
    let whole : rank_of_first k order q.table (k ^ m) ≡ rank_of_first k order r.table (k ^ m) = subst (λ n. rank_of_first k order q.table n ≡ rank_of_first k order r.table n) h.long e in
    same_rule first second (λ v l.
    let (i, below, at) = h.all v l in
    subst (λ w. slice_index q.table w ≡ slice_index r.table w) at (same_letters k (k ^ m) order q.table r.table (k ^ m) h (IsTable-shape first) (IsTable-shape second) (omega arith) whole i below))

-- a rule after one that comes later comes later
IsAfter-more : (k : ℕ) (order : List ℕ) (last : Option LocalRule) (r q : LocalRule) → IsAfter k order last r
    → rank k order r.table < rank k order q.table → IsAfter k order last q
IsAfter-more k order None r q h l = tt
IsAfter-more k order (Some p) r q h l = omega (arith, h, l)

-- what is in a list is its first element, or one behind it
Contains-cases : (rs : List LocalRule) (r q : LocalRule) → Contains (r ∷ rs) q → (r ≡ q) ⊎ Contains rs q
Contains-cases rs r q (zero, l, e) = inl e
Contains-cases rs r q (suc i, l, e) = inr (i, omega arith, e)

-- the rules are listed, and come after the last one
sound : (property : Property) (k m : ℕ) (fixed order : List ℕ) (last : Option LocalRule) (rs : List LocalRule)
    → AreAll property k m fixed order last rs → (q : LocalRule) → Contains rs q → IsListed property k m fixed q × IsAfter k order last q
sound property k m fixed order last [] all q (i, l, e) = absurd (omega arith)
sound property k m fixed order last (r ∷ rs) all q has =
    ⊎_elim
    (λ e. subst (λ p. IsListed property k m fixed p × IsAfter k order last p) e (all.0.listed, all.0.from))
    (λ behind. let (listed, after) = sound property k m fixed order (Some r) rs all.1 q behind in (listed, IsAfter-more k order last r q all.0.from after))
    (Contains-cases rs r q has)

-- each listed rule after the last one is there
complete : (property : Property) (k m : ℕ) (fixed order : List ℕ) (last : Option LocalRule) (rs : List LocalRule) → IsOrder (k ^ m) order
    → AreAll property k m fixed order last rs → (q : LocalRule) → IsListed property k m fixed q → IsAfter k order last q → Contains rs q
complete property k m fixed order last [] h all q listed after = absurd (all q listed after)
complete property k m fixed order last (r ∷ rs) h all q listed after =
    ⊎_elim
    (λ l. Contains-append_right (r ∷ []) rs q (complete property k m fixed order (Some r) rs h all.1 q listed l))
    (grind (arith, one_rule))
    (cases_lt (rank k order r.table) (rank k order q.table))

-- all listed rules after the last one ascend
ascending : (property : Property) (k m : ℕ) (fixed order : List ℕ) (last : Option LocalRule) (rs : List LocalRule)
    → AreAll property k m fixed order last rs → AreAscending k order last rs
ascending property k m fixed order last [] all = tt
ascending property k m fixed order last (r ∷ rs) all = (all.0.from, ascending property k m fixed order (Some r) rs all.1)

-- all that calls give are each listed rule once
pub AreListed-all : (property : Property) (k m : ℕ) (fixed order : List ℕ) (rs : List LocalRule) → IsOrder (k ^ m) order
    → AreAll property k m fixed order None rs → AreListed property k m fixed order rs
AreListed-all property k m fixed order rs h all = record {
  every = λ q. ((λ has. (sound property k m fixed order None rs all q has).0), (λ listed. complete property k m fixed order None rs h all q listed tt));
  ascending = ascending property k m fixed order None rs all;
}

-- with one rule more, what the calls give is still each listed rule once
pub AreSoFar-next : (property : Property) (k m : ℕ) (fixed order : List ℕ) (first : Option LocalRule) (rs : List LocalRule) (last : Option LocalRule) (r : LocalRule) → AreSoFar property k m fixed order first rs last → IsFirst property k m fixed order (IsAfter k order last) r
    → AreSoFar property k m fixed order first (rs ++ r ∷ []) (Some r)
AreSoFar-next property k m fixed order first [] last r e is = (subst (λ o. IsFirst property k m fixed order (IsAfter k order o) r) (sym e) is, refl)
AreSoFar-next property k m fixed order first (q ∷ rs) last r h is = (h.0, AreSoFar-next property k m fixed order (Some q) rs last r h.1 is)

-- where no listed rule comes after the last one given, the rules given are all
pub AreAll-ended : (property : Property) (k m : ℕ) (fixed order : List ℕ) (first : Option LocalRule) (rs : List LocalRule) (last : Option LocalRule)
    → AreSoFar property k m fixed order first rs last → NoneIs property k m fixed (IsAfter k order last)
    → AreAll property k m fixed order first rs
AreAll-ended property k m fixed order first [] last e none = subst (λ o. NoneIs property k m fixed (IsAfter k order o)) (sym e) none
AreAll-ended property k m fixed order first (q ∷ rs) last h none = (h.0, AreAll-ended property k m fixed order (Some q) rs last h.1 none)
