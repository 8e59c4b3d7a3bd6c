-- A search through linked sets of two rules, one edge more at a time.
use Rattle.image_minimal.proofs.Common.{◌≡◌, ◌≢◌, ℕ, ◌+◌, ◌*◌, ◌^◌, ◌<◌, ◌⊎◌, List, [], ◌∷◌, ◌++◌, length, slice_index, Some, Bool, refl, sym, ap, ap₂, ◌∙◌, subst, subst₂, arith, ⊎_elim, not, nat_eq, nat_tests, true, false, true≢false, slice_get, ne_eqb, pow-lt, beq, range_with_len, slice_get_within, length_push, map-append, get_or-range_with_len, length-range_with_len, LocalRule, IsRule, node_count, full_set, IsStep, node_count_pos, only_place, slice_get-append, slice_get-push, slice_get-push_cases, IsFilled, filled-later, IsFilled-start, IsFilled-there, IsFilled-new, IsSetOf-unique, mapped_at, Link, link_place, LinkStep, HaveOneColour, HasChain, set_count, IsLinkSearch, IsJoin}
use Rattle.image_minimal.proofs.laws.ClassCounts.{class_count-le}

-- a search in which the edges on the first letters have been followed from the link at a place, along the steps of its sets
pub record IsLinkSearchAt (r q : LocalRule) (links : List Link) (parents : List ℕ) (place : ℕ) (firsts seconds : List ℕ) (letter : ℕ) : Type 0 where
  pub link : Link
  pub here : slice_get links place ≡ Some link
  pub first : (a : ℕ) → a < r.states → IsStep r link.first a (slice_index firsts a)
  pub second : (a : ℕ) → a < r.states → IsStep q link.second a (slice_index seconds a)
  pub search : IsLinkSearch r q links parents (place * r.states + letter)

-- one edge more leads to a pair whose sets are in one class
pub IsLinkSearchAt-there : {r q : LocalRule} {links : List Link} {parents new : List ℕ} {place letter : ℕ} {firsts seconds : List ℕ}
    → IsLinkSearchAt r q links parents place firsts seconds letter → letter < r.states
    → IsJoin parents new (slice_index firsts letter) (2 ^ node_count r + slice_index seconds letter) false
    → IsLinkSearchAt r q links new place firsts seconds (letter + 1)
IsLinkSearchAt-there {r} {q} {links} {parents} {new} {place} {letter} h below join =
    let n = 2 ^ node_count r in
    let x = h.link in
    let e = place * r.states + letter in
    let colours = λ (f : ℕ → Bool) (agree : HaveOneColour n r.states links (e + 1) f). h.search.joined f (λ i y at early. agree i y at (omega arith)) in
    let more : IsLinkSearch r q links new (e + 1) = record {
      fills = IsFilled-there h.search.fills place letter (link_place x) refl below (mapped_at link_place links place x h.here)
          (λ p step f agree. subst₂ (λ u v. f u ≡ f (n + v)) (IsSetOf-unique (h.first letter below) step.0) (IsSetOf-unique (h.second letter below) step.1) (join.one f (colours f agree) refl));
      even = h.search.even;
      long = join.long ∙ h.search.long;
      joined = λ f agree. join.colours f (colours f agree) (join.one f (colours f agree) refl);
      few = omega (arith, h.search.few, join.fewer);
    } in
    record { link = x; here = h.here; first = h.first; second = h.second; search = subst (IsLinkSearch r q links new) (omega arith) more }

-- one edge more leads to a pair whose sets aren't in one class, which is linked
pub IsLinkSearchAt-new : {r q : LocalRule} {links : List Link} {parents new : List ℕ} {place letter : ℕ} {firsts seconds : List ℕ}
    → IsLinkSearchAt r q links parents place firsts seconds letter → letter < r.states
    → nat_eq (slice_index firsts letter) 0 ≡ nat_eq (slice_index seconds letter) 0
    → IsJoin parents new (slice_index firsts letter) (2 ^ node_count r + slice_index seconds letter) true
    → IsLinkSearchAt r q (links ++ record { first = slice_index firsts letter; second = slice_index seconds letter; parent = place; letter = letter } ∷ []) new place firsts seconds (letter + 1)
IsLinkSearchAt-new {r} {q} {links} {new = new} {place} {letter} {firsts} {seconds} h below even join =
    let k = r.states in
    let n = 2 ^ node_count r in
    let s = slice_index firsts letter in
    let t = slice_index seconds letter in
    let x = h.link in
    let e = place * k + letter + 1 in
    let y : Link = record { first = s; second = t; parent = place; letter = letter } in
    let late = filled-later k (length links) (link_place y) (omega (arith, slice_get_within links place x h.here)) in
    let link : (f : ℕ → Bool) → HaveOneColour n k (links ++ y ∷ []) e f → f s ≡ f (n + t) = λ f agree. agree (length links) y (slice_get-push links y) (omega (arith, late)) in
    let more : IsLinkSearch r q (links ++ y ∷ []) new e = record {
      fills = subst (λ tree. IsFilled (LinkStep r q) (HasChain r (links ++ y ∷ [])) k (full_set r, full_set q) tree e) (sym (map-append link_place links (y ∷ [])))
          (IsFilled-new h.search.fills place letter (link_place x) (link_place y) refl below (mapped_at link_place links place x h.here) refl refl (h.first letter below, h.second letter below)
          (λ p l met f agree. met f (λ i z at. agree i z (slice_get-append links (y ∷ []) i z at)))
          (λ p step _ f agree. subst₂ (λ u v. f u ≡ f (n + v)) (IsSetOf-unique (h.first letter below) step.0) (IsSetOf-unique (h.second letter below) step.1) (link f agree)));
      even = λ i z at. ⊎_elim (λ before. h.search.even i z before) (λ last. subst (λ (v : Link). nat_eq v.first 0 ≡ nat_eq v.second 0) last.1 even) (slice_get-push_cases links y i z at);
      long = join.long ∙ h.search.long;
      joined = λ f agree. join.colours f (h.search.joined f (λ i z at early. agree i z (slice_get-append links (y ∷ []) i z at) (omega arith))) (link f agree);
      few = omega (arith, h.search.few, join.fewer, length_push links y);
    } in
    record { link = x; here = slice_get-append links (y ∷ []) place x h.here; first = h.first; second = h.second; search = subst (IsLinkSearch r q (links ++ y ∷ []) new) (omega arith) more }

-- the set of all nodes isn't empty
full-some : {r : LocalRule} {s : ℕ} → IsRule r → s ≡ full_set r → nat_eq s 0 ≡ false
full-some {r} {s} rule all = ne_eqb s 0 (λ none. omega (arith, pow-lt {i = 0} {j = node_count r} (node_count_pos rule)))

-- at the beginning the pair of all nodes is linked, and each set is in a class of its own
pub IsLinkSearch-start : {r q : LocalRule} → IsRule r → IsRule q → (y : Link) → y.first ≡ full_set r → y.second ≡ full_set q
    → IsLinkSearch r q (y ∷ []) (range_with_len 0 (set_count r q)) 0
IsLinkSearch-start {r} {q} rule other y first second =
    let count = set_count r q in
    record {
      fills = IsFilled-start (link_place y) (ap₂ (λ (a b : ℕ). (a, b)) first second);
      even = λ i x at. subst (λ (z : Link). nat_eq z.first 0 ≡ nat_eq z.second 0) (only_place y x i at).1 (full-some rule first ∙ sym (full-some other second));
      long = length-range_with_len 0 count;
      joined = λ f agree x l. ap f (get_or-range_with_len 0 count x 0 (omega (arith, length-range_with_len 0 count)) ∙ omega arith);
      few = omega (arith, class_count-le (range_with_len 0 count), length-range_with_len 0 count);
    }

-- of two sets exactly one is empty
pub uneven : (s t : ℕ) → not (beq (nat_eq s 0) (nat_eq t 0)) ≡ true → ((s ≡ 0) × (t ≢ 0)) ⊎ ((t ≡ 0) × (s ≢ 0))
uneven s t test = grind (arith, nat_tests)

-- two tests that agree
pub even : (a b : Bool) → not (beq a b) ≡ false → a ≡ b
even true true same = refl
even false false same = refl
even true false same = same
even false true same = absurd (true≢false same)
