-- Walks in the marked graph are walks of pairs, and the mark tells whether two letters have differed.
use Rattle.std.proofs.Common.{◌≡◌, ◌≢◌, ◌⊎◌, ℕ, ◌+◌, ◌%◌, ◌<◌, ◌≤◌, List, [], ◌∷◌, length, drop, slice_index, Some, None, if◌then◌else◌, ◌==◌, ◌||◌, not, refl, sym, ap, ap₂, ◌∙◌, subst, inl, inr, ⊎_elim, arith, mod-eq_of_lt, ◌↔◌, nat_le, zip}
use Rattle.word_image.proofs.Common.{add-mod_right, cases_eq, nat_tests, same_Some, LocalRule, IsRule, next, label, pair_of, first_of, second_of, follow, pair_count, marked, next-below}
use Rattle.search_laws.proofs.Common.{Walk, LetterPairStep}
use Rattle.pair_laws.proofs.Common.{pair_of-below}
use Rattle.tail_laws.proofs.PairLeads.{PairLeads}

-- from state t of the marked graph along a list of letter pairs to state s
abbrev pub MarkedLeads : LocalRule → ℕ → List (ℕ × ℕ) → ℕ → Type 0
MarkedLeads r = Walk (LetterPairStep (marked r))

-- some pair has two different letters
abbrev pub HasOther : List (ℕ × ℕ) → Type 0
HasOther [] = ⊥
HasOther (ab ∷ rest) = (ab.0 ≢ ab.1) ⊎ HasOther rest

-- the letters of two different words of one length make a pair of two different letters
pub HasOther-zip : (x y : List ℕ) → length x ≡ length y → x ≢ y → HasOther (zip x y)
HasOther-zip [] [] e n = n refl
HasOther-zip [] (b ∷ y) e n = absurd (omega arith)
HasOther-zip (a ∷ x) [] e n = absurd (omega arith)
HasOther-zip (a ∷ x) (b ∷ y) e n =
    ⊎_elim (λ same. inr (HasOther-zip x y (omega arith) (λ rest. n (ap₂ (λ (c : ℕ) (z : List ℕ). c ∷ z) same rest)))) (λ other. inl other) (cases_eq a b)

-- two words of one length with a pair of different letters differ
pub HasOther-different : (x y : List ℕ) → HasOther (zip x y) → x ≢ y
HasOther-different [] y h e = h
HasOther-different (a ∷ x) [] h e = h
HasOther-different (a ∷ x) (b ∷ y) (inl other) e = other (ap (λ w. slice_index w 0) e)
HasOther-different (a ∷ x) (b ∷ y) (inr rest) e = HasOther-different x y rest (ap (drop 1) e)

-- the mark that a step adds
abbrev pub mark : LocalRule → ℕ → ℕ → ℕ → ℕ
mark r t a b = if nat_le (pair_count r) t || not (a == b) then pair_count r else 0

-- a value under a test, without the mark that is added to it
value_marked : (c d s k : ℕ) (q : ℕ) → (if c == d then Some (s + k) else None) ≡ Some q → ((if c == d then Some s else None) ≡ Some s) × (q ≡ s + k)
value_marked c d s k q e = (grind (arith, nat_tests), grind (arith, nat_tests))

-- a step of the marked graph is a step of the pair, and adds the mark
marked-follow : (r : LocalRule) (t a b q : ℕ) → follow r (t % pair_count r) a b ≡ Some q → marked r t a b ≡ Some (q + mark r t a b)
marked-follow r t a b q e = grind arith

-- each step of the marked graph is one of the pair, and adds the mark
pub follow-marked : {r : LocalRule} → IsRule r → (t a b s : ℕ) → marked r t a b ≡ Some s
    → (q : ℕ) × (follow r (t % pair_count r) a b ≡ Some q) × (q < pair_count r) × (s ≡ q + mark r t a b)
follow-marked {r} rule t a b s e =
    let p : ℕ = t % pair_count r in
    let q : ℕ = pair_of r (next r (first_of r p) a) (next r (second_of r p) b) in
    let both = value_marked (label r (first_of r p) a) (label r (second_of r p) b) q (mark r t a b) s e in
    (q, both.0, pair_of-below r _ _ (next-below rule (first_of r p) a) (next-below rule (second_of r p) b), both.1)

-- the state after a step is the pair, and has the mark exactly if the state before it has or the letters differ
record IsStepMarked (r : LocalRule) (t a b s q : ℕ) : Type 0 where
  pub pair : s % pair_count r ≡ q
  pub mark : (pair_count r ≤ s) ↔ ((pair_count r ≤ t) ⊎ (a ≢ b))

-- the state after a step is its pair, and has the mark exactly if the state before it has or the letters differ
marked_step : (r : LocalRule) (t a b q : ℕ) → q < pair_count r → IsStepMarked r t a b (q + mark r t a b) q
marked_step r t a b q h = grind (arith, add-mod_right, mod-eq_of_lt)

-- a walk of pairs, which ends with the mark exactly if it begins with it or two letters have differed
pub record IsMarkedWalk (r : LocalRule) (t : ℕ) (abs : List (ℕ × ℕ)) (s : ℕ) : Type 0 where
  pub pairs : PairLeads r (t % pair_count r) abs (s % pair_count r)
  pub mark : (pair_count r ≤ s) ↔ ((pair_count r ≤ t) ⊎ HasOther abs)

-- a walk of the marked graph is a walk of pairs that ends with the mark exactly if it begins with it or two letters differ
pub IsMarkedWalk-leads : {r : LocalRule} → IsRule r → (abs : List (ℕ × ℕ)) (t s : ℕ) → MarkedLeads r t abs s → IsMarkedWalk r t abs s
IsMarkedWalk-leads {r} rule [] t s h = record { pairs = ap (λ n. n % pair_count r) h; mark = (λ l. inl (rw h l), λ w. rw (← h) (⊎_elim (λ l. l) (λ n. absurd n) w)) }
IsMarkedWalk-leads {r} rule (ab ∷ rest) t s h =
    let step = follow-marked rule t ab.0 ab.1 h.0 h.1 in
    let m : IsStepMarked r t ab.0 ab.1 h.0 step.0 = grind (arith, marked_step) in
    let w = IsMarkedWalk-leads rule rest h.0 s h.2 in
    grind arith

-- each walk of pairs is one of the marked graph
pub leads-marked : {r : LocalRule} → IsRule r → (abs : List (ℕ × ℕ)) (t q : ℕ) → PairLeads r (t % pair_count r) abs q
    → (s : ℕ) × MarkedLeads r t abs s × (s % pair_count r ≡ q)
leads-marked rule [] t q h = (t, refl, h)
leads-marked {r} rule (ab ∷ rest) t q h =
    let next : ℕ = h.0 + mark r t ab.0 ab.1 in
    let step = marked-follow r t ab.0 ab.1 h.0 h.1 in
    let back = follow-marked rule t ab.0 ab.1 next step in
    let same = same_Some h.0 back.0 (sym h.1 ∙ back.1) in
    let on = leads-marked rule rest next q (subst (λ n. PairLeads r n rest q) (sym ((marked_step r t ab.0 ab.1 h.0 (rw same back.2)).pair)) h.2) in
    (on.0, (next, step, on.1), on.2)
