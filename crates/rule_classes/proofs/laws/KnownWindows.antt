-- Windows whose letters are among the greatest, and what a colouring that is completed gives on them.
use Rattle.std.proofs.Common.{◌≡◌, inl, inr, ◌⊎◌, ℕ, zero, suc, ◌+◌, ◌-◌, ◌*◌, ◌^◌, ◌<◌, ◌≤◌, List, [], ◌∷◌, ◌++◌, get_or, slice_index, Bool, sym, ap, ap₂, ◌∙◌, ⊎_elim, arith, pow-suc, suc-mul, mul_comm}
use Rattle.word_image.proofs.Common.{one-le-pow, cases_lt, div-mul-add, mod-mul-add, get_or_append_left, get_or_push, LocalRule, IsRule, word_of, local_map, node_count, length-word_of, IsWord-word_of, some_letter}
use Rattle.rule_algebra.proofs.laws.Recolouring.{map-agree}
use Rattle.rule_classes.specs.Classes.{turned}
use Rattle.rule_classes.specs.Colourings.{IsColouring, IsChosen, Completes, entry, old_word}
use Rattle.rule_classes.specs.declared.colourings.Colouring.{Colouring}
use Rattle.rule_classes.proofs.laws.Colourings.{turned-below}
use Rattle.rule_classes.proofs.laws.Readings.{window-below, word_of-snoc}

-- the greatest word begins with the greatest letter, and the greatest word of one letter less follows
greatest_word : (k n : ℕ) → 0 < k → word_of k (suc n) (k ^ suc n - 1) ≡ (k - 1) ∷ word_of k n (k ^ n - 1)
greatest_word k n some =
    let p : ℕ = k ^ n in
    let one : 1 ≤ p = one-le-pow n k some in
    let less : suc (k - 1) ≡ k = omega arith in
    let split : k ^ suc n - 1 ≡ (k - 1) * p + (p - 1) = omega (arith, pow-suc k n, mul_comm p k, suc-mul (k - 1) p, ap (λ j. j * p) less) in
    ap (word_of k (suc n)) split ∙ ap₂ (λ (a v : ℕ). a ∷ word_of k n v) (div-mul-add (k - 1) p (p - 1) (omega arith)) (mod-mul-add (k - 1) p (p - 1) (omega arith))

-- all letters of the greatest word are the greatest letter
greatest_letter : (k n i : ℕ) → 0 < k → i < n → get_or (word_of k n (k ^ n - 1)) i 0 ≡ k - 1
greatest_letter k zero i some l = absurd (omega arith)
greatest_letter k (suc n) zero some l = ap (λ w. get_or w 0 0) (greatest_word k n some)
greatest_letter k (suc n) (suc i) some l = ap (λ w. get_or w (suc i) 0) (greatest_word k n some) ∙ greatest_letter k n i some (omega arith)

-- a window without a free letter
pub record IsKnown (r : LocalRule) (low high v : ℕ) : Type 0 where
  pub below : v < r.states ^ r.width
  pub chosen : (i : ℕ) → i < r.width → IsChosen low high (get_or (word_of r.states r.width v) i 0)

-- where no letter is free, or behind letters that are all the greatest one, a chosen last letter makes a window without a free letter
pub IsKnown-at : {r : LocalRule} {low high : ℕ} → IsRule r → (u first a : ℕ) → u < node_count r → a < r.states → first ≤ a
    → (low ≡ high) ⊎ ((u + 1 ≡ node_count r) × (high ≤ first)) → IsKnown r low high (u * r.states + a)
IsKnown-at {r} {low} {high} rule u first a node letter from known =
    let k : ℕ = r.states in
    let n : ℕ = r.width - 1 in
    record {
      below = window-below rule u a node letter;
      chosen = λ i l. elim known [
        | inl none ↦ elim (cases_lt (get_or (word_of k r.width (u * k + a)) i 0) low) [ inl less ↦ inl less | inr past ↦ inr (omega arith) ]
        | inr last ↦
            let wide : r.width ≡ suc n = omega arith in
            let greatest : u ≡ k ^ n - 1 = omega (arith, last.0) in
            let word : word_of k r.width (u * k + a) ≡ word_of k n (k ^ n - 1) ++ a ∷ [] = grind (arith, word_of-snoc) in
            let long = length-word_of k n (k ^ n - 1) in
            inr (rw word (elim (cases_lt i n) [
              | inl less ↦ omega (arith, get_or_append_left (word_of k n (k ^ n - 1)) (a ∷ []) 0 i (omega arith), greatest_letter k n i (some_letter rule) less, last.1)
              | inr end ↦
                  let at : i ≡ n = omega arith in
                  omega (arith, ap (λ j. get_or (word_of k n (k ^ n - 1) ++ a ∷ []) j 0) at, get_or_push (word_of k n (k ^ n - 1)) a 0 n long, last.1)
            ]))
      ];
    }

-- a colouring that completes another has the same old letters at a known window
old_word-completes : {r : LocalRule} {c d : Colouring} {low high v : ℕ} → IsRule r → Completes r.states c low high d → IsKnown r low high v
    → old_word r d v ≡ old_word r c v
old_word-completes {r} {c} {d} {low} {high} {v} rule completes known =
    map-agree (slice_index d.letters) (slice_index c.letters) (word_of r.states r.width v) (λ i l. grind (arith, IsWord-word_of, length-word_of))

-- a colouring that completes another is given the same letter there
given-completes : {r : LocalRule} {c d : Colouring} {low high v : ℕ} → IsRule r → Completes r.states c low high d → IsKnown r low high v
    → local_map (turned r d.mirrored) (old_word r d v) ≡ local_map (turned r c.mirrored) (old_word r c v)
given-completes {r} {c} {d} {low} {high} {v} rule completes known =
    ap₂ (λ (mirror : Bool) (w : List ℕ). local_map (turned r mirror) w) completes.mirrored (old_word-completes rule completes known)

-- which has the same colour, if that is chosen
pub entry-chosen : {r : LocalRule} {c d : Colouring} {low high v : ℕ} → IsRule r → IsColouring r.states c → Completes r.states c low high d
    → IsKnown r low high v
    → IsChosen low high (entry r c v) → entry r d v ≡ entry r c v
entry-chosen {r} {c} {d} {low} {high} {v} rule colouring completes known chosen =
    let below = turned-below rule c.mirrored (old_word r c v) in
    let colour = colouring.colour _ below in
    ap (slice_index d.colours) (given-completes rule completes known ∙ sym (completes.letters (entry r c v) colour chosen ∙ colouring.back _ below))
    ∙ completes.colouring.there (entry r c v) colour

-- where no colour is chosen, the window has at least the least free colour
pub entry-free : {r : LocalRule} {c d : Colouring} {low high v : ℕ} → IsRule r → IsColouring r.states c → Completes r.states c low high d
    → IsKnown r low high v
    → low ≤ entry r c v → low ≤ entry r d v
entry-free {r} {c} {d} {low} {high} {v} rule colouring completes known free =
    ⊎_elim
    (λ (less : entry r d v < low).
    let below = turned-below rule d.mirrored (old_word r d v) in
    let colour = completes.colouring.colour _ below in
    let same : entry r c v ≡ entry r d v =
    ap (slice_index c.colours) (sym (given-completes rule completes known) ∙ sym (completes.colouring.back _ below) ∙ completes.letters (entry r d v) colour (inl less))
    ∙ colouring.there (entry r d v) colour in
    absurd (omega arith))
    (λ from. from)
    (cases_lt (entry r d v) low)
