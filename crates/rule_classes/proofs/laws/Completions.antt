-- The least of the rules that complete a colouring: by comparing tables, and by choosing one colour more.
use Rattle.std.proofs.Common.{◌≡◌, ◌≢◌, ◌↔◌, inl, inr, ◌⊎◌, ℕ, ◌+◌, ◌-◌, ◌^◌, ◌<◌, ◌≤◌, slice_index, refl, sym, ap, ◌∙◌, ⊎_elim, arith, ◌==◌, if◌then◌else◌}
use Rattle.word_image.proofs.Common.{cases_lt, cases_eq, nat_tests, LocalRule, IsRule}
use Rattle.rule_classes.specs.Colourings.{IsColouring, IsChosen, Completes, IsLeastAmong, IsLeastColouring, AgreeFrom, entry, recoloured_number}
use Rattle.rule_classes.specs.declared.colourings.Colouring.{Colouring}
use Rattle.rule_classes.proofs.laws.Colourings.{recoloured_number-less, recoloured_number-same}
use Rattle.rule_classes.proofs.laws.KnownWindows.{IsKnown, entry-chosen}

-- a colouring completes itself
pub Completes-itself : {k : ℕ} {c : Colouring} {low high : ℕ} → IsColouring k c → Completes k c low high c
Completes-itself {k} {c} {low} {high} colouring = record { colouring = colouring; mirrored = refl; letters = λ a l chosen. refl }

-- Tables

-- one window less
pub AgreeFrom-less : {r : LocalRule} {c best : Colouring} {low high v : ℕ} → IsRule r → IsColouring r.states c → IsKnown r low high v
    → IsChosen low high (entry r c v) → entry r c v ≡ entry r best v → AgreeFrom r c low high best (v + 1) → AgreeFrom r c low high best v
AgreeFrom-less {r} {c} {best} {low} {high} {v} rule colouring known chosen same rest = record {
  same = λ d completes u from within.
      ⊎_elim (λ (e : u ≡ v). ap (entry r d) e ∙ entry-chosen rule colouring completes known chosen ∙ same ∙ ap (entry r best) (sym e))
      (λ other. rest.same d completes u (omega arith) within) (cases_eq u v);
}

-- where each completed colouring has a greater letter than the best one, and the tables agree on the greater windows, nothing is less
pub none_less : {r : LocalRule} {c best : Colouring} {low high v : ℕ} → IsRule r → IsColouring r.states best → v < r.states ^ r.width
    → AgreeFrom r c low high best (v + 1)
    → ((d : Colouring) → Completes r.states c low high d → entry r best v < entry r d v) → (d : Colouring) → Completes r.states c low high d
    → recoloured_number r best ≤ recoloured_number r d
none_less {r} {best = best} {v = v} rule colouring below rest less d completes = grind (arith, recoloured_number-less)

-- Choices

-- the greatest and the least free colour are chosen by turns
abbrev pub next_of : ℕ → ℕ → ℕ → ℕ
next_of k low high = if low + high == k then high - 1 else low

pub next_of-greatest : (k low high : ℕ) → low + high ≡ k → next_of k low high ≡ high - 1
next_of-greatest k low high e = grind (arith, nat_tests)

pub next_of-least : (k low high : ℕ) → low + high ≢ k → next_of k low high ≡ low
next_of-least k low high other = grind (arith, nat_tests)

-- the colour that is chosen next is one of the free ones
pub next_of-within : (k low high : ℕ) → low < high → (low ≤ next_of k low high) × (next_of k low high < high)
next_of-within k low high some = grind (arith, nat_tests)

-- the colour of the letter that another colouring has at a free colour is free
free_place : {k : ℕ} {c d : Colouring} {low high : ℕ} (next : ℕ) → next < k → low ≤ next → next < high → IsColouring k c → Completes k c low high d
    → (q : ℕ) × (low ≤ q) × (q < high) × (slice_index d.letters next ≡ slice_index c.letters q)
free_place {k} {c} {d} {low} {high} next l from to colouring completes =
    let x : ℕ = slice_index d.letters next in
    let q : ℕ = slice_index c.colours x in
    let letter = completes.colouring.letter next l in
    let colour = colouring.colour x letter in
    let back = colouring.back x letter in
    let free : IsChosen low high q → q ≡ next = grind arith in
    (q, grind arith, grind arith, sym back)

-- where one colour is free at most, its letter is the one that is left
pub Completes-last : {k : ℕ} {c d : Colouring} {low high : ℕ} → high ≤ low + 1 → high ≤ k → IsColouring k c → Completes k c low high d
    → Completes k c 0 0 d
Completes-last {k} {c} {d} {low} {high} few most colouring completes = record {
  colouring = completes.colouring;
  mirrored = completes.mirrored;
  letters = λ a l chosen. ⊎_elim (λ less. completes.letters a l (inl less))
      (λ from. ⊎_elim (λ (free : a < high). let found = free_place a l from free colouring completes in grind arith) (λ past. completes.letters a l (inr past)) (cases_lt a high)) (cases_lt a low);
}

-- where no colour is free, a colouring and one that completes it make one rule
pub recoloured_number-completes : {r : LocalRule} {c d : Colouring} → IsRule r → IsColouring r.states c → Completes r.states c 0 0 d
    → recoloured_number r c ≡ recoloured_number r d
recoloured_number-completes {r} {c} {d} rule colouring completes = recoloured_number-same r c d (λ u l.
    sym (entry-chosen rule colouring completes (record { below = l; chosen = λ i h. inr (omega arith) }) (inr (omega arith))))

-- the least of some colourings is the least of all that have the same property
IsLeastAmong-same : {r : LocalRule} {P Q : Colouring → Type 0} {before found : Colouring} → ((d : Colouring) → (P d ↔ Q d))
    → IsLeastAmong r P before found → IsLeastAmong r Q before found
IsLeastAmong-same {found = found} same h = grind arith

-- the least of the completed colouring and the one before is the least where at most one colour is free
pub IsLeastColouring-last : {r : LocalRule} {c before found : Colouring} {low high : ℕ} → high ≤ low + 1 → high ≤ r.states → IsColouring r.states c
    → IsLeastColouring r c 0 0 before found → IsLeastColouring r c low high before found
IsLeastColouring-last few most colouring = IsLeastAmong-same (λ d. (λ completes. grind arith, Completes-last few most colouring))

-- the colouring with the letter of one colour at another, and with one colour less that is free
pub record IsNext (k : ℕ) (c : Colouring) (low high next colour : ℕ) (e : Colouring) (from to : ℕ) : Type 0 where
  pub within : next < k
  pub from_next : low ≤ next
  pub next_to : next < high
  pub mirrored : e.mirrored ≡ c.mirrored
  pub letter : slice_index e.letters next ≡ slice_index c.letters colour
  pub others : (a : ℕ) → a ≢ next → a ≢ colour → slice_index e.letters a ≡ slice_index c.letters a
  pub chosen : (a : ℕ) → IsChosen from to a ↔ ((a ≡ next) ⊎ IsChosen low high a)

-- the greatest free colour is chosen, or the least one
pub IsNext-end : {k low high colour next from to : ℕ} {c e : Colouring} → high ≤ k → low < high → next_of k low high ≡ next
    → ((next + 1 ≡ high) × (from ≡ low) × (to ≡ next)) ⊎ ((next ≡ low) × (from ≡ low + 1) × (to ≡ high)) → e.mirrored ≡ c.mirrored
    → slice_index e.letters next ≡ slice_index c.letters colour
    → ((a : ℕ) → a ≢ next → a ≢ colour → slice_index e.letters a ≡ slice_index c.letters a)
    → IsNext k c low high (next_of k low high) colour e from to
IsNext-end {k} {low} {high} {colour} {next} {from} {to} {c} {e} most some at end mirrored letter others = grind arith

-- the next colouring is completed by what completes c and has c's letter of the chosen colour at the next one
Completes-next : {k : ℕ} {c d e : Colouring} {low high next colour from to : ℕ} → IsNext k c low high next colour e from to → low ≤ colour
    → colour < high
    → Completes k e from to d ↔ (Completes k c low high d × (slice_index d.letters next ≡ slice_index c.letters colour))
Completes-next {k} {c} {d} {e} {low} {high} {next} {colour} {from} {to} h least most =
    let old : (a : ℕ) → IsChosen low high a → slice_index e.letters a ≡ slice_index c.letters a = λ a chosen. h.others a (λ at. grind arith) (λ at. grind arith) in (
      λ completes. (
        record { colouring = completes.colouring; mirrored = completes.mirrored ∙ h.mirrored; letters = λ a l chosen. completes.letters a l ((h.chosen a).1 (inr chosen)) ∙ old a chosen },
        completes.letters next h.within ((h.chosen next).1 (inl refl)) ∙ h.letter,
      ),
      λ (completes, same). record {
        colouring = completes.colouring;
        mirrored = completes.mirrored ∙ sym h.mirrored;
        letters = λ a l chosen. ⊎_elim
            (λ (at : a ≡ next). ap (slice_index d.letters) at ∙ same ∙ sym h.letter ∙ ap (slice_index e.letters) (sym at))
            (λ other. completes.letters a l other ∙ sym (old a other))
            ((h.chosen a).0 chosen);
      },
    )

-- what completes the colouring and has the letter of a colour below n at the next one
abbrev pub HasLetterBelow : ℕ → Colouring → ℕ → ℕ → ℕ → ℕ → Colouring → Type 0
HasLetterBelow k c low high next n d = Completes k c low high d × ((q : ℕ) × (low ≤ q) × (q < n) × (slice_index d.letters next ≡ slice_index c.letters q))

-- found is the least of one and of those that complete the colouring and have the letter of a colour below n at the next one
abbrev pub IsLeastOver : LocalRule → Colouring → ℕ → ℕ → ℕ → ℕ → Colouring → Colouring → Type 0
IsLeastOver r c low high next n = IsLeastAmong r (HasLetterBelow r.states c low high next n)

-- what is less than the one before, or is the one before, is no greater
pub no_greater : (r : LocalRule) {A : Type 0} {before found : Colouring}
    → (found ≡ before) ⊎ (A × (recoloured_number r found < recoloured_number r before)) → recoloured_number r found ≤ recoloured_number r before
no_greater r {A} {before} {found} one = ⊎_elim (λ (same : found ≡ before). let number = ap (recoloured_number r) same in omega arith) (λ less. omega (arith, less.1)) one

-- the least of some, and then the least of it and of others, is the least of all of them
IsLeastAmong-then : {r : LocalRule} {P Q R : Colouring → Type 0} {before found new : Colouring} → ((d : Colouring) → (R d ↔ (P d ⊎ Q d)))
    → IsLeastAmong r P before found → IsLeastAmong r Q found new → IsLeastAmong r R before new
IsLeastAmong-then {r} {R = R} {before = before} {found = found} {new = new} all h g =
    let less = no_greater r g.one in
    let old = no_greater r h.one in
    grind arith

-- one colour more is tried
pub IsLeastOver-more : {r : LocalRule} {c e before found new : Colouring} {low high next n from to : ℕ} → IsNext r.states c low high next n e from to
    → low ≤ n → n < high
    → IsLeastOver r c low high next n before found → IsLeastColouring r e from to found new → IsLeastOver r c low high next (n + 1) before new
IsLeastOver-more {c = c} {n = n} h least most = IsLeastAmong-then (λ d. (
  (λ (completes, (q, from, below, same)). ⊎_elim
      (λ less. inl (completes, (q, from, less, same)))
      (λ last. let at : q ≡ n = omega arith in inr ((Completes-next h least most).1 (completes, same ∙ ap (slice_index c.letters) at)))
      (cases_lt q n)),
  elim [
    | inl (completes, (q, from, below, same)) ↦ (completes, (q, from, omega arith, same))
    | inr other ↦ let (completes, same) = (Completes-next h least most).0 other in (completes, (n, least, omega arith, same))
  ],
))

-- all colours are tried
pub IsLeastColouring-over : {r : LocalRule} {c before found : Colouring} {low high : ℕ} (next : ℕ) → next < r.states → low ≤ next → next < high
    → IsColouring r.states c
    → IsLeastOver r c low high next high before found → IsLeastColouring r c low high before found
IsLeastColouring-over next l from to colouring = IsLeastAmong-same (λ d. (λ (completes, place). completes, λ completes. (completes, free_place next l from to colouring completes)))
