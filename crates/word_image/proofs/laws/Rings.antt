-- Rings read from any place on: the letters come again after a full turn.
use Rattle.std.proofs.Common.{◌≡◌, ℕ, zero, suc, ◌+◌, ◌-◌, ◌*◌, ◌/◌, ◌%◌, ◌<◌, List, length, map, slice_index, ℤ, pos, negsuc, ◌+ℤ◌, sym, ap, ◌∙◌, arith, mod-lt, mod-eq_of_lt, rules}
use mathlib.Core.Path.{fun_ext}
use Rattle.std.specs.Int.{int_rem_euclid}
use Rattle.std.specs.List.{range_with_len}
use Rattle.std.proofs.Math.Nat.{add-mod_right, mod-add-mod, mod-eq-sub-mod}
use Rattle.std.proofs.lemmas.Bool.{cases_lt}
use Rattle.std.proofs.lemmas.Int.{ints}
use Rattle.std.proofs.lemmas.List.Elements.{All-map}
use Rattle.word_image.specs.LocalRules.{IsWord}
use Rattle.word_image.specs.Rings.{IsRing, ring_letter, ring_letters}

-- the letters of a ring come again after a full turn
pub ring_letter-turn : (p : List ℕ) (i : ℤ) → 0 < length p → ring_letter p (i +ℤ pos (length p)) ≡ ring_letter p i
ring_letter-turn p (pos i) some = ap (slice_index p) (add-mod_right i (length p))
ring_letter-turn p (negsuc i) some = grind (arith, ints, mod-eq_of_lt, mod-eq-sub-mod, cases_lt)

-- what comes again after d places comes again after each multiple of d
pub again-times : {B : Type 0} (h : ℤ → B) (d : ℕ) → ((i : ℤ) → h (i +ℤ pos d) ≡ h i) → (n : ℕ) (i : ℤ) → h (i +ℤ pos (n * d)) ≡ h i
again-times h d again zero i = let e : i +ℤ pos (zero * d) ≡ i = omega (arith, ints) in ap h e
again-times h d again (suc n) i = search (rules, again-times h d again n i)

-- the letter at j places after i stands j places after the remainder of i
ring_letter-rem : (p : List ℕ) (i : ℤ) (t j : ℕ) → 0 < length p → int_rem_euclid i (pos (length p)) ≡ pos t
    → ring_letter p (i +ℤ pos j) ≡ ring_letter p (pos (t + j))
ring_letter-rem p (pos i) t j some e =
    ap (slice_index p) (sym (mod-add-mod i (length p) j) ∙ ap (λ s. (s + j) % length p) (omega (arith, ints)))
ring_letter-rem p (negsuc i) t j some e =
    let turns : ℕ = suc (i / length p) in
    let whole : (negsuc i +ℤ pos j) +ℤ pos (turns * length p) ≡ pos (t + j) = omega (arith, ints) in
    sym (again-times (ring_letter p) (length p) (λ o. ring_letter-turn p o some) turns (negsuc i +ℤ pos j)) ∙ ap (ring_letter p) whole

-- the letters of a ring from i places after a place on are those from a place of the ring on
pub ring_letters-rem : (p : List ℕ) (o : ℤ) (t i n : ℕ) → 0 < length p → int_rem_euclid o (pos (length p)) ≡ pos t
    → ring_letters p (pos i +ℤ o) n ≡ ring_letters p (pos ((t + i) % length p)) n
ring_letters-rem p o t i n some e = ap (λ f. map f (range_with_len 0 n)) (fun_ext (λ j.
    ap (ring_letter p) (omega (arith, ints))
    ∙ ring_letter-rem p o t (i + j) some e
    ∙ ap (λ s. slice_index p (s % length p)) (omega arith)
    ∙ sym (ap (slice_index p) (mod-add-mod (t + i) (length p) j))))

-- the letters of a ring are letters
pub ring_letter-below : {k : ℕ} {p : List ℕ} → IsRing k p → (i : ℤ) → ring_letter p i < k
ring_letter-below {k} {p} ring (pos i) = ring.word (i % length p) 0 (mod-lt i ring.some)
ring_letter-below {k} {p} ring (negsuc i) = let some = ring.some in ring.word (length p - 1 - i % length p) 0 (omega arith)

-- a ring read from any place on is a word
pub IsWord-ring_letters : {k : ℕ} {p : List ℕ} → IsRing k p → (o : ℤ) (n : ℕ) → IsWord k (ring_letters p o n)
IsWord-ring_letters {k} {p} ring o n =
    All-map (λ a. a < k) (λ j. ring_letter p (o +ℤ pos j)) (range_with_len 0 n) (λ i d l. ring_letter-below ring _)
