-- Weights of words: how a ring's sum changes is a sum over its windows, so short rings tell whether every ring keeps it.
use Rattle.std.proofs.Common.{◌≡◌, ℕ, ◌+◌, ◌-◌, ◌/◌, ◌%◌, ◌<◌, ◌↔◌, List, length, map, take, slice_index, ℤ, pos, ◌+ℤ◌, ◌-ℤ◌, sym, ap, ap₂, ◌∙◌, arith, mod-lt}
use mathlib.Core.Path.{fun_ext}
use Rattle.word_image.proofs.Common.{again-times, range_with_len, ints, length-map-range_with_len, get_or-map-range_with_len, LocalRule, IsRule, local_map, value, image, ring_letter, ring_letters, ring_image, ring_letters-turn, turn-all}
use Rattle.ring_laws.proofs.Rings.{image-ring_letters, take-ring_letters}
use Rattle.kept_sums.specs.Sums.{sum_at, blocks, KeepsSumOf, sum_to}
use Rattle.kept_sums.specs.Spans.{gain_at}
use Rattle.kept_sums.specs.Fluxes.{window_gain}
use Rattle.kept_sums.proofs.laws.Sums.{sum_at-snoc}
use Rattle.kept_sums.proofs.laws.Spans.{sum_to-sub, sum_at-map}
use Rattle.kept_sums.proofs.laws.Locals.{turn_sum}

-- a ring's image has as many letters as the ring
pub length-ring_image : (r : LocalRule) (p : List ℕ) → length (ring_image r p) ≡ length p
length-ring_image r p = length-map-range_with_len (λ i. local_map r (ring_letters p (pos i +ℤ r.offset) r.width)) 0 (length p)

-- letters of an image, counted round the ring, are what the rule gives there
ring_letter-image : (r : LocalRule) (p : List ℕ) (t : ℕ) → 0 < length p
    → ring_letter (ring_image r p) (pos t) ≡ local_map r (ring_letters p (pos t +ℤ r.offset) r.width)
ring_letter-image r p t some =
    let n : ℕ = length p in
    ap (λ j. slice_index (ring_image r p) (t % j)) (length-ring_image r p)
    ∙ get_or-map-range_with_len (λ i. local_map r (ring_letters p (pos i +ℤ r.offset) r.width)) 0 n (t % n) (t % n) 0 (mod-lt t some) (omega arith)
    ∙ ap (local_map r) (sym (ap (λ o. ring_letters p o r.width) (omega (arith, ints))
    ∙ again-times (λ o. ring_letters p o r.width) n (λ o. ring_letters-turn p o r.width some) (t / n) (pos (t % n) +ℤ r.offset)))

-- a word of an image is the image of a word
ring_letters-image : {r : LocalRule} → IsRule r → (p : List ℕ) (i n : ℕ) → 0 < length p
    → ring_letters (ring_image r p) (pos i) n ≡ image r (ring_letters p (pos i +ℤ r.offset) (n + (r.width - 1)))
ring_letters-image {r} rule p i n some =
    ap (λ f. map f (range_with_len 0 n)) (fun_ext (grind (arith, ring_letter-image)))
    ∙ sym (image-ring_letters rule p (pos i +ℤ r.offset) n)

-- how much more the words round the image weigh is what the windows add
pub gain-windows : {r : LocalRule} → IsRule r → (range d : ℕ) (weight : ℕ → ℤ) (p : List ℕ) → d + 1 ≡ range + (r.width - 1) → 0 < length p
    → gain_at weight (blocks r.states range (ring_image r p)) (blocks r.states range p) ≡ turn_sum (window_gain r range weight) d p
gain-windows {r} rule range d weight p span some =
    let n : ℕ = length p in
    let k : ℕ = r.states in
    let gives : ℤ → ℕ = λ o. value k (image r (ring_letters p o (d + 1))) in
    let after : sum_at weight (blocks k range (ring_image r p)) ≡ sum_to n (λ i. weight (gives (pos i))) =
    ap₂ (λ (m : ℕ) (f : ℕ → ℕ). sum_at weight (map f (range_with_len 0 m))) (length-ring_image r p)
    (fun_ext (λ i. ap (value k) (ring_letters-image rule p i range some ∙ ap (λ j. image r (ring_letters p (pos i +ℤ r.offset) j)) (sym span))))
    ∙ turn-all (sum_at weight) (λ w a. omega (arith, ints, sum_at-snoc weight w a)) gives n (λ o. ap (λ x. value k (image r x)) (ring_letters-turn p o (d + 1) some)) r.offset
    ∙ sum_at-map weight (λ i. gives (pos i)) n in
    let before : sum_at weight (blocks k range p) ≡ sum_to n (λ i. weight (value k (take range (ring_letters p (pos i) (d + 1))))) = grind (arith, sum_at-map, take-ring_letters) in
    ap₂ (λ (x y : ℤ). x -ℤ y) after before
    ∙ sym (sum_to-sub n (λ i. weight (gives (pos i))) (λ i. weight (value k (take range (ring_letters p (pos i) (d + 1))))))

-- a ring keeps the sum exactly where its image weighs no more
pub KeepsSumOf-gain : (range : ℕ) (weight : ℕ → ℤ) (r : LocalRule) (p : List ℕ)
    → KeepsSumOf range weight r p ↔ gain_at weight (blocks r.states range (ring_image r p)) (blocks r.states range p) ≡ pos 0
KeepsSumOf-gain range weight r p = (λ keeps. omega (arith, ints), λ none. omega (arith, ints))
