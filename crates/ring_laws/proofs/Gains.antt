-- What the image of a word weighs more than the letters at which its windows begin: window by window, in two parts, and round a ring.
use Rattle.std.proofs.Common.{◌≡◌, ℕ, ◌+◌, ◌-◌, ◌<◌, ◌≤◌, List, [], ◌∷◌, length, take, drop, slice_index, sum_by, ℤ, pos, ◌-ℤ◌, sym, ap, ap₂, ◌∙◌, arith, length-drop, length-take-le, get_or-take}
use Rattle.word_image.proofs.Common.{ints, drop-take, sum_by-cons, LocalRule, IsRule, local_map, image, ring_letters, ring_image, get_or-image, image-drop, length-image, sum_by-ring_letters}
use Rattle.ring_laws.proofs.Rings.{sum_by-ring_image, length-ring_letters, take-ring_letters}
use Rattle.ring_laws.proofs.Walks.{IsWindowSum}

-- how much more the image of a word weighs than the letters at which its windows begin
abbrev pub gain : (ℕ → ℕ) → LocalRule → List ℕ → ℤ
gain weight r x = pos (sum_by weight (image r x)) -ℤ pos (sum_by weight (take (length x - (r.width - 1)) x))

-- what a window gains
abbrev pub gain_of : (ℕ → ℕ) → LocalRule → List ℕ → ℤ
gain_of weight r w = pos (weight (local_map r w)) -ℤ pos (weight (slice_index w 0))

-- a word with no window gains nothing
pub gain-short : (weight : ℕ → ℕ) (r : LocalRule) (x : List ℕ) → length x ≤ r.width - 1 → gain weight r x ≡ pos 0
gain-short weight r x h = grind arith

-- a ring gains what a full turn gains, wherever it begins
pub gain-ring : {r : LocalRule} → IsRule r → (weight : ℕ → ℕ) (p : List ℕ) (o : ℤ) → 0 < length p
    → gain weight r (ring_letters p o (length p + (r.width - 1))) ≡ pos (sum_by weight (ring_image r p)) -ℤ pos (sum_by weight p)
gain-ring rule weight p o some =
    grind (arith, length-ring_letters, take-ring_letters, sum_by-ring_letters, sum_by-ring_image)

-- a list weighs what its first element and the others do
sum_by-first : (f : ℕ → ℕ) (xs : List ℕ) → 0 < length xs → sum_by f xs ≡ f (slice_index xs 0) + sum_by f (drop 1 xs)
sum_by-first f [] some = absurd (omega arith)
sum_by-first f (a ∷ xs) some = sum_by-cons f a xs

-- a word gains what its windows gain
pub IsWindowSum-gain : {r : LocalRule} → IsRule r → (weight : ℕ → ℕ) → IsWindowSum (r.width - 1) (gain_of weight r) (gain weight r)
IsWindowSum-gain {r} rule weight = record {
  short = gain-short weight r;
  more = λ x h.
      let d : ℕ = r.width - 1 in
      let rest : List ℕ = drop 1 x in
      let both = λ (a : ℕ) (y : List ℕ). weight a + sum_by weight y in
      let wide : 0 + r.width - 0 ≡ d + 1 = omega arith in
      let next : length x - d ≡ 1 + (length rest - d) = omega (arith, length-drop 1 x) in
      let values : sum_by weight (image r x) ≡ both (local_map r (take (d + 1) x)) (image r rest) =
      sum_by-first weight (image r x) (omega (arith, length-image r x))
      ∙ ap₂ both (get_or-image r x 0 (omega arith) ∙ ap (λ n. local_map r (take n x)) wide) (sym (image-drop r 1 x)) in
      let letters : sum_by weight (take (length x - d) x) ≡ both (slice_index x 0) (take (length rest - d) rest) =
      sum_by-first weight (take (length x - d) x) (omega (arith, length-take-le (length x - d) x (omega arith)))
      ∙ ap₂ both (get_or-take (length x - d) x 0 0 (omega arith)) (ap (λ n. drop 1 (take n x)) next ∙ drop-take 1 (length rest - d) x) in
      let first : weight (slice_index (take (d + 1) x) 0) ≡ weight (slice_index x 0) = ap weight (get_or-take (d + 1) x 0 0 (omega arith)) in
      omega (arith, ints);
}
