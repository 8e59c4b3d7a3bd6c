-- A number for each window of d + 1 letters: where its sum is 0 round each ring of at most 2 d + 1 letters, it is 0 round every ring (Hattori and Takesue 1991).
use Rattle.std.proofs.Common.{◌≡◌, ℕ, suc, ◌+◌, ◌-◌, ◌*◌, ◌≤◌, List, ◌++◌, length, take, drop, replicate, ℤ, pos, ◌+ℤ◌, ◌-ℤ◌, ◌*ℤ◌, sym, ap, ◌∙◌, arith, length-drop}
use Rattle.word_image.proofs.Common.{ints, IsWord, IsRing, ring_letters}
use Rattle.ring_laws.proofs.Rings.{length-ring_letters, slice_range-ring_letters}
use Rattle.ring_laws.proofs.Walks.{IsWindowSum, ring-steps, window-short_rings}
use Rattle.kept_sums.specs.Sums.{sum_to}
use Rattle.kept_sums.proofs.laws.Spans.{sum_to-agree, sum_to-ends}

-- the sum of the numbers of the windows of a word
abbrev pub walk : (List ℕ → ℤ) → ℕ → List ℕ → ℤ
walk h d x = sum_to (length x - d) (λ i. h (take (d + 1) (drop i x)))

-- the sum of the numbers of the windows round a ring
abbrev pub turn_sum : (List ℕ → ℤ) → ℕ → List ℕ → ℤ
turn_sum h d p = sum_to (length p) (λ i. h (ring_letters p (pos i) (d + 1)))

-- the numbers of the windows are added one after the other
IsWindowSum-walk : (h : List ℕ → ℤ) (d : ℕ) → IsWindowSum d h (walk h d)
unfolding sum_to
IsWindowSum-walk h d = record {
  short = λ x l. let none : length x - d ≡ 0 = omega arith in ap (λ n. sum_to n (λ i. h (take (d + 1) (drop i x)))) none;
  more = λ x l.
      let number : ℕ → ℤ = λ i. h (take (d + 1) (drop i x)) in
      let n : ℕ = length (drop 1 x) - d in
      let next : length x - d ≡ suc n = omega (arith, length-drop 1 x) in
      ap (λ m. sum_to m number) next ∙ sum_to-ends n number
      ∙ ap (λ (z : ℤ). number 0 +ℤ z) (sum_to-agree n (grind arith));
}

-- a ring has the windows of its letters, read on for d letters
turn_sum-walk : (h : List ℕ → ℤ) (d : ℕ) (p : List ℕ) → turn_sum h d p ≡ walk h d (ring_letters p (pos 0) (length p + d))
turn_sum-walk h d p =
    let x : List ℕ = ring_letters p (pos 0) (length p + d) in
    let all : length p ≡ length x - d = omega (arith, length-ring_letters p (pos 0) (length p + d)) in
    sum_to-agree (length p) (λ i l.
    let here : pos i ≡ pos i +ℤ pos 0 = omega (arith, ints) in
    ap h (ap (λ o. ring_letters p o (d + 1)) here ∙ sym (slice_range-ring_letters p (pos 0) (length p + d) i (d + 1) (omega arith)) ∙ ap (λ n. take n (drop i x)) (omega arith)))
    ∙ ap (λ n. sum_to n (λ i. h (take (d + 1) (drop i x)))) all

-- what the walk from a word of d letters meets that reads d letters 0
abbrev pub potential : (List ℕ → ℤ) → ℕ → List ℕ → ℤ
potential h d v = walk h d (v ++ replicate d 0)

-- the number of a window is the difference of the potentials of its two ends
pub window-potential : (k : ℕ) (h : List ℕ → ℤ) (d : ℕ) → 1 ≤ k → 1 ≤ d → ((p : List ℕ) → IsRing k p → length p ≤ 2 * d + 1 → turn_sum h d p ≡ pos 0)
    → (w : List ℕ) → IsWord k w → length w ≡ d + 1 → h w ≡ potential h d (take d w) -ℤ potential h d (drop 1 w)
window-potential k h d some wide vanish = window-short_rings k some wide (IsWindowSum-walk h d) (λ p ring short. sym (turn_sum-walk h d p) ∙ vanish p ring short)

-- where the number of each window is one number and the difference of two words within it, their sum round a ring says only how many letters it has
pub turn_sum-steps : {k : ℕ} (h phi : List ℕ → ℤ) (constant : ℤ) (d : ℕ) (p : List ℕ) → IsRing k p
    → ((w : List ℕ) → IsWord k w → length w ≡ d + 1 → h w ≡ constant +ℤ (phi (take d w) -ℤ phi (drop 1 w)))
    → turn_sum h d p ≡ pos (length p) *ℤ constant
turn_sum-steps h phi constant d p ring differences = turn_sum-walk h d p ∙ ring-steps phi constant (IsWindowSum-walk h d) differences p ring
