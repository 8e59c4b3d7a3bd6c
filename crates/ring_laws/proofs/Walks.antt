-- Sums over the windows of a word: a word is a walk from its first node to its last, and a ring is a closed walk (Hattori and Takesue 1991).
use Rattle.std.proofs.Common.{◌≡◌, ℕ, zero, suc, ◌+◌, ◌*◌, ◌<◌, ◌≤◌, List, [], ◌∷◌, ◌++◌, length, take, drop, replicate, ℤ, pos, ◌+ℤ◌, ◌-ℤ◌, ◌*ℤ◌, sym, ap, ap₂, ◌∙◌, arith, length-append, length-drop, length-take-le, append_assoc, take-append-drop, take_all, take_at, take-take, drop-drop}
use Rattle.word_image.proofs.Common.{ints, drop-take, drop-append-le, take-append-le, take-append_seam, length-replicate, All-append, All-replicate, All-take, All-drop, IsWord, IsRing, ring_letters, IsWord-ring_letters, ring_letters-turn}
use Rattle.ring_laws.proofs.Rings.{length-ring_letters, take-ring_letters, drop-ring_letters, ring_letters-closed}

-- the sum of what a function gives on the windows of d + 1 letters
pub record IsWindowSum (d : ℕ) (h sum : List ℕ → ℤ) : Type 0 where
  pub short : (x : List ℕ) → length x ≤ d → sum x ≡ pos 0
  pub more : (x : List ℕ) → d < length x → sum x ≡ h (take (d + 1) x) +ℤ sum (drop 1 x)

-- two words that share d letters have the windows of both
pub sum-append : {d : ℕ} {h sum : List ℕ → ℤ} → IsWindowSum d h sum → (a b c : List ℕ) → length b ≡ d
    → sum (a ++ (b ++ c)) ≡ sum (a ++ b) +ℤ sum (b ++ c)
sum-append sums [] b c e = omega (arith, ints, sums.short b (omega arith))
sum-append {d} {h} {sum} sums (x ∷ a) b c e =
    let long = length-append (x ∷ a) b in
    let window = ap (take (d + 1)) (sym (append_assoc (x ∷ a) b c)) ∙ take-append-le (d + 1) ((x ∷ a) ++ b) c (omega arith) in
    let whole : sum ((x ∷ a) ++ (b ++ c)) ≡ h (take (d + 1) ((x ∷ a) ++ (b ++ c))) +ℤ sum (a ++ (b ++ c)) =
    sums.more ((x ∷ a) ++ (b ++ c)) (omega (arith, length-append (x ∷ a) (b ++ c), length-append b c)) in
    let front : sum ((x ∷ a) ++ b) ≡ h (take (d + 1) ((x ∷ a) ++ b)) +ℤ sum (a ++ b) = sums.more ((x ∷ a) ++ b) (omega arith) in
    omega (arith, ints, whole, front, ap h window, sum-append sums a b c e)

-- where each window gives a number and the difference of its two nodes, n windows give n times the number and the difference of the first and the last node
pub sum-steps : {d : ℕ} {h sum : List ℕ → ℤ} (k : ℕ) (phi : List ℕ → ℤ) (c : ℤ) → IsWindowSum d h sum
    → ((w : List ℕ) → IsWord k w → length w ≡ d + 1 → h w ≡ c +ℤ (phi (take d w) -ℤ phi (drop 1 w)))
    → (n : ℕ) (x : List ℕ) → IsWord k x → length x ≡ n + d → sum x ≡ (pos n *ℤ c) +ℤ (phi (take d x) -ℤ phi (drop n x))
sum-steps {d} k phi c sums steps zero x word e = omega (arith, ints, sums.short x (omega arith), ap phi (take_all d x (omega arith)))
sum-steps {d} k phi c sums steps (suc n) x word e =
    let w : List ℕ = take (d + 1) x in
    let rest : List ℕ = drop 1 x in
    let turned : d + 1 ≡ 1 + d = omega arith in
    let next : 1 + n ≡ suc n = omega arith in
    let first : phi (take d w) ≡ phi (take d x) = ap phi (take-take d (d + 1) x (omega arith)) in
    let between : phi (drop 1 w) ≡ phi (take d rest) = ap phi (ap (λ j. drop 1 (take j x)) turned ∙ drop-take 1 d x) in
    let last : phi (drop n rest) ≡ phi (drop (suc n) x) = ap phi (drop-drop n 1 x ∙ ap (λ j. drop j x) next) in
    let one = steps w (All-take (λ a. a < k) (d + 1) x word) (length-take-le (d + 1) x (omega arith)) in
    omega (arith, ints, sums.more x (omega arith), one, sum-steps k phi c sums steps n rest (All-drop (λ a. a < k) 1 x word) (omega (arith, length-drop 1 x)))

-- so a ring gives the number as often as it has letters
pub ring-steps : {k d : ℕ} {h sum : List ℕ → ℤ} (phi : List ℕ → ℤ) (c : ℤ) → IsWindowSum d h sum
    → ((w : List ℕ) → IsWord k w → length w ≡ d + 1 → h w ≡ c +ℤ (phi (take d w) -ℤ phi (drop 1 w)))
    → (p : List ℕ) → IsRing k p → sum (ring_letters p (pos 0) (length p + d)) ≡ pos (length p) *ℤ c
ring-steps {k} {d} phi c sums steps p ring =
    let n : ℕ = length p in
    let x : List ℕ = ring_letters p (pos 0) (n + d) in
    let same : phi (take d x) ≡ phi (drop n x) =
    ap phi (take-ring_letters p (pos 0) (n + d) d (omega arith) ∙ sym (drop-ring_letters p (pos 0) n d ∙ ring_letters-turn p (pos 0) d ring.some)) in
    omega (arith, ints, same, sum-steps k phi c sums steps n x (IsWord-ring_letters ring (pos 0) (n + d)) (length-ring_letters p (pos 0) (n + d)))

-- the walk round the ring of z and y, where z is a node
closed_walk : {d : ℕ} (z y : List ℕ) → 1 ≤ d → length z ≡ d → ring_letters (z ++ y) (pos 0) (length (z ++ y) + d) ≡ z ++ (y ++ z)
closed_walk z y some e = grind (arith, length-append, ring_letters-closed, take-append_seam, append_assoc)

-- where each ring of at most 2 d + 1 letters gives nothing, a window gives the difference of the walks from its two nodes that read d letters 0
pub window-short_rings : {d : ℕ} {h sum : List ℕ → ℤ} (k : ℕ) → 1 ≤ k → 1 ≤ d → IsWindowSum d h sum
    → ((p : List ℕ) → IsRing k p → length p ≤ 2 * d + 1 → sum (ring_letters p (pos 0) (length p + d)) ≡ pos 0)
    → (w : List ℕ) → IsWord k w → length w ≡ d + 1 → h w ≡ sum (take d w ++ replicate d 0) -ℤ sum (drop 1 w ++ replicate d 0)
window-short_rings {d} {h} {sum} k some wide sums vanish w word e =
    let z : List ℕ = replicate d 0 in
    let u : List ℕ = take d w in
    let long : length z ≡ d = length-replicate d 0 in
    let u_long : length u ≡ d = length-take-le d w (omega arith) in
    let none : (y : List ℕ) → IsWord k y → length y ≤ d + 1 → sum (z ++ (y ++ z)) ≡ pos 0 = λ y letters short.
    let both = length-append z y in
    ap sum (sym (closed_walk z y wide long))
    ∙ vanish (z ++ y) (record { word = All-append (λ a. a < k) z y (All-replicate (λ a. a < k) d 0 (omega arith)) letters; some = omega arith }) (omega arith) in
    let by_node : w ++ z ≡ u ++ (drop d w ++ z) = ap (λ y. y ++ z) (sym (take-append-drop d w)) ∙ append_assoc u (drop d w) z in
    let out : sum (z ++ (w ++ z)) ≡ sum (z ++ u) +ℤ sum (w ++ z) =
    ap (λ y. sum (z ++ y)) by_node ∙ sum-append sums z u (drop d w ++ z) u_long ∙ ap (λ y. sum (z ++ u) +ℤ sum y) (sym by_node) in
    let on : sum (w ++ z) ≡ h w +ℤ sum (drop 1 w ++ z) =
    sums.more (w ++ z) (omega (arith, length-append w z)) ∙ ap₂ (λ (x y : List ℕ). h x +ℤ sum y) (take_at w z (d + 1) e) (drop-append-le 1 w z (omega arith)) in
    omega (arith, ints, out, on, sum-append sums z u z u_long, none w word (omega arith), none u (All-take (λ a. a < k) d w word) (omega arith))
