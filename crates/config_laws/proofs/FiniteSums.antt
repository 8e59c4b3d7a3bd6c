-- If finite configurations weigh as much as their images, or finitely many new letters change both alike, rings keep their sums.
use Rattle.std.proofs.Common.{◌≡◌, ℕ, zero, suc, ◌+◌, ◌-◌, ◌*◌, ◌<◌, ◌≤◌, ◌↔◌, ⊎_elim, List, [], ◌∷◌, length, get_or, sum_by, ℤ, pos, ◌+ℤ◌, ◌-ℤ◌, neg_ℤ, unsigned_abs, refl, sym, ap, ◌∙◌, arith, suc-mul, add-one, ◌<ℤ◌, ◌≤ℤ◌}
use Rattle.word_image.proofs.Common.{cases_lt, get_or_past, All-cons, All-nil, ints, by_lt_z, LocalRule, IsRule, image, IsRing, ring_letter, ring_image, IsConserving, some_letter, ring_letter-below, ring_letter-turn}
use Rattle.ring_laws.proofs.Rings.{IsWord-ring_image, sum_by-ring_image}
use Rattle.tail_config.proofs.Common.{Config, IsConfig, run, image_of, zeros, length-run, get_or-run, IsWord-run, run-same, image-run, image_of-window}
use Rattle.config_laws.specs.Sums.{weight_on, weight_within, IsFinite, KeepsFiniteSums, KeepsChanges}
use Rattle.config_laws.proofs.Joined.{joined-left, IsConfig-written, between_zeros, letter-right, IsFinite-between}
use Rattle.config_laws.proofs.RingImages.{length-ring_image, run-ring}
use Rattle.config_laws.proofs.Sums.{weight_on-append, weight_within-zeros, KeepsChanges-conserving}

-- two finite configurations and their images differ alike
abbrev KeepsFiniteChanges : (ℕ → ℕ) → LocalRule → Type 0
KeepsFiniteChanges weight r = (x y : Config) → IsConfig r.states x → IsConfig r.states y → IsFinite x → IsFinite y
    → (N : ℕ) × ((n : ℕ) → N ≤ n → weight_within weight n (image_of r x) + weight_within weight n y ≡ weight_within weight n (image_of r y) + weight_within weight n x)

-- runs of two configurations, of which the first has n letters more from place s on, differ by the weight of these letters and of the last n letters of the other run
weight_on-inserted : (weight : ℕ → ℕ) (u v : Config) (s : ℤ) (n : ℕ) → ((j : ℤ) → j <ℤ s → u j ≡ v j) → ((j : ℤ) → s ≤ℤ j → u (j +ℤ pos n) ≡ v j)
    → (i e : ℤ) (l : ℕ) → i ≤ℤ s → s ≤ℤ e → e +ℤ pos n ≡ i +ℤ pos l
    → weight_on weight u i l + weight_on weight v e n ≡ weight_on weight v i l + weight_on weight u s n
weight_on-inserted weight u v s n before after i e l low high end =
    let a : ℕ = unsigned_abs (s -ℤ i) in
    let b : ℕ = unsigned_abs (e -ℤ s) in
    let t : ℤ = s +ℤ pos n in
    let more : l ≡ a + (n + b) = omega (arith, ints) in
    let turn : l ≡ a + (b + n) = omega arith in
    let of_u = ap (weight_on weight u i) more ∙ weight_on-append weight u i s a (n + b) (omega (arith, ints)) ∙ ap (λ w. weight_on weight u i a + w) (weight_on-append weight u s t n b refl) in
    let of_v = ap (weight_on weight v i) turn ∙ weight_on-append weight v i s a (b + n) (omega (arith, ints)) ∙ ap (λ w. weight_on weight v i a + w) (weight_on-append weight v s e b n (omega (arith, ints))) in
    let first = ap (sum_by weight) (run-same u v i i a (λ c h. before (i +ℤ pos c) (omega (arith, ints)))) in
    let last = ap (sum_by weight) (run-same u v t s b (grind (arith, ints))) in
    omega arith

-- the first c letters of a ring, and the ring's letters behind them, between zeros
abbrev turning : List ℕ → ℕ → Config
turning p c = between_zeros (run (ring_letter p) (pos 0) c)

-- on its first places stand the letters of the ring
turning-inside : (p : List ℕ) (c : ℕ) (j : ℤ) → pos 0 ≤ℤ j → j <ℤ pos c → turning p c j ≡ ring_letter p j
turning-inside p c j low high = letter-right (run (ring_letter p) (pos 0) c) j low ∙ get_or-run (ring_letter p) (pos 0) j c (unsigned_abs j) (omega (arith, ints)) (omega (arith, ints))

-- behind them stand zeros
turning-behind : (p : List ℕ) (c : ℕ) (j : ℤ) → pos c ≤ℤ j → turning p c j ≡ 0
turning-behind p c j l =
    let w : List ℕ = run (ring_letter p) (pos 0) c in
    letter-right w j (omega (arith, ints)) ∙ get_or_past w (unsigned_abs j) 0 (omega (arith, ints, length-run (ring_letter p) (pos 0) c))

-- a ring gains as much as zeros of its length: a turn more between zeros changes the weight of the image by as much as that of the letters
ring_sum : {r : LocalRule} {p : List ℕ} → IsRule r → (weight : ℕ → ℕ) → KeepsFiniteChanges weight r → IsRing r.states p
    → sum_by weight (ring_image r p) + weight_on weight zeros (pos 0) (length p) ≡ sum_by weight p + weight_on weight (image_of r zeros) (pos 0) (length p)
ring_sum {r} {p} rule weight keeps ring =
    let d : ℕ = r.width - 1 in
    let n : ℕ = length p in
    let o : ℤ = neg_ℤ r.offset in
    let u : Config = turning p (n + d) in
    let v : Config = turning p d in
    let some : 0 < r.states = some_letter rule in
    let config : (c : ℕ) → IsConfig r.states (turning p c) = λ c. IsConfig-written some (λ j. some) (pos 0) _ (IsWord-run (ring_letter-below ring) (pos 0) c) in
    let left : (j : ℤ) → j <ℤ pos d → u j ≡ v j = λ j l.
    by_lt_z j (pos 0) (λ g. joined-left zeros (pos 0) _ j g ∙ sym (joined-left zeros (pos 0) _ j g))
    (λ g. turning-inside p (n + d) j g (omega (arith, ints)) ∙ sym (turning-inside p d j g l)) in
    let right : (j : ℤ) → pos 0 ≤ℤ j → u (j +ℤ pos n) ≡ v j = λ j l.
    by_lt_z j (pos d) (λ g. turning-inside p (n + d) (j +ℤ pos n) (omega (arith, ints)) (omega (arith, ints)) ∙ ring_letter-turn p j ring.some ∙ sym (turning-inside p d j l g))
    (λ g. turning-behind p (n + d) (j +ℤ pos n) (omega (arith, ints)) ∙ sym (turning-behind p d j g)) in
    let found = keeps u v (config (n + d)) (config d) (IsFinite-between _) (IsFinite-between _) in
    let m : ℕ = found.0 + n + d + unsigned_abs r.offset in
    let i : ℤ = neg_ℤ (pos m) in
    let l : ℕ = m + m + 1 in
    let e : ℤ = i +ℤ pos l -ℤ pos n in
    let letters = weight_on-inserted weight u v (pos 0) n (λ j h. left j (omega (arith, ints))) right i e l (omega (arith, ints)) (omega (arith, ints)) (omega (arith, ints)) in
    let images = weight_on-inserted weight (image_of r u) (image_of r v) o n (λ j h. image_of-window r u v j j (λ c g. left (j +ℤ r.offset +ℤ pos c) (omega (arith, ints))))
    (λ j h. image_of-window r u v (j +ℤ pos n) j (λ c g.
    let place : j +ℤ pos n +ℤ r.offset +ℤ pos c ≡ j +ℤ r.offset +ℤ pos c +ℤ pos n = omega (arith, ints) in
    ap u place ∙ right (j +ℤ r.offset +ℤ pos c) (omega (arith, ints)))) i e l (omega (arith, ints)) (omega (arith, ints)) (omega (arith, ints)) in
    let inside : (c : ℕ) → c ≤ n + d → run u (pos 0) c ≡ run (ring_letter p) (pos 0) c = λ c h. run-same u (ring_letter p) (pos 0) (pos 0) c (λ a g. turning-inside p (n + d) (pos 0 +ℤ pos a) (omega (arith, ints)) (omega (arith, ints))) in
    let image_turn : weight_on weight (image_of r u) o n ≡ sum_by weight (ring_image r p) =
    ap (sum_by weight) (sym (image-run rule u o (pos 0) n (omega (arith, ints))) ∙ ap (image r) (inside (n + d) (omega arith))) ∙ sym (sum_by-ring_image rule weight p (pos 0) ring.some) in
    let none : weight_on weight v e n ≡ weight_on weight zeros (pos 0) n = ap (sum_by weight) (run-same v zeros e (pos 0) n (λ a g. turning-behind p d (e +ℤ pos a) (omega (arith, ints)))) in
    let image_none : weight_on weight (image_of r v) e n ≡ weight_on weight (image_of r zeros) (pos 0) n =
    ap (sum_by weight) (run-same (image_of r v) (image_of r zeros) e (pos 0) n (λ a g. image_of-window r v zeros (e +ℤ pos a) (pos 0 +ℤ pos a) (λ c h. turning-behind p d (e +ℤ pos a +ℤ r.offset +ℤ pos c) (omega (arith, ints))))) in
    omega (arith, ap (sum_by weight) (inside n (omega arith) ∙ run-ring p))

-- of numbers below k one is greatest
greatest : (f : ℕ → ℕ) (k : ℕ) → (a : ℕ) × (a < suc k) × ((b : ℕ) → b < suc k → f b ≤ f a)
greatest f zero = (0, omega arith, λ b l. let e : b ≡ 0 = omega arith in omega (arith, ap f e))
greatest f (suc k) =
    let (a, below, most) = greatest f k in
    ⊎_elim (λ more. (suc k, omega arith, λ b l. ⊎_elim (λ g. omega (arith, most b g)) (λ g. let e : b ≡ suc k = omega arith in omega (arith, ap f e)) (cases_lt b (suc k))))
    (λ not_more. (a, omega arith, λ b l. ⊎_elim (λ g. most b g) (λ g. let e : b ≡ suc k = omega arith in omega (arith, ap f e)) (cases_lt b (suc k))))
    (cases_lt (f a) (f (suc k)))

-- a run of one letter n times weighs n times as much
weight_on-constant : (weight : ℕ → ℕ) (x : Config) (i : ℤ) (c : ℕ) → ((j : ℤ) → x j ≡ c) → (n : ℕ) → weight_on weight x i n ≡ n * weight c
weight_on-constant weight x i c same zero = omega arith
weight_on-constant weight x i c same (suc n) =
    omega (arith, ap (weight_on weight x i) (add-one n), weight_on-append weight x i _ n 1 refl, weight_on-constant weight x i c same n, ap weight (same (i +ℤ pos n +ℤ pos 0)), suc-mul n (weight c))

-- if finite configurations and their images differ alike, rings keep their sums: zeros gain nothing, since no ring of one letter weighs more than the heaviest letter, or less than the lightest
IsConserving-finite : {r : LocalRule} → IsRule r → (weight : ℕ → ℕ) → KeepsFiniteChanges weight r → IsConserving weight r
IsConserving-finite {r} rule weight keeps p ring =
    let k : ℕ = r.states - 1 in
    let (a, ha, most) = greatest weight k in
    let (b, hb, fewest) = greatest (λ c. weight a - weight c) k in
    let f : ℕ → ℕ = λ c. get_or (ring_image r (c ∷ [])) 0 0 in
    let zero_image : ℕ = image_of r zeros (pos 0) in
    let of_zeros = weight_on-constant weight zeros (pos 0) 0 (λ j. refl) in
    let of_images = weight_on-constant weight (image_of r zeros) (pos 0) zero_image (λ j. image_of-window r zeros zeros j (pos 0) (λ c l. refl)) in
    let letter : (c : ℕ) → f c < suc k = λ c. omega (arith, IsWord-ring_image rule (c ∷ []) 0 0 (omega (arith, length-ring_image r (c ∷ [])))) in
    let same : (c : ℕ) → c < suc k → weight (f c) + weight 0 ≡ weight c + weight zero_image = λ c l.
    omega (arith, ring_sum {p = c ∷ []} rule weight keeps (record { word = All-cons (λ d. d < r.states) c [] (omega (arith, l)) (All-nil (λ d. d < r.states)); some = omega arith }), of_zeros 1, of_images 1) in
    grind (arith, ring_sum, length)

-- a rule keeps the sums of rings exactly if it keeps those of finite configurations
pub IsConserving-sums : {r : LocalRule} → IsRule r → (weight : ℕ → ℕ) → IsConserving weight r ↔ KeepsFiniteSums weight r
IsConserving-sums {r} rule weight = (
  λ keeps x hx finite.
      let found = KeepsChanges-conserving rule weight keeps x zeros hx (λ i. some_letter rule) finite.0 finite.1 in
      (found.0, λ n l. omega (arith, found.1 n l, weight_within-zeros rule weight keeps n)),
  λ keeps. IsConserving-finite rule weight (λ x y hx hy fx fy.
      let of_x = keeps x hx fx in
      let of_y = keeps y hy fy in
      (of_x.0 + of_y.0, λ n l. omega (arith, of_x.1 n (omega arith), of_y.1 n (omega arith)))),
)

-- a rule keeps the sums of rings exactly if it keeps changes
pub IsConserving-changes : {r : LocalRule} → IsRule r → (weight : ℕ → ℕ) → IsConserving weight r ↔ KeepsChanges weight r
IsConserving-changes {r} rule weight = (
  KeepsChanges-conserving rule weight,
  λ keeps. IsConserving-finite rule weight (λ x y hx hy fx fy.
      let (p, x_left) = fx.0 in
      let (q, y_left) = fy.0 in
      let (s, x_right) = fx.1 in
      let (t, y_right) = fy.1 in
      keeps x y hx hy
      (p -ℤ pos (unsigned_abs (q -ℤ p)), λ i l. x_left i (omega (arith, ints)) ∙ sym (y_left i (omega (arith, ints))))
      (s +ℤ pos (unsigned_abs (t -ℤ s)), λ i l. x_right i (omega (arith, ints)) ∙ sym (y_right i (omega (arith, ints))))),
)
