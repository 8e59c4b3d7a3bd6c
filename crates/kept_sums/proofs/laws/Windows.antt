-- Windows of m + range - 1 letters by their values, and the fluxes of what they add.
use Rattle.std.proofs.Common.{◌≡◌, ℕ, zero, suc, ◌+◌, ◌-◌, ◌*◌, ◌/◌, ◌%◌, ◌^◌, ◌<◌, ◌≤◌, ◌↔◌, List, length, take, drop, get_or-set_other, set, ℤ, pos, ◌-ℤ◌, refl, sym, ap, ◌∙◌, arith, unsigned_abs, pow-suc, mul-le-mul, mul-le-mul_left, pow-add, length-set}
use Rattle.word_image.proofs.Common.{by_ends, set_more, pow-zero, div-lt_self, ints, LocalRule, IsRule, value, word_of, div_below}
use Rattle.kept_sums.specs.Rows.{at}
use Rattle.kept_sums.specs.Fluxes.{IsFluxOf, window_gain, IsFlowBy}
use Rattle.kept_sums.proofs.laws.Ranges.{pow-next}
use Rattle.kept_sums.proofs.laws.Trivials.{window_ends, IsFlowBy-back, same_of_step}

-- how many windows there are
windows-split : {r : LocalRule} → IsRule r → (range : ℕ)
    → r.states ^ (r.width + range - 1) ≡ r.states ^ (r.width - 1) * r.states ^ range
windows-split {r} rule range = ap (λ n. r.states ^ n) (omega arith) ∙ pow-add r.states (r.width - 1) range

-- there are at most 256 windows
pub windows-most : {r : LocalRule} → IsRule r → (range n : ℕ) → n + 1 ≡ r.width + range → r.states ^ range ≤ 16 → r.states ^ n ≤ 256
windows-most {r} rule range n long few =
    let same : r.width + range - 1 ≡ n = omega arith in
    omega (arith, windows-split rule range, mul-le-mul rule.shape.most_nodes few, ap (λ j. r.states ^ j) same)

-- one letter fewer: half as many words at most
pub words-half : (k n : ℕ) → 2 ≤ k → k ^ (n + 1) ≤ 256 → k ^ n ≤ 128
words-half k n states few = omega (arith, pow-next k n, mul-le-mul_left (k ^ n) states, few)

-- the first letters of a window are one of few words
pub front-below : {r : LocalRule} → IsRule r → (range v : ℕ) → r.states ^ range ≤ 16
    → v < r.states ^ (r.width + range - 1) → v / r.states ^ (r.width - 1) < 16
front-below rule range v few l = grind (arith, windows-split)

-- a flux of words is one by the values of the windows
pub IsFlowBy-flux : {r : LocalRule} {range : ℕ} {weight phi gains : ℕ → ℤ} → IsRule r → 1 ≤ range
    → ((v : ℕ) → v < r.states ^ (r.width + range - 1) → gains v ≡ window_gain r range weight (word_of r.states (r.width + range - 1) v))
    → IsFluxOf range weight r phi ↔ IsFlowBy r.states (r.width + range - 2) gains phi
IsFlowBy-flux {r} {range} {weight} {phi} rule some are =
    let n : ℕ = r.width + range - 2 in
    let e : r.width + range - 1 ≡ n + 1 = omega (arith, some, rule.shape.least_width) in
    let windows = rw e at are in
    let ends = by_ends r.states n (window_gain r range weight) phi in
    let front : (w : List ℕ) → length w ≡ n + 1 → take (length w - 1) w ≡ take n w = λ w long. let less : length w - 1 ≡ n = omega arith in ap (λ j. take j w) less in
    let step = λ (w x : List ℕ). phi (value r.states x) -ℤ phi (value r.states (drop 1 w)) in (
      λ flux. record { flows = λ v l. windows v l ∙ ends.0 (λ w word long. flux.flows w word (omega arith) ∙ ap (step w) (front w long)) v l },
      λ by. record { flows = λ w word long. ends.1 (λ v l. sym (windows v l) ∙ by.flows v l) w word (omega arith) ∙ ap (step w) (sym (front w (omega arith))) },
    )

-- numbers that differ from a flux by one number are a flux
pub IsFlowBy-less : {k n : ℕ} {gains phi psi : ℕ → ℤ} (c : ℤ) → 1 ≤ k → ((v : ℕ) → v < k ^ n → psi v ≡ phi v -ℤ c) → IsFlowBy k n gains phi
    → IsFlowBy k n gains psi
IsFlowBy-less {k} {n} c some less by = record {
  flows = λ v l.
      let ends = window_ends k n v some l in
      let first = less (v / k) ends.0 in
      let last = less (v % k ^ n) ends.1 in
      let here = by.flows v l in
      omega (arith, ints, here, first, last);
}

-- two fluxes differ by one number
pub IsFluxOf-one : {r : LocalRule} {range : ℕ} {weight phi psi : ℕ → ℤ} → IsRule r → 1 ≤ range → IsFluxOf range weight r phi
    → IsFluxOf range weight r psi
    → (v : ℕ) → v < r.states ^ (r.width + range - 2) → (phi v -ℤ phi 0) ≡ psi v -ℤ psi 0
IsFluxOf-one {r} {range} {weight} {phi} {psi} rule some one other v l =
    let d : ℕ = r.width + range - 2 in
    let gains : ℕ → ℤ = λ u. window_gain r range weight (word_of r.states (r.width + range - 1) u) in
    let step : (u : ℕ) → u < r.states ^ d → (phi u -ℤ psi u) ≡ phi (u / r.states) -ℤ psi (u / r.states) = λ u h.
    omega (arith, ints, IsFlowBy-back {gains = gains} (omega arith) ((IsFlowBy-flux rule some (λ _ _. refl)).0 one) u h, IsFlowBy-back {gains = gains} (omega arith) ((IsFlowBy-flux rule some (λ _ _. refl)).0 other) u h) in
    omega (arith, ints, same_of_step r.states (λ u. phi u -ℤ psi u) d d (omega arith) (omega arith) step v l)

-- the first words have the numbers of any flux less that of the word of letters 0, and the others zeros
pub record AreNumbers (k n word : ℕ) (gains flux : List ℤ) : Type 0 where
  pub many : length flux ≡ 128
  pub done : (phi : ℕ → ℤ) → IsFlowBy k n (at gains) phi → (v : ℕ) → v < word → at flux v ≡ phi v -ℤ phi 0
  pub bounds : (v j : ℕ) → v < word → v < k ^ j → unsigned_abs (at flux v) ≤ j * 2 ^ 57
  pub rest : (v : ℕ) → word ≤ v → at flux v ≡ pos 0

-- how great the number of the next word may be
number_small : (k v j : ℕ) (gains flux : List ℤ) (x : ℤ) → 2 ≤ k → 1 ≤ v → v < k ^ j → x ≡ at flux (v / k) -ℤ at gains v
    → unsigned_abs (at gains v) ≤ 2 ^ 57
    → ((u i : ℕ) → u < v → u < k ^ i → unsigned_abs (at flux u) ≤ i * 2 ^ 57) → unsigned_abs x ≤ j * 2 ^ 57
number_small k v zero gains flux x states some l is small bounds = let one = pow-zero k in absurd (omega arith)
number_small k v (suc i) gains flux x states some l is small bounds =
    let before = bounds (v / k) i (div-lt_self some states) (div_below v k (k ^ i) (omega arith) (omega (arith, l, pow-suc k i))) in
    omega (arith, ints, is, before, small)

-- the number of the next word is that of its letters but for the last less what the window adds between them
pub AreNumbers-next : (k n v place : ℕ) (gains flux : List ℤ) (x : ℤ) → 2 ≤ k → 1 ≤ v → v < k ^ n → v < 128 → place ≡ v
    → unsigned_abs (at gains v) ≤ 2 ^ 57 → x ≡ at flux (v / k) -ℤ at gains v
    → AreNumbers k n v gains flux → AreNumbers k n (v + 1) gains (set flux place x)
AreNumbers-next k n v place gains flux x states some l few e small is before = record {
  many = length-set flux place x ∙ before.many;
  done = λ phi by.
      let back = IsFlowBy-back (omega arith) by v l in
      set_more (λ u z. z ≡ phi u -ℤ phi 0) flux v place (pos 0) x (omega arith) e (before.done phi by) (omega (arith, ints, before.done phi by (v / k) (div-lt_self some states)));
  bounds = λ u j below.
      set_more (λ a z. a < k ^ j → unsigned_abs z ≤ j * 2 ^ 57) flux v place (pos 0) x (omega arith) e (λ a m h. before.bounds a j m h)
      (λ h. number_small k v j gains flux x states some h is small before.bounds) u below;
  rest = λ u m. get_or-set_other flux place u x (pos 0) (λ same. omega arith) ∙ before.rest u (omega arith);
}
