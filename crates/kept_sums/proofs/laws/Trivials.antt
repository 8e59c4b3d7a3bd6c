-- Trivial weights: each rule keeps their sums; each weight is a normal one and a trivial one; only 0 is both.
use Rattle.std.proofs.Common.{◌≡◌, ℕ, zero, suc, ◌+◌, ◌-◌, ◌/◌, ◌%◌, ◌^◌, ◌<◌, ◌≤◌, List, length, take, drop, ℤ, pos, ◌+ℤ◌, ◌-ℤ◌, ◌*ℤ◌, sym, ap, subst, ◌∙◌, arith, mod-lt, pow-suc, mul-le-mul_left, mod-eq_of_lt}
use Rattle.word_image.proofs.Common.{one-le-pow, pow-zero, zero-div, pow-le-pow_right, ints, LocalRule, IsRule, value, IsRing, ring_letters, ring_image, by_ends, value-front, value-tail, value-word_of, div_below}
use Rattle.kept_sums.specs.Sums.{sum_at, blocks, IsKept, sum_to}
use Rattle.kept_sums.specs.Stages.{IsNormal, ring_at, NotedKeep, IsStage}
use Rattle.kept_sums.specs.Fluxes.{IsFlowBy}
use Rattle.kept_sums.specs.Trivials.{IsTrivial, IsSpannedUpToTrivial}
use Rattle.kept_sums.proofs.laws.Integers.{mul-add, mul-sub}
use Rattle.kept_sums.proofs.laws.Ranges.{pow-next}
use Rattle.kept_sums.proofs.laws.Sums.{sum_at-sub}
use Rattle.kept_sums.proofs.laws.Spans.{sum_at-map}
use Rattle.kept_sums.proofs.laws.Locals.{turn_sum-steps}
use Rattle.kept_sums.proofs.laws.Densities.{length-ring_image}
use Rattle.kept_sums.proofs.laws.AfterRings.{IsRing-ring_image}

-- on a ring trivial weights say how many letters it has
trivial_sum : {k range : ℕ} {weight : ℕ → ℤ} → 1 ≤ range → (trivial : IsTrivial k range weight) → (p : List ℕ) → IsRing k p
    → sum_at weight (blocks k range p) ≡ pos (length p) *ℤ trivial.constant
trivial_sum {k} {range} {weight} some trivial p ring =
    let next : range ≡ range - 1 + 1 = omega arith in
    sum_at-map weight (λ i. value k (ring_letters p (pos i) range)) (length p)
    ∙ ap (λ m. sum_to (length p) (λ i. weight (value k (ring_letters p (pos i) m)))) next
    ∙ turn_sum-steps (λ w. weight (value k w)) (λ w. trivial.phi (value k w)) trivial.constant (range - 1) p ring (λ w word long. trivial.is w word (omega arith))

-- each rule keeps the sums of trivial weights
pub IsKept-trivial : {r : LocalRule} → IsRule r → (range : ℕ) (weight : ℕ → ℤ) → 1 ≤ range → IsTrivial r.states range weight → IsKept range weight r
IsKept-trivial {r} rule range weight some trivial p ring =
    trivial_sum some trivial p ring
    ∙ ap (λ n. pos n *ℤ trivial.constant) (sym (length-ring_image r p))
    ∙ sym (trivial_sum some trivial (ring_image r p) (IsRing-ring_image rule ring))

-- the function that makes weights trivial on the words that begin with the letter 0
pub potential_of : ℕ → ℕ → (ℕ → ℤ) → ℕ → ℤ
potential_of k zero weight v = pos 0
potential_of k (suc d) weight v = (weight 0 -ℤ weight v) +ℤ potential_of k d weight (v / k)

-- the weight of a word, by what the potential gives on the word and without its last letter
potential-step : (k d : ℕ) (weight : ℕ → ℤ) (v : ℕ) → v < k ^ d
    → weight v ≡ weight 0 +ℤ (potential_of k d weight (v / k) -ℤ potential_of k d weight v)
unfolding potential_of
potential-step k zero weight v l = let none : v ≡ 0 = omega (arith, l, pow-zero k) in omega (arith, ints, ap weight none)
potential-step zero (suc d) weight v l = absurd (omega (arith, l, pow-suc 0 d))
potential-step (suc k) (suc d) weight v l = omega (arith, ints, potential-step (suc k) d weight (v / suc k) (div_below v (suc k) (suc k ^ d) (omega arith) (omega (arith, l, pow-suc (suc k) d))))

-- the trivial part of weights
abbrev pub trivial_part : ℕ → ℕ → (ℕ → ℤ) → ℕ → ℤ
trivial_part k range weight x = weight 0 +ℤ (potential_of k (range - 1) weight (x / k) -ℤ potential_of k (range - 1) weight (x % k ^ (range - 1)))

-- what is left of weights without their trivial part
abbrev pub normal_part : ℕ → ℕ → (ℕ → ℤ) → ℕ → ℤ
normal_part k range weight x = weight x -ℤ trivial_part k range weight x

-- the words at the two ends of a window
pub window_ends : (k n v : ℕ) → 1 ≤ k → v < k ^ (n + 1) → (v / k < k ^ n) × (v % k ^ n < k ^ n)
window_ends k n v some l = (div_below v k (k ^ n) some (omega (arith, l, pow-next k n)), mod-lt v (one-le-pow n k some))

-- the number of a word by that of its letters but for the last
pub IsFlowBy-back : {k n : ℕ} {gains phi : ℕ → ℤ} → 1 ≤ k → IsFlowBy k n gains phi → (v : ℕ) → v < k ^ n → gains v ≡ phi (v / k) -ℤ phi v
IsFlowBy-back {k} {n} {gains} {phi} some by v l = by.flows v (omega (arith, pow-next k n, mul-le-mul_left (k ^ n) some, l)) ∙ ap (λ x. phi (v / k) -ℤ phi x) (mod-eq_of_lt l)

-- the trivial part is trivial
pub IsTrivial-part : (k range : ℕ) (weight : ℕ → ℤ) → 1 ≤ range → IsTrivial k range (trivial_part k range weight)
IsTrivial-part k range weight some = record {
  constant = weight 0;
  phi = potential_of k (range - 1) weight;
  is = grind (arith, value-front, value-tail);
}

-- what is left of weights without their trivial part is normal
pub IsNormal-part : (k range : ℕ) (weight : ℕ → ℤ) → IsNormal k range (normal_part k range weight)
IsNormal-part k range weight a l = omega (arith, ints, potential-step k (range - 1) weight a l, ap (λ i. potential_of k (range - 1) weight i) (mod-eq_of_lt l))

-- a function that doesn't see the last letter gives one number on all words
pub same_of_step : (k : ℕ) (phi : ℕ → ℤ) (d n : ℕ) → 1 ≤ k → n ≤ d → ((v : ℕ) → v < k ^ d → phi v ≡ phi (v / k)) → (v : ℕ) → v < k ^ n → phi v ≡ phi 0
same_of_step k phi d zero some few step v l = let none : v ≡ 0 = omega (arith, pow-zero k) in ap phi none
same_of_step k phi d (suc n) some few step v l =
    grind (arith, pow-le-pow_right, same_of_step k phi d n some (omega arith) step (v / k) (div_below v k (k ^ n) some (omega (arith, l, pow-suc k n))))

-- weights that are normal and trivial are 0
pub IsNormal-trivial : (k range : ℕ) (weight : ℕ → ℤ) → 2 ≤ k → 1 ≤ range → IsNormal k range weight → IsTrivial k range weight → (a : ℕ)
    → a < k ^ range → weight a ≡ pos 0
IsNormal-trivial k range weight states some normal trivial a l =
    let d : ℕ = range - 1 in
    let phi = trivial.phi in
    let c = trivial.constant in
    let next : d + 1 ≡ range = omega arith in
    let by : IsFlowBy k d (λ x. weight x -ℤ c) phi = record {
      flows = λ v h.
          ap (λ x. weight x -ℤ c) (sym (value-word_of k (d + 1) v h))
          ∙ (by_ends k d (λ w. weight (value k w) -ℤ c) phi).0 (λ w word long. omega (arith, ints, trivial.is w word (long ∙ next))) v h;
    } in
    let back : (v : ℕ) → v < k ^ d → (weight v -ℤ c) ≡ phi (v / k) -ℤ phi v = IsFlowBy-back (omega arith) by in
    let one : 0 < k ^ d = one-le-pow d k (omega arith) in
    let constant : c ≡ pos 0 = omega (arith, ints, back 0 one, normal 0 one, ap phi (zero-div k)) in
    let same : (v : ℕ) → v < k ^ d → phi v ≡ phi 0 = same_of_step k phi d d (omega arith) (omega arith) (λ v h. omega (arith, ints, back v h, normal v h, constant)) in
    let below : a < k ^ (d + 1) = subst (λ n. a < k ^ n) (sym next) l in
    let ends = window_ends k d a (omega arith) below in
    omega (arith, ints, by.flows a below, constant, same (a / k) ends.0, same (a % k ^ d) ends.1)

-- each kept weight is a rational combination of the rows and trivial weights
pub IsSpannedUpToTrivial-kept : {r : LocalRule} {range : ℕ} {rows : List (List ℤ)} {counts : List ℕ} {rings : List (List ℕ)} → IsRule r → 1 ≤ range
    → IsStage r range rows counts rings
    → (weight : ℕ → ℤ) → NotedKeep r range counts rings weight → IsSpannedUpToTrivial r.states range rows weight
IsSpannedUpToTrivial-kept {r} {range} {rows} {counts} {rings} rule some stage weight keep =
    let k : ℕ = r.states in
    let trivial = IsTrivial-part k range weight some in
    let kept = IsKept-trivial rule range (trivial_part k range weight) some trivial in
    let normal : NotedKeep r range counts rings (normal_part k range weight) = λ i l noted.
    let p : List ℕ = ring_at counts rings i in
    let less = sum_at-sub weight (trivial_part k range weight) in
    omega (arith, ints, less (blocks k range p), less (blocks k range (ring_image r p)), keep i l noted, kept p ((stage.places i l).ring noted)) in
    let spanned = stage.complete (normal_part k range weight) (IsNormal-part k range weight) normal in
    let times : ℤ = pos spanned.times in
    record {
      times = spanned.times;
      some = spanned.some;
      parts = spanned.parts;
      rest = λ a. times *ℤ trivial_part k range weight a;
      trivial = record {
        constant = times *ℤ trivial.constant;
        phi = λ v. times *ℤ trivial.phi v;
        is = λ w word long.
            let first = trivial.phi (value k (take (range - 1) w)) in
            let last = trivial.phi (value k (drop 1 w)) in
            omega (arith, ints, ap (λ (x : ℤ). times *ℤ x) (trivial.is w word long), mul-add times trivial.constant (first -ℤ last), mul-sub times first last);
      };
      sums = λ a l. omega (arith, ints, spanned.sums a l, mul-sub times (weight a) (trivial_part k range weight a));
    }
