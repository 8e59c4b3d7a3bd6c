-- How great the numbers of a crossed row may be, divided by their greatest common divisor: no greater than those of a small solution of the conditions so far.
use Rattle.std.proofs.Common.{◌≡◌, ◌≢◌, ℕ, zero, suc, ◌+◌, ◌-◌, ◌*◌, ◌^◌, ◌<◌, ◌≤◌, List, [], length, set, slice_index, slice_index_or, get_or-set_other, ℤ, pos, ◌-ℤ◌, ◌*ℤ◌, sym, ap, subst, ◌∙◌, ⊎_elim, arith, unsigned_abs, length-take, take_all}
use Rattle.std.proofs.Math.Nat.{pow-suc, mul-le-mul, mul-le-mul_left, mul-le-mul_right, pos_of_dvd_of_pos, dvd-mul_left, dvd-mul_right}
use Rattle.word_image.proofs.Common.{one-le-pow, eq_of_mul-eq-mul_left, cases_lt, at-set, cases_eq, ints, nat_tests, unsigned_abs-mul, LocalRule, IsRule, IsRing, ring_image}
use Rattle.kept_sums.specs.Sums.{blocks, KeepsSumOf}
use Rattle.kept_sums.specs.Rows.{at, IsDivisor}
use Rattle.kept_sums.specs.Spans.{entry, gain_at, FitNarrowed}
use Rattle.kept_sums.specs.Stages.{IsFree, ring_at, IsZero, IsStage, IsCondition}
use Rattle.kept_sums.proofs.laws.Integers.{factor-none, positive_is}
use Rattle.kept_sums.proofs.laws.Spans.{sum_to-one, spanned_crosses, gain_at-zero}
use Rattle.kept_sums.proofs.laws.Combined.{multiple_of}
use Rattle.kept_sums.proofs.laws.Densities.{length-ring_image, KeepsSumOf-gain}
use Rattle.kept_sums.proofs.laws.Stages.{free_before, free_more, Stands, stands_or_zero, Stands-gains, NotedKeep-set, none-past}
use Rattle.kept_sums.proofs.laws.AfterRings.{length-blocks}
use Rattle.kept_sums.proofs.laws.Unique.{part-none, IsSpanned-all}
use Rattle.kept_sums.proofs.laws.Siegel.{pick, product, SmallSolution, small_solution}
use Rattle.kept_sums.proofs.laws.Ranges.{pow-le-pow, exponent}

-- in no shape is the bound of a small solution above 2^56
pub limits : {r : LocalRule} → IsRule r → (range h e : ℕ) → 1 ≤ range → r.states ^ range ≤ 16 → h + 3 ≡ 2 * (r.width + range)
    → e ≤ r.states ^ range - r.states ^ (range - 1) + 1 → (2 * h) ^ e ≤ 2 ^ 56
limits {r} rule range h e some few long most =
    let k : ℕ = r.states in
    let p : ℕ = k ^ (range - 1) in
    let states = rule.shape.least_states in
    let nodes = rule.shape.most_nodes in
    let split : k ^ range ≡ p * k = let next : range ≡ suc (range - 1) = omega arith in ap (λ n. k ^ n) next ∙ pow-suc k (range - 1) in
    let positive : 1 ≤ p = one-le-pow (range - 1) k (omega arith) in
    ⊎_elim
    (λ (two : k < 3).
    let short = exponent 2 5 k range (omega arith) states (omega arith) few in
    let small : k ≤ 2 = omega arith in
    let free = mul-le-mul_left p small in
    omega (arith, pow-le-pow (2 * h) e 30 9 (omega arith) (omega arith) (omega arith)))
    (λ (more : 3 ≤ k). ⊎_elim
    (λ (middle : k < 5).
    let short = exponent 3 3 k range (omega arith) more (omega arith) few in
    let narrow = exponent 3 3 k (r.width - 1) (omega arith) more (omega arith) nodes in
    let small : k ≤ 4 = omega arith in
    let free : p * k - p ≤ 12 = omega (arith, mul-le-mul_left p small, mul-le-mul_left p more) in
    omega (arith, pow-le-pow (2 * h) e 14 13 (omega arith) (omega arith) (omega arith)))
    (λ (many : 5 ≤ k).
    let short = exponent 5 2 k range (omega arith) many (omega arith) few in
    let narrow = exponent 5 2 k (r.width - 1) (omega arith) many (omega arith) nodes in
    omega (arith, pow-le-pow (2 * h) e 6 16 (omega arith) (omega arith) (omega arith)))
    (cases_lt k 5))
    (cases_lt k 3)

-- a product is at most what grows as much with each factor
product-steps : (n : ℕ) (f g : ℕ → ℕ) → 1 ≤ g 0 → ((a : ℕ) → a < n → f a * g a ≤ g (suc a)) → product n f ≤ g n
unfolding product
product-steps zero f g some step = some
product-steps (suc n) f g some step = omega (arith, mul-le-mul_left (f n) (product-steps n f g some (λ a l. step a (omega arith))), step n (omega arith))

-- the factor of a place
pick-one : (g b : ℕ) → 1 ≤ b → pick g 1 b ≤ b
pick-one g b some = grind (arith, nat_tests)

-- sizes: where multiples of numbers are multiples of small ones, the numbers divided by a combination of them are small
least_part : (n m g y c z most : ℕ) → 1 ≤ n → 1 ≤ y → m * g ≡ n * y → n * z ≡ m * c → z ≤ most → c ≤ g * most
least_part n m g y c z most some more whole part small =
    let same : g * z ≡ y * c = eq_of_mul-eq-mul_left n some (g * z) (y * c) (omega (arith, ap (λ j. j * c) whole, ap (λ j. g * j) part)) in
    omega (arith, same, mul-le-mul_left g small, mul-le-mul_right c more)

-- a row of which small weights are a multiple has at most its divisor times the greatest of them
bounded_multiple : (n : ℕ) (weight : ℕ → ℤ) (m : ℤ) (cross : List ℤ) (g most b : ℕ) → 1 ≤ n → ((a : ℕ) → a < 16 → pos n *ℤ weight a ≡ m *ℤ at cross a)
    → ((a : ℕ) → unsigned_abs (weight a) ≤ most)
    → b < 16 → weight b ≢ pos 0 → IsDivisor cross g → (a : ℕ) → a < 16 → unsigned_abs (at cross a) ≤ g * most
bounded_multiple n weight m cross g most b positive multiple small within some divisor a l =
    let size : (c : ℕ) → c < 16 → unsigned_abs m * unsigned_abs (at cross c) ≡ n * unsigned_abs (weight c) = λ c h.
    sym (unsigned_abs-mul m (at cross c)) ∙ ap unsigned_abs (sym (multiple c h)) ∙ unsigned_abs-mul (pos n) (weight c) in
    let size_b : 1 ≤ unsigned_abs (weight b) = omega (arith, ints, some) in
    let both : 0 < unsigned_abs m * unsigned_abs (at cross b) =
    omega (arith, size b within, mul-le-mul positive size_b) in
    let factor = pos_of_dvd_of_pos (dvd-mul_right (unsigned_abs m) (unsigned_abs (at cross b))) both in
    let entry = pos_of_dvd_of_pos (dvd-mul_left (unsigned_abs (at cross b)) (unsigned_abs m)) both in
    let some = mul-le-mul factor (pos_of_dvd_of_pos (divisor.divides b within) entry) in
    let part = multiple_of cross g (unsigned_abs m) n (λ c. unsigned_abs (weight c)) divisor.combined some size in
    least_part n (unsigned_abs m) g part.0 (unsigned_abs (at cross a)) (unsigned_abs (weight a)) most positive part.1 part.2 (sym (size a l)) (small a)

-- the cross of a row with another one
abbrev crossed : ℕ → ℤ → ℤ → ℤ → ℤ
crossed lead old gain other = (pos lead *ℤ old) -ℤ (gain *ℤ other)

-- the cross of a row of zeros is 0
crossed-none : (lead : ℕ) (old gain other : ℤ) → old ≡ pos 0 → gain ≡ pos 0 → crossed lead old gain other ≡ pos 0
crossed-none lead old gain other none nothing = rw (none, nothing) (omega (arith, ints))

-- the cross of a row with itself is 0
crossed-pivot : (lead : ℕ) (old gain : ℤ) → gain ≡ pos lead → crossed lead old gain old ≡ pos 0
crossed-pivot lead old gain e = rw e (omega (arith, ints))

module _ {r : LocalRule} {range : ℕ} {rows : List (List ℤ)} {counts : List ℕ} {rings : List (List ℕ)} (rule : IsRule r) (some : 1 ≤ range) (few : r.states ^ range ≤ 16) (stage : IsStage r range rows counts rings) where
  -- the rings of a stage with n letters noted in a free place have a small solution that isn't 0 at one place more
  pub noted_solution : (j n : ℕ) (others : List (List ℕ)) → j < 16 → IsFree r.states range j → n + 3 ≤ 2 * (r.width + range) → (i : ℕ) → i < 16
      → slice_index (set counts j n) i ≡ 0
      → SmallSolution 16 i (slice_index (set counts j n)) (λ m. blocks r.states range (ring_image r (ring_at (set counts j n) others m))) (λ m. blocks r.states range (ring_at (set counts j n) others m)) (2 ^ 56)
  noted_solution j n others within free fits i l none =
      let now : List ℕ = set counts j n in
      let noted : (m : ℕ) → m < 16 → 1 ≤ slice_index now m → IsFree r.states range m × (slice_index now m + 3 ≤ 2 * (r.width + range)) = λ m l.
      at-set (λ v c. 1 ≤ c → IsFree r.states range v × (c + 3 ≤ 2 * (r.width + range))) counts j 0 n (let many = stage.many_counts in omega arith) m (λ _ some. ((stage.places m l).free some, stage.short m l)) (λ _. (free, fits)) in
      let k : ℕ = r.states in
      let h : ℕ = 2 * (r.width + range) - 3 in
      let p : ℕ → List ℕ = ring_at now others in
      let power : ℕ → ℕ = λ a. (2 * h) ^ free_before k range a in
      let one = one-le-pow (free_before k range 0) (2 * h) (omega arith) in
      let most = product-steps 16 (λ a. pick (slice_index now a) 1 (2 * h)) power one (λ a n. ⊎_elim
      (λ inside. omega (arith, mul-le-mul_right (power a) (pick-one (slice_index now a) (2 * h) (omega arith)), ap (λ e. (2 * h) ^ e) inside.1, pow-suc (2 * h) (free_before k range a)))
      (λ outside.
      let no : ¬ (1 ≤ slice_index now a) = λ more. outside.0 (noted a n more).0 in
      let e : slice_index now a ≡ 0 = omega arith in
      omega (arith, ap (λ c. pick c 1 (2 * h) * power a) e, ap (λ e. (2 * h) ^ e) outside.1))
      (free_more k range a)) in
      let limit = limits rule range h (free_before k range 16) some few (omega arith) (omega arith) in
      small_solution 16 h i (2 ^ 56) (slice_index now) (λ m. blocks k range (ring_image r (p m))) (λ m. blocks k range (p m)) l (omega arith) none
      (λ m n some.
      let cut : length (p m) ≤ h = omega (arith, length-take (slice_index now m) (slice_index_or others m []), (noted m n some).1) in
      (omega (arith, cut, length-blocks k range (ring_image r (p m)), length-ring_image r (p m)), omega (arith, cut, length-blocks k range (p m))))
      (omega (arith, most, limit))

  -- rows narrowed by two words that say of a short ring whether it keeps a sum fit
  pub FitNarrowed-condition : (p x y : List ℕ) → IsRing r.states p → IsCondition r range p x y → length p + 3 ≤ 2 * (r.width + range) → (j : ℕ)
      → j < 16 → FitNarrowed rows x y j
  FitNarrowed-condition p x y ring condition short j within above i l cross crosses g divisor a n =
      let k : ℕ = r.states in
      let gain : ℕ → ℤ = λ m. gain_at (entry rows m) x y in
      let (lead, positive, gains) = positive_is (gain j) above in
      let entries : (b : ℕ) → b < 16 → at cross b ≡ crossed lead (entry rows i b) (gain i) (entry rows j b) = λ b m.
      crosses.entries b m ∙ ap (λ (z : ℤ). (z *ℤ entry rows i b) -ℤ (gain i *ℤ entry rows j b)) gains in
      let nil : at cross a ≡ pos 0 → unsigned_abs (at cross a) ≤ g * 2 ^ 56 = λ e. subst (λ (z : ℤ). unsigned_abs z ≤ g * 2 ^ 56) (sym e) (omega arith) in
      let standing : i ≢ j → Stands k range rows counts i → unsigned_abs (at cross a) ≤ g * 2 ^ 56 = λ apart stands.
      let pivot = Stands-gains stage x y condition.short.after_word condition.short.before_word j within (λ none. absurd (omega (arith, ints, none, gains))) in
      let there : (m : ℕ) → m ≢ j → slice_index (set counts j (length p)) m ≡ slice_index counts m = λ m other. get_or-set_other counts j m (length p) 0 other in
      let s = noted_solution j (length p) (set rings j p) within pivot.free short i l (there i apart ∙ stands.none) in
      let z : ℕ → ℤ = s.weight in
      let zero_at : (m : ℕ) → m ≢ i → m ≢ j → slice_index counts m ≡ 0 → z m ≡ pos 0 = λ m other differs none. s.outside m other (there m differs ∙ none) in
      let past : (m : ℕ) → m < 16 → ¬ IsFree k range m → z m ≡ pos 0 = λ m l no.
      zero_at m (λ e. no (subst (IsFree k range) (sym e) stands.free)) (λ e. no (subst (IsFree k range) (sym e) pivot.free))
      (none-past (stage.places m l) no) in
      let keeps = NotedKeep-set stage z j (length p) p within ring.some pivot.none (λ m n count. (KeepsSumOf-gain range z r (ring_at (set counts j (length p)) (set rings j p) m)).1 (s.solves m n count)) in
      let spanned = IsSpanned-all stage z (λ a below. past a (omega arith) (λ free. let least = free.least in absurd (omega arith))) (λ a from l. past a l (λ free. let above = free.most in absurd (omega arith))) keeps.0 in
      let nothing = (condition.keeps z).0 (subst (KeepsSumOf range z r) (take_all (length p) p (omega arith)) keeps.1) in
      let beside : (a m : ℕ) → a < 16 → m < 16 → m ≢ i → spanned.parts m *ℤ crossed lead (entry rows m a) (gain m) (entry rows j a) ≡ pos 0 = λ a m n l other.
      ⊎_elim
      (λ (same : m ≡ j). rw same (factor-none (spanned.parts j) _ (crossed-pivot lead (entry rows j a) (gain j) gains)))
      (λ (differs : m ≢ j). part-none stage spanned m l _ (λ upright. zero_at m other differs upright.none)
      (λ zeros. crossed-none lead (entry rows m a) (gain m) (entry rows j a) (zeros a n) (gain_at-zero rows m x y condition.short.after_word condition.short.before_word zeros)))
      (cases_eq m j) in
      bounded_multiple (lead * spanned.times) z (spanned.parts i) cross g (2 ^ 56) s.place (mul-le-mul positive spanned.some)
      (λ a n.
      spanned_crosses lead j x y condition.short.after_word condition.short.before_word nothing spanned a n
      ∙ sum_to-one 16 (λ m. spanned.parts m *ℤ crossed lead (entry rows m a) (gain m) (entry rows j a)) i l (λ m l other. beside a m n l other)
      ∙ ap (λ (v : ℤ). spanned.parts i *ℤ v) (sym (entries a n)))
      s.small s.within s.some divisor a n in
      ⊎_elim
      (λ (same : i ≡ j). nil (entries a n ∙ ap (λ m. crossed lead (entry rows m a) (gain m) (entry rows j a)) same ∙ crossed-pivot lead (entry rows j a) _ gains))
      (λ (apart : i ≢ j). ⊎_elim
      (standing apart)
      (λ (zeros : IsZero rows i). nil (entries a n ∙ crossed-none lead _ (gain i) _ (zeros a n) (gain_at-zero rows i x y condition.short.after_word condition.short.before_word zeros)))
      (stands_or_zero (stage.places i l)))
      (cases_eq i j)
