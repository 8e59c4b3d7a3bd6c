-- The rows of an answer are independent apart from trivial weights, and so are the conditions of its rings.
use Rattle.std.proofs.Common.{◌≡◌, ◌≢◌, ℕ, zero, suc, ◌+◌, ◌-◌, ◌^◌, ◌<◌, ◌≤◌, List, [], min, take, set, slice_index, slice_index_or, get_or-set_other, get_or-set_same, ℤ, pos, ◌*ℤ◌, refl, sym, ap, subst, ◌∙◌, ⊎_elim, arith, ◌==◌, if◌then◌else◌, unsigned_abs}
use Rattle.word_image.proofs.Common.{pow-le-pow_right, cases_lt, cases_eq, nat_tests, ints, LocalRule, IsRule}
use Rattle.kept_sums.specs.Sums.{KeepsSumOf, sum_to}
use Rattle.kept_sums.specs.Spans.{entry, combination}
use Rattle.kept_sums.specs.Stages.{IsFree, IsNormal, ring_at, NotedKeep, IsStage}
use Rattle.kept_sums.specs.Trivials.{IsTrivial}
use Rattle.kept_sums.specs.Independence.{ring_gain, IsNeeded, places_with}
use Rattle.kept_sums.proofs.laws.Integers.{other_factor, zero-of_times, factor-none}
use Rattle.kept_sums.proofs.laws.Spans.{sum_to-one, sum_to-none}
use Rattle.kept_sums.proofs.laws.Densities.{KeepsSumOf-gain}
use Rattle.kept_sums.proofs.laws.Trivials.{IsNormal-trivial}
use Rattle.kept_sums.proofs.laws.Unique.{part-none, IsSpanned-all}
use Rattle.kept_sums.proofs.laws.Stages.{free_before, free_more, stands_or_zero, none-past, not_both}
use Rattle.kept_sums.proofs.laws.Bounds.{noted_solution}

-- how often a number counts
abbrev count : ℕ → ℕ
count a = if a == 0 then 0 else 1

-- a number counts once at most
count-least : (a : ℕ) → count a ≡ min a 1
count-least a = grind (arith, nat_tests)

-- places with a number of two kinds are as many as what grows with each place by as many
places_with-both : (n : ℕ) (f g t : ℕ → ℕ) → t 0 ≡ 0 → ((i : ℕ) → i < n → count (f i) + count (g i) + t i ≡ t (suc i))
    → places_with n f + places_with n g ≡ t n
unfolding places_with
places_with-both zero f g t none step = omega arith
places_with-both (suc n) f g t none step = omega (arith, places_with-both n f g t none (λ i l. step i (omega arith)), step n (omega arith))

module _ {r : LocalRule} {range : ℕ} {rows : List (List ℤ)} {counts : List ℕ} {rings : List (List ℕ)} (rule : IsRule r) (few : r.states ^ range ≤ 16) (stage : IsStage r range rows counts rings) where
  -- no combination of the rows is trivial but that of no row
  pub rows-independent : 1 ≤ range → (parts : ℕ → ℤ) → IsTrivial r.states range (combination parts rows) → (i : ℕ) → i < 16 → IsFree r.states range i
      → slice_index counts i ≡ 0 → parts i ≡ pos 0
  rows-independent some parts trivial i l free none =
      let states = rule.shape.least_states in
      let normal : IsNormal r.states range (combination parts rows) = λ a below. sum_to-none 16 (λ m. parts m *ℤ entry rows m a) (λ m l. factor-none (parts m) (entry rows m a)
      (⊎_elim (λ stands. let least = stands.free.least in stands.standing.begins a (omega arith)) (λ zeros. zeros a (omega arith)) (stands_or_zero (stage.places m l)))) in
      let nothing = IsNormal-trivial r.states range (combination parts rows) states some normal trivial i free.most in
      let stands = (stage.places i l).standing free none in
      let here : combination parts rows i ≡ parts i *ℤ entry rows i i = sum_to-one 16 (λ m. parts m *ℤ entry rows m i) i l (λ m h other. factor-none (parts m) (entry rows m i) (stands.alone m h other)) in
      other_factor (parts i) (entry rows i i) (not_both _ stands.leads) (sym here ∙ nothing)

  -- no ring can be spared
  pub ring-needed : (i : ℕ) → i < 16 → 1 ≤ slice_index counts i → IsNeeded r range counts rings i
  ring-needed i l some =
      let free = (stage.places i l).free some in
      let least = free.least in
      let most = free.most in
      let letters : 1 ≤ range = ⊎_elim (λ (none : range < 1). let e : range - 1 ≡ range = omega arith in absurd (omega (arith, least, most, ap (λ n. r.states ^ n) e))) (λ (more : 1 ≤ range). more) (cases_lt range 1) in
      let there : (m : ℕ) → m ≢ i → slice_index (set counts i 0) m ≡ slice_index counts m = λ m other. get_or-set_other counts i m 0 0 other in
      let s = noted_solution rule letters few stage i 0 rings l free (let wide = rule.shape.least_width in omega arith) i l (get_or-set_same counts i 0 0 (omega arith)) in
      let z : ℕ → ℤ = s.weight in
      let past : (a : ℕ) → a < 16 → ¬ IsFree r.states range a → z a ≡ pos 0 = λ a h no.
      let other : a ≢ i = λ e. no (subst (IsFree r.states range) (sym e) free) in
      s.outside a other (there a other ∙ none-past (stage.places a h) no) in
      let normal : IsNormal r.states range z = λ a below. past a (omega arith) (λ at_a. let from = at_a.least in absurd (omega arith)) in
      let others : (m : ℕ) → m < 16 → 1 ≤ slice_index counts m → m ≢ i → KeepsSumOf range z r (ring_at counts rings m) = λ m n noted other.
      subst (λ c. KeepsSumOf range z r (take c (slice_index_or rings m []))) (there m other) ((KeepsSumOf-gain range z r (ring_at (set counts i 0) rings m)).1 (s.solves m n (omega (arith, noted, there m other)))) in
      record {
        weight = z;
        normal = normal;
        others = others;
        changed = λ kept.
            let all : NotedKeep r range counts rings z = λ m n noted.
            ⊎_elim (λ (e : m ≡ i). subst (λ b. KeepsSumOf range z r (ring_at counts rings b)) (sym e) kept) (λ (other : m ≢ i). others m n noted other) (cases_eq m i) in
            let spanned = IsSpanned-all stage z normal (λ a from h. past a h (λ at_a. let below = at_a.most in absurd (omega arith))) all in
            let nothing : (m : ℕ) → m < 16 → spanned.parts m *ℤ entry rows m s.place ≡ pos 0 = λ m n.
            part-none stage spanned m n _
            (λ upright.
            let other : m ≢ i = λ e. absurd (omega (arith, some, upright.none, ap (slice_index counts) e)) in
            s.outside m other (there m other ∙ upright.none))
            (λ zeros. zeros s.place s.within) in
            s.some (zero-of_times spanned.times (z s.place) spanned.some (spanned.sums s.place s.within ∙ sum_to-none 16 (λ m. spanned.parts m *ℤ entry rows m s.place) nothing));
      }

  -- no combination of the conditions of the rings holds of all normal weights but that of no condition
  pub rings-independent : (parts : ℕ → ℤ)
      → ((weight : ℕ → ℤ) → IsNormal r.states range weight → sum_to 16 (λ i. parts i *ℤ ring_gain r range counts rings weight i) ≡ pos 0)
      → (i : ℕ) → i < 16 → 1 ≤ slice_index counts i → parts i ≡ pos 0
  rings-independent parts vanish i l some =
      let needed = ring-needed i l some in
      let gain : ℕ → ℤ = ring_gain r range counts rings needed.weight in
      let beside : (m : ℕ) → m < 16 → m ≢ i → parts m *ℤ gain m ≡ pos 0 = λ m n apart.
      factor-none (parts m) (gain m)
      ((KeepsSumOf-gain range needed.weight r (ring_at counts rings m)).0 (⊎_elim
      (λ (none : slice_index counts m < 1). let zero : slice_index counts m ≡ 0 = omega arith in rw zero refl)
      (λ (here : 1 ≤ slice_index counts m). needed.others m n here apart)
      (cases_lt (slice_index counts m) 1))) in
      let whole : sum_to 16 (λ m. parts m *ℤ gain m) ≡ parts i *ℤ gain i =
      sum_to-one 16 (λ m. parts m *ℤ gain m) i l beside in
      other_factor (parts i) (gain i) (λ none. needed.changed ((KeepsSumOf-gain range needed.weight r (ring_at counts rings i)).1 none)) (sym whole ∙ vanish needed.weight needed.normal)

  -- each free place has a row or a ring, and not both
  pub row_or_ring : places_with 16 (slice_index counts) + places_with 16 (λ i. unsigned_abs (entry rows i i)) ≡ r.states ^ range - r.states ^ (range - 1)
  row_or_ring =
      let k : ℕ = r.states in
      let grows : k ^ (range - 1) ≤ k ^ range = pow-le-pow_right (omega arith) {i = range - 1} {j = range} (omega arith) in
      let both = places_with-both 16 (slice_index counts) (λ i. unsigned_abs (entry rows i i)) (free_before k range) (omega arith) (λ i l.
      let place = stage.places i l in
      let first = slice_index counts i in
      let second = unsigned_abs (entry rows i i) in
      ⊎_elim
      (λ free. ⊎_elim
      (λ (none : first < 1). let leads = (place.standing free.0 (omega arith)).leads in omega (arith, ints, free.1, leads, count-least first, count-least second))
      (λ (some : 1 ≤ first). omega (arith, free.1, ap unsigned_abs (place.dropped some i l), count-least first, count-least second))
      (cases_lt first 1))
      (λ taken. omega (arith, taken.1, none-past place taken.0, ap unsigned_abs (place.past taken.0 i l), count-least first, count-least second))
      (free_more k range i)) in
      omega (arith, both, few, grows)
