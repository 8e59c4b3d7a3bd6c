-- Some periodic configuration has as many preimages as the degree says.
use Rattle.std.proofs.Common.{mul-le-mul_left, ◌≡◌, ◌≢◌, ℕ, zero, suc, ◌-◌, ◌*◌, ◌<◌, ◌≤◌, ◌⊎◌, inl, inr, List, [], ◌∷◌, ◌++◌, length, take, drop, ℤ, pos, ◌-ℤ◌, refl, sym, ap, ◌∙◌, ⊎_elim, arith, length-append, take_at, drop_at}
use Rattle.std.proofs.lemmas.List.Elements.{All-nil, All-cons}
use Rattle.word_image.proofs.Common.{ints, cases_lt, cases_eq, All-append, LocalRule, IsRule, IsWord, IsSurjective, value-injective, node_count, some_letter}
use Rattle.tail_config.proofs.Common.{Config, IsConfig, zeros, run, image_of, length-run, IsWord-run, run-append, run-same}
use Rattle.config_laws.specs.Repeating.{HasTails}
use Rattle.config_laws.specs.Periodic.{HasPeriod, IsPeriodic}
use Rattle.config_laws.proofs.Joined.{written, IsConfig-written, run-written}
use Rattle.config_laws.proofs.Periods.{RepeatsLeft-period, rounds, IsConfig-rounds, HasPeriod-rounds, rounds-first}
use Rattle.preimage_laws.specs.PreimageCounts.{ArePreimages}
use Rattle.preimage_laws.proofs.Counts.{Differ-run}
use Rattle.preimage_laws.proofs.Constant.{IsSeparated-period}
use Rattle.preimage_laws.proofs.Followed.{node_under}
use Rattle.welch_index.specs.Degrees.{IsDegree, HasSeparated}
use Rattle.welch_index.proofs.Totals.{total-le}
use Rattle.welch_index.proofs.Cuts.{reads, ends, cut}
use Rattle.welch_index.proofs.Bounds.{reads-append}
use Rattle.welch_index.proofs.Products.{cut_nodes, count_cut, cut_set}
use Rattle.welch_index.proofs.Open.{total-named, node_at, node_at-below, at_cut}
use Rattle.welch_index.proofs.Tails.{HasSeparated-tails}

-- a number is among the first n of a list, or not
found_or_not : (f : ℕ → ℕ) (t n : ℕ) → ((a : ℕ) × (a < n) × (f a ≡ t)) ⊎ ((a : ℕ) → a < n → f a ≢ t)
found_or_not f t zero = inr (λ a l. absurd (omega (arith, l)))
found_or_not f t (suc n) =
    ⊎_elim
    (λ (a, l, same). inl (a, omega (arith, l), same))
    (λ none. ⊎_elim (λ same. inl (n, omega arith, same)) (λ other. inr (λ a l. ⊎_elim (λ last same. other (ap f (sym last) ∙ same)) (λ before. none a (omega (arith, l, before))) (cases_eq a n))) (cases_eq (f n) t))
    (found_or_not f t n)

-- a periodic configuration has periodic tails
HasTails-period : {p : ℕ} {y : Config} → HasPeriod p y → HasTails y
HasTails-period {p} h = (
  record { place = pos 0; period = p; some = h.some; again = λ i l. RepeatsLeft-period h (pos 1) i (omega (arith, ints)) },
  record { place = pos 0; period = p; some = h.some; again = λ i l. h.again i },
)

-- a number, followed by others
abbrev with_first : ℕ → (ℕ → ℕ) → ℕ → ℕ
with_first t f zero = t
with_first t f (suc a) = f a

-- what holds of the first number and of the others holds of all
with_first-holds : (P : ℕ → Type 0) (t : ℕ) (f : ℕ → ℕ) (d : ℕ) → P t → ((a : ℕ) → a < d → P (f a)) → (a : ℕ) → a < suc d → P (with_first t f a)
with_first-holds P t f d first others zero l = first
with_first-holds P t f d first others (suc a) l = others a (omega (arith, l))

-- if the others differ, and none is the first, all differ
with_first-differ : (t : ℕ) (f : ℕ → ℕ) (d : ℕ) → ((a b : ℕ) → a < d → b < d → f a ≡ f b → a ≡ b) → ((a : ℕ) → a < d → f a ≢ t) → (a b : ℕ) → a < suc d → b < suc d
    → with_first t f a ≡ with_first t f b → a ≡ b
with_first-differ t f d apart none zero zero la lb same = refl
with_first-differ t f d apart none zero (suc b) la lb same = absurd (none b (omega (arith, lb)) (sym same))
with_first-differ t f d apart none (suc a) zero la lb same = absurd (none a (omega (arith, la)) same)
with_first-differ t f d apart none (suc a) (suc b) la lb same = ap suc (apart a b (omega (arith, la)) (omega (arith, lb)) same)

-- preimages with different nodes are all preimages, if they are as many as the nodes at a cut, and preimages with the same node are equal
ArePreimages-cut : {r : LocalRule} {y : Config} {p d : ℕ} {u v : List ℕ} → IsRule r → IsSurjective r → HasPeriod p y → cut r u v ≡ d
    → run y (pos 0 -ℤ pos (length u)) (length u) ≡ u → run y (pos 0) (length v) ≡ v → (has : HasSeparated r y (pos 0) d) → ArePreimages r y d has.at
ArePreimages-cut {r} {y} {p} {d} {u} {v} rule onto again size before behind has =
    let k = r.states in
    let n = node_count r in
    let f : ℕ → ℕ = λ t. ends r u t * reads r v t in
    let name : ℕ → ℕ = λ a. node_at r (has.at a) in
    let inside : (x : Config) → IsConfig k x → image_of r x ≡ y → (node_at r x < n) × (0 < f (node_at r x)) = λ x hx mx.
    let below = node_at-below r {x = x} hx in
    (below, (cut_nodes rule u v (node_at r x) below).1 (at_cut rule hx mx before behind)) in
    let under : (x z : Config) → IsConfig k x → IsConfig k z → node_at r x ≡ node_at r z → node_under r x (pos 0) ≡ node_under r z (pos 0) = λ x z hx hz same.
    value-injective k _ _ (IsWord-run hx _ (r.width - 1)) (IsWord-run hz _ (r.width - 1)) (length-run x _ (r.width - 1) ∙ sym (length-run z _ (r.width - 1))) same in
    let apart : (a b : ℕ) → a < d → b < d → name a ≡ name b → a ≡ b = λ a b la lb same.
    let equal = under (has.at a) (has.at b) (has.configs a la) (has.configs b lb) same in
    ⊎_elim (λ less. absurd (has.apart a b less lb equal)) (λ le. ⊎_elim (λ less. absurd (has.apart b a less la (sym equal))) (λ ge. omega (arith, le, ge)) (cases_lt b a)) (cases_lt a b) in
    record {
      configs = has.configs;
      maps = has.maps;
      differ = λ a b less most. Differ-run (has.at a) (has.at b) _ (r.width - 1) (has.apart a b less most);
      all = λ x hx mx. ⊎_elim
          (λ (a, l, same). (a, l, IsSeparated-period rule onto again (pos 0) (has.at a) x (has.configs a l) hx (has.maps a l) mx (under (has.at a) x (has.configs a l) hx same)))
          (λ none.
          let many = total-named f (with_first (node_at r x) name) (suc d) n
          (with_first-holds (λ t. (t < n) × (0 < f t)) (node_at r x) name d (inside x hx mx) (λ a l. inside (has.at a) (has.configs a l) (has.maps a l)))
          (with_first-differ (node_at r x) name d apart none) in
          absurd (omega (arith, many, size)))
          (found_or_not name (node_at r x) d);
    }

-- some periodic configuration has as many preimages as the degree says
pub exact_configuration : {r : LocalRule} {d : ℕ} → IsRule r → IsSurjective r → IsDegree r d
    → (y : Config) × (xs : ℕ → Config) × IsConfig r.states y × IsPeriodic y × ArePreimages r y d xs
exact_configuration {r} {d} rule onto degree =
    let k = r.states in
    let u = degree.before in
    let v : List ℕ = degree.after ++ 0 ∷ [] in
    let hu : IsWord k u = degree.attained.before in
    let hv : IsWord k v = All-append (λ a. a < k) degree.after (0 ∷ []) degree.attained.after (All-cons (λ a. a < k) 0 [] (some_letter rule) (All-nil (λ a. a < k))) in
    let fewer = total-le (λ t. ends r u t * reads r v t) (λ t. ends r u t * reads r degree.after t) (node_count r) (λ t l. mul-le-mul_left (ends r u t) (reads-append rule degree.after (0 ∷ []) t l)) in
    let least = degree.least u v (cut r u v) (cut_set rule u v hu hv) in
    let size : cut r u v ≡ d = omega (arith, fewer, least, count_cut rule degree.attained) in
    let w = u ++ v in
    let p = length w in
    let some : 1 ≤ p = omega (arith, length-append u v, length-append degree.after (0 ∷ [])) in
    let s : ℤ = pos 0 -ℤ pos (length u) in
    let base : Config = written zeros s w in
    let y : Config = rounds base s p in
    let again = HasPeriod-rounds base s some in
    let hy : IsConfig k y = IsConfig-rounds (IsConfig-written {x = zeros} (some_letter rule) (λ i. some_letter rule) s w (All-append (λ a. a < k) u v hu hv)) some s in
    let whole : run y s p ≡ w = run-same y base s s p (λ a l. rounds-first base s p a l) ∙ run-written zeros s w in
    let parts : run y s (length u) ++ run y (pos 0) (length v) ≡ u ++ v = sym (run-append y s (pos 0) (length u) (length v) (omega (arith, ints))) ∙ ap (run y s) (sym (length-append u v)) ∙ whole in
    let before : run y s (length u) ≡ u = sym (take_at (run y s (length u)) (run y (pos 0) (length v)) (length u) (length-run y s (length u))) ∙ ap (take (length u)) parts ∙ take_at u v (length u) refl in
    let behind : run y (pos 0) (length v) ≡ v = sym (drop_at (run y s (length u)) (run y (pos 0) (length v)) (length u) (length-run y s (length u))) ∙ ap (drop (length u)) parts ∙ drop_at u v (length u) refl in
    let has = HasSeparated-tails rule degree hy (HasTails-period again) (pos 0) in
    (y, has.at, hy, (p, again), ArePreimages-cut rule onto again size before behind has)
