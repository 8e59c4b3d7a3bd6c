-- The degree and the multipliers of a surjective rule as quotients.
use Rattle.std.proofs.Common.{◌≡◌, ◌≢◌, ℕ, zero, suc, ◌+◌, ◌*◌, ◌/◌, ◌<◌, ◌≤◌, List, [], reverse, count_ones, refl, sym, ap, ◌∙◌, subst, ⊎_elim, arith, mul_comm, le_of_mul-le-mul_right}
use Rattle.word_image.proofs.Common.{cases_lt, cases_eq, mul-div_cancel_left, reverse-reverse, full_set, IsLastSet-full, LocalRule, IsRule, IsSurjective, node_count, node_count_pos, mirrored, IsRule-mirrored}
use Rattle.search_laws.proofs.Common.{word_number, word_cmp-not_greater}
use Rattle.garden_laws.proofs.Preinjective.{IsSurjective-right_closing}
use Rattle.preimage_laws.specs.PreimageCounts.{IsToOne}
use Rattle.preimage_laws.proofs.Constant.{IsOpen-constant_to_one}
use Rattle.welch_index.specs.Fewest.{HasLastNodes, IsFewestLast, IsFewestFirst}
use Rattle.welch_index.specs.Degrees.{IsDegree, IsMultiplier, AreDegreeAndMultipliers}
use Rattle.welch_index.proofs.Products.{IsSurjective-fewest, IsDegree-unique}
use Rattle.welch_index.proofs.Firsts.{IsFewestLast-first}
use Rattle.welch_index.proofs.Multipliers.{multipliers-fewest}
use Rattle.welch_index.proofs.Open.{IsDegree-open}

-- a factor is the quotient by the other factor
factor : (a b n : ℕ) → 0 < n → a * b ≡ n → (0 < b) × (n / b ≡ a)
factor a b n some product =
    let more : 0 < b = ⊎_elim (λ more. more) (λ none. let zeroth : b ≡ 0 = omega (arith, none) in absurd (omega (arith, some, product, ap (λ z. a * z) zeroth))) (cases_lt 0 b) in
    (more, ap (λ z. z / b) (sym product ∙ mul_comm a b) ∙ mul-div_cancel_left a more)

-- if the fewest last nodes aren't 0, the degree and the multipliers are these quotients, and nothing is divided by 0
pub record AreQuotients (r : LocalRule) (f b : ℕ) : Type 0 where
  pub onto : IsSurjective r
  pub some_first : 0 < b
  pub some_right : 0 < node_count r / b
  pub are : AreDegreeAndMultipliers r (f / (node_count r / b)) (node_count r / b) (node_count r / f)

pub AreQuotients-fewest : {r : LocalRule} {f b nodes others : ℕ} {u v : List ℕ} → IsRule r → f ≢ 0 → IsFewestLast r f nodes u → IsFewestFirst r b others v → AreQuotients r f b
AreQuotients-fewest {r} {f} {b} {nodes} {others} {u} {v} rule some lasts firsts =
    let m = node_count r in
    let onto = IsSurjective-fewest rule lasts some in
    let (l, d, n, left, degree, right, of_f, of_b, product) = multipliers-fewest u v rule onto lasts (IsFewestLast-first rule firsts).1 in
    let (some_f, is_l) = factor l f m (node_count_pos rule) of_f in
    let (some_b, is_n) = factor n b m (node_count_pos rule) of_b in
    let (some_n, is_ld) = factor (l * d) n m (node_count_pos rule) product in
    let (some_dn, is_l') = factor l (d * n) m (node_count_pos rule) (grind (arith, product)) in
    let some_l : 0 < l = ⊎_elim (λ more. more) (λ none. let zeroth : l ≡ 0 = omega (arith, none) in absurd (omega (arith, node_count_pos rule, of_f, ap (λ z. z * f) zeroth))) (cases_lt 0 l) in
    let same : l * f ≡ l * (d * n) = of_f ∙ sym product ∙ grind arith in
    let le = le_of_mul-le-mul_right {m = f} {n = d * n} {k = l} (omega (arith, same, mul_comm l f, mul_comm l (d * n))) some_l in
    let ge = le_of_mul-le-mul_right {m = d * n} {n = f} {k = l} (omega (arith, same, mul_comm l f, mul_comm l (d * n))) some_l in
    let (_, is_d) = factor d n f (omega (arith, some_f)) (omega (arith, le, ge)) in
    record {
      onto = onto;
      some_first = some_b;
      some_right = omega (arith, some_n, is_n);
      are = record {
        degree = subst (IsDegree r) (sym (ap (λ z. f / z) is_n ∙ is_d)) degree;
        right = subst (IsMultiplier r) (sym is_n) right;
        left = subst (IsMultiplier (mirrored r)) (sym is_l) left;
      };
    }

-- a property of numbers that has no least number has no number
no_least : (P : ℕ → Type 0) → ((n : ℕ) → P n → ¬ ((m : ℕ) → P m → n ≤ m)) → (b n : ℕ) → n < b → ¬ P n
no_least P none zero n l h = omega (arith, l)
no_least P none (suc b) n l h = none n h (λ m other. ⊎_elim (λ less. absurd (no_least P none b m (omega (arith, l, less)) other)) (λ le. le) (cases_lt m n))

-- some word has the fewest last nodes
pub not_without_fewest : {r : LocalRule} → IsRule r → ((n nodes : ℕ) (w : List ℕ) → ¬ IsFewestLast r n nodes w) → ⊥
not_without_fewest {r} rule none =
    let k = r.states in
    let Has : ℕ → Type 0 = λ n. (w : List ℕ) × HasLastNodes r w n in
    let start : HasLastNodes r [] (count_ones (full_set r)) = record { nodes = full_set r; last = IsLastSet-full r; count = refl } in
    no_least Has (λ n (w, has) fewest.
    let Numbered : ℕ → Type 0 = λ j. (v : List ℕ) × HasLastNodes r v n × (word_number k v ≡ j) in
    no_least Numbered (λ j (v, mine, is) least.
    none n mine.nodes v (record {
      last = mine.last;
      count = mine.count;
      fewest = λ u c other. fewest c (u, other);
      least = λ u other. word_cmp-not_greater k v u mine.last.word other.last.word (let le = least (word_number k u) (u, other, refl) in omega (arith, is, le));
    })) (word_number k w + 1) (word_number k w) (omega arith) (w, has, refl)) (count_ones (full_set r) + 1) (count_ones (full_set r)) (omega arith) ([], start)

-- the number of preimages of each configuration divides the number of nodes
pub IsToOne-divides : {r : LocalRule} {n : ℕ} → IsRule r → IsToOne r n → (c : ℕ) × (n * c ≡ node_count r)
IsToOne-divides {r} {n} rule to_one =
    let m = node_count r in
    let closing = (IsOpen-constant_to_one rule).1 (n, to_one) in
    let onto = IsSurjective-right_closing rule closing.0 in
    let degree = IsDegree-open rule closing to_one in (
      m / n,
      ⊎_elim (λ same. same) (λ other. absurd (
          not_without_fewest rule (λ f nodes u lasts.
          not_without_fewest (IsRule-mirrored rule) (λ b others v firsts.
          let (l, d, c, _, its, _, _, _, product) = multipliers-fewest u (reverse v) rule onto lasts (subst (IsFewestLast (mirrored r) b others) (sym (reverse-reverse v)) firsts) in
          let same = IsDegree-unique its degree in
          let times : (l * c) * n ≡ m = grind (arith, product, same) in
          let (some, is) = factor (l * c) n m (node_count_pos rule) times in
          other (ap (λ z. n * z) is ∙ mul_comm n (l * c) ∙ times)))))
          (cases_eq (n * (m / n)) m),
    )
