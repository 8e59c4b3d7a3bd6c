-- Loops: a preimage of enough periods passes one node twice, and can go round between for ever.
use Rattle.std.proofs.Common.{◌≡◌, ℕ, zero, suc, ◌+◌, ◌-◌, ◌*◌, ◌<◌, ◌≤◌, ⊎_elim, List, length, ℤ, pos, ◌+ℤ◌, sym, ap, ◌∙◌, arith, ◌≤ℤ◌, add-mul}
use Rattle.word_image.proofs.Common.{cases_lt, ints, by_lt_z, mul-le, LocalRule, IsRule, IsWord, value, node_count, value-injective, value-node, twice_below}
use Rattle.tail_config.proofs.Common.{RepeatsRight, RepeatsRight-times, same_right-period, at_run, Config, IsConfig, run, image_of, length-run, IsWord-run, same-run, image_of-window}
use Rattle.config_laws.specs.Repeating.{RepeatsFarRight}
use Rattle.config_laws.proofs.Joined.{meeting, meeting-left, meeting-right, IsConfig-meeting}
use Rattle.config_laws.proofs.GoesOn.{GoesOn}
use Rattle.config_laws.specs.Periodic.{HasPeriod}
use Rattle.config_laws.proofs.Periods.{RepeatsRight-period, same_periodic, IsConfig-rounds, HasPeriod-image, rounds, HasPeriod-rounds, rounds-first}

-- p places from place i on, after which x has the same node under it, and over which its image is that of y, which repeats there
pub record IsLoop (r : LocalRule) (x y : Config) (i : ℤ) (p : ℕ) : Type 0 where
  pub some : 1 ≤ p
  pub node : (a : ℕ) → a < r.width - 1 → x (i +ℤ r.offset +ℤ pos (p + a)) ≡ x (i +ℤ r.offset +ℤ pos a)
  pub image : (a : ℕ) → a < p → image_of r x (i +ℤ pos a) ≡ y (i +ℤ pos a)
  pub again : RepeatsRight p y i

-- the letters of a loop, again and again, are those of the configuration on the loop and on m - 1 places more
pub rounds-loop : {r : LocalRule} {x y : Config} {i : ℤ} {p : ℕ} → IsLoop r x y i p
    → (n : ℕ) → n ≤ p + (r.width - 1) → (a : ℕ) → a < n → rounds x (i +ℤ r.offset) p (i +ℤ r.offset +ℤ pos a) ≡ x (i +ℤ r.offset +ℤ pos a)
rounds-loop h zero most a l = absurd (omega arith)
rounds-loop {r} {x} {i = i} {p = p} h (suc n) most a l =
    let s : ℤ = i +ℤ r.offset in
    ⊎_elim (rounds-first x s p a)
    (λ more.
    let all : p + (a - p) ≡ a = omega arith in
    ap (rounds x s p) (omega (arith, ints)) ∙ (HasPeriod-rounds x s h.some).again (s +ℤ pos (a - p)) ∙ rounds-loop h n (omega arith) (a - p) (omega arith)
    ∙ sym (h.node (a - p) (omega arith)) ∙ ap (λ b. x (s +ℤ pos b)) all)
    (cases_lt a p)

-- the letters of a loop, again and again, have the image y on the loop
image_of-turn : {r : LocalRule} {x y : Config} {i : ℤ} {p : ℕ} → IsLoop r x y i p → (a : ℕ) → a < p
    → image_of r (rounds x (i +ℤ r.offset) p) (i +ℤ pos a) ≡ y (i +ℤ pos a)
image_of-turn {r} {x} {y} {i} {p} h a l =
    let z : Config = rounds x (i +ℤ r.offset) p in
    image_of-window r z x (i +ℤ pos a) (i +ℤ pos a) (λ b g.
    let place : i +ℤ pos a +ℤ r.offset +ℤ pos b ≡ i +ℤ r.offset +ℤ pos (a + b) = omega (arith, ints) in
    ap z place ∙ rounds-loop h (p + (r.width - 1)) (omega arith) (a + b) (omega arith) ∙ sym (ap x place))
    ∙ h.image a l

-- the letters of a loop, again and again, have the image y, if y has the period of the loop
pub image_of-rounds : {r : LocalRule} {x y : Config} {i : ℤ} {p : ℕ} → IsLoop r x y i p → HasPeriod p y → image_of r (rounds x (i +ℤ r.offset) p) ≡ y
image_of-rounds {r} {x} {y} {i} {p} h hy = same_periodic (HasPeriod-image r (HasPeriod-rounds x (i +ℤ r.offset) h.some)) hy i (image_of-turn h)

-- what goes on from place i and repeats
pub record LoopsOn (r : LocalRule) (x y : Config) (i : ℤ) : Type 0 where
  pub goes : GoesOn r x y i
  pub repeats : RepeatsFarRight goes.z

-- round a loop x goes on so
pub loops_on : {r : LocalRule} {x y : Config} {i : ℤ} {p : ℕ} → IsConfig r.states x → IsLoop r x y i p → LoopsOn r x y i
loops_on {r} {x} {y} {i} {p} hx h =
    let s : ℤ = i +ℤ r.offset in
    let c : Config = rounds x s p in
    let turns : HasPeriod p c = HasPeriod-rounds x s h.some in
    record {
      goes = record {
        z = meeting x c s;
        config = IsConfig-meeting hx (IsConfig-rounds hx h.some s) s;
        before = λ j l. by_lt_z j s (meeting-left x c s j) (λ g. meeting-right x c s j g ∙ at_run c x s (p + (r.width - 1)) (rounds-loop h (p + (r.width - 1)) (omega arith)) j g (omega (arith, ints)));
        after = λ j l.
            image_of-window r (meeting x c s) c j j (λ a g. meeting-right x c s (j +ℤ r.offset +ℤ pos a) (omega (arith, ints)))
            ∙ same_right-period (image_of r c) y p i h.some (RepeatsRight-period (HasPeriod-image r turns) i) h.again (image_of-turn h) j l;
      };
      repeats = record {
        place = s;
        period = p;
        some = h.some;
        again = λ j l. meeting-right x c s (j +ℤ pos p) (omega (arith, ints)) ∙ turns.again j ∙ sym (meeting-right x c s j l);
      };
    }

-- a loop of at most as many periods of q letters as there are nodes, which begins at most so many periods after place i
pub record SomeLoop (r : LocalRule) (x y : Config) (i : ℤ) (q : ℕ) : Type 0 where
  pub place : ℤ
  pub turns : ℕ
  pub later : i ≤ℤ place
  pub within : place ≤ℤ (i +ℤ pos (node_count r * q))
  pub some : 1 ≤ turns
  pub few : turns ≤ node_count r
  pub loop : IsLoop r x y place (turns * q)

-- if y repeats from place i on, and the image of x agrees with it for as many periods as there are nodes, there is a loop
pub some_loop : {r : LocalRule} {x y : Config} → IsRule r → IsConfig r.states x → (i : ℤ) (q : ℕ) → 1 ≤ q → RepeatsRight q y i
    → ((a : ℕ) → a < node_count r * q → image_of r x (i +ℤ pos a) ≡ y (i +ℤ pos a)) → SomeLoop r x y i q
some_loop {r} {x} {y} rule hx i q some again agree =
    let d : ℕ = r.width - 1 in
    let s : ℤ = i +ℤ r.offset in
    let node : ℕ → List ℕ = λ j. run x (s +ℤ pos (j * q)) d in
    let word : (j : ℕ) → IsWord r.states (node j) = λ j. IsWord-run hx (s +ℤ pos (j * q)) d in
    let long : (j : ℕ) → length (node j) ≡ d = λ j. length-run x (s +ℤ pos (j * q)) d in
    let found = twice_below (node_count r) (λ j. value r.states (node j)) (λ j l. value-node r (node j) (word j) (long j)) in
    let j : ℕ = found.0 in
    let e : ℕ = found.1 - found.0 in
    let p : ℕ = e * q in
    let more : found.1 ≡ j + e = omega arith in
    let turns : found.1 * q ≡ j * q + p = ap (λ a. a * q) more ∙ add-mul j e q in
    let most : found.1 * q ≤ node_count r * q = mul-le found.1 q (node_count r) q found.3 (omega arith) in
    let least : 1 * 1 ≤ p = mul-le 1 1 e q (omega arith) some in
    let same : node j ≡ node found.1 = grind (arith, value-injective) in
    let place : ℤ = i +ℤ pos (j * q) in
    record {
      place = place;
      turns = e;
      later = omega (arith, ints);
      within = omega (arith, ints);
      some = omega arith;
      few = omega arith;
      loop = record {
        some = omega arith;
        node = λ a l.
            let new : place +ℤ r.offset +ℤ pos (p + a) ≡ s +ℤ pos (found.1 * q) +ℤ pos a = omega (arith, ints) in
            ap x new ∙ sym (same-run x x (s +ℤ pos (j * q)) (s +ℤ pos (found.1 * q)) d same a l) ∙ ap x (omega (arith, ints));
        image = λ a l.
            let here : i +ℤ pos (j * q + a) ≡ place +ℤ pos a = omega (arith, ints) in
            sym (ap (image_of r x) here) ∙ agree (j * q + a) (omega arith) ∙ ap y here;
        again = λ b l. RepeatsRight-times e q y i again b (omega (arith, ints));
      };
    }
