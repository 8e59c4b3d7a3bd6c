-- Under a right look-ahead a configuration whose image agrees with another one for long enough can be changed right of that, so that its image agrees with it for ever.
use Rattle.std.proofs.Common.{◌≡◌, ℕ, zero, suc, ◌+◌, ◌-◌, ◌^◌, ◌<◌, ◌≤◌, [], ◌∷◌, ◌++◌, List, length, ℤ, pos, ◌+ℤ◌, ◌-ℤ◌, unsigned_abs, refl, sym, ap, ap₂, ◌∙◌, subst, ⊎_elim, arith, ◌<ℤ◌, ◌≤ℤ◌}
use Rattle.word_image.proofs.Common.{cases_eq, ints, length_push, All-push, LocalRule, IsRule, IsWord, IsRightAhead, value, value-below, value-injective, twice_below}
use Rattle.tail_config.proofs.Common.{Config, IsConfig, run, image_of, length-run, IsWord-run, run-same, same-run, run-push, image_of-window}
use Rattle.config_laws.proofs.Images.{IsConfig-image}
use Rattle.config_laws.proofs.Joined.{joined-left}
use Rattle.config_laws.proofs.Dense.{Matches}
use Rattle.config_laws.proofs.Longer.{inserted, IsConfig-inserted, behind, inserted-injective, IsPut}

-- how many letters of the image are enough to go on
abbrev pub enough : LocalRule → ℕ → ℕ
enough r n = r.width - 2 + n

-- if the image of x has enough letters of y, some configuration that is equal up to the first node under them has one letter more: behind this node the next letter of y is put in, then again and again the letter that the image has next, until the first letters come back
next_match : {r : LocalRule} {n : ℕ} {x y : Config} → IsRule r → IsRightAhead r n → IsConfig r.states x → IsConfig r.states y → (i : ℤ)
    → ((a : ℕ) → a < enough r n → image_of r x (i +ℤ pos a) ≡ y (i +ℤ pos a))
    → (m : Matches r y i (enough r n + 1)) × ((j : ℤ) → j <ℤ behind r i → m.x j ≡ x j)
next_match {r} {n} {x} {y} rule ahead hx hy i agree =
    let (t, u, less, most, same) = twice_below (r.states ^ suc l) (λ t. value r.states (said t)) (λ t g.
    subst (λ j. value r.states (said t) < r.states ^ j) (long t) (value-below r.states (said t) (word t))) in
    let d : ℕ = u - t - 1 in
    let more : u ≡ t + suc d = omega (arith, less) in
    let comes = back t (suc d) (value-injective r.states _ _ (word t) (word u) (long t ∙ sym (long u)) same ∙ ap said more) in
    let z : Config = (put (suc d)).0 in
    let runs : run (image_of r z) i (l + 1) ≡ run y i (l + 1) =
    sym (comes ∙ said-next d) ∙ ap (λ (w : List ℕ). w ++ y (i +ℤ pos l) ∷ []) (run-same (image_of r x) y i i l agree) ∙ sym (run-push y i (i +ℤ pos l) l refl) in
    (record { x = z; config = (is (suc d)).config; equal = same-run (image_of r z) y i i (l + 1) runs }, (is (suc d)).left)
  where
    l : ℕ
    l = enough r n

    put : ℕ → Config × ℕ
    put zero = (x, y (i +ℤ pos l))
    put (suc t) = let z : Config = inserted (put t).0 (behind r i) (put t).1 in (z, image_of r z (i +ℤ pos l))

    is : (t : ℕ) → IsPut r i x (put t)
    is zero = record { config = hx; letter = hy (i +ℤ pos l); left = λ j h. refl }
    is (suc t) = record {
      config = IsConfig-inserted (is t).config (behind r i) (put t).1 (is t).letter;
      letter = IsConfig-image rule (put (suc t)).0 (i +ℤ pos l);
      left = λ j g. joined-left (put t).0 (behind r i) _ j g ∙ (is t).left j g;
    }

    said : ℕ → List ℕ
    said t = run (image_of r (put t).0) i l ++ (put t).1 ∷ []

    word : (t : ℕ) → IsWord r.states (said t)
    word t = All-push (λ a. a < r.states) (run (image_of r (put t).0) i l) (put t).1 (IsWord-run (IsConfig-image rule (put t).0) i l) (is t).letter

    long : (t : ℕ) → length (said t) ≡ suc l
    long t = omega (arith, length_push (run (image_of r (put t).0) i l) (put t).1, length-run (image_of r (put t).0) i l)

    said-next : (t : ℕ) → said (suc t) ≡ run (image_of r (put (suc t)).0) i (l + 1)
    said-next t = sym (run-push (image_of r (put (suc t)).0) i (i +ℤ pos l) l refl)

    before : (t u : ℕ) → said (suc t) ≡ said (suc u) → said t ≡ said u
    before t u same =
        let (images, letters) = inserted-injective rule ahead (is t).config (is u).config i l (put t).1 (put u).1 (omega (arith, rule.shape.least_width)) (is t).letter (is u).letter
        (λ j g. (is t).left j g ∙ sym ((is u).left j g))
        (λ c g. same-run (image_of r (put (suc t)).0) (image_of r (put (suc u)).0) i i (l + 1) (sym (said-next t) ∙ same ∙ said-next u) c (omega arith)) in
        ap₂ (λ (w : List ℕ) (c : ℕ). w ++ c ∷ []) (run-same (image_of r (put t).0) (image_of r (put u).0) i i l images) letters

    back : (t d : ℕ) → said t ≡ said (t + d) → said 0 ≡ said d
    back zero d same = let all : 0 + d ≡ d = omega arith in same ∙ ap said all
    back (suc t) d same = let on : suc t + d ≡ suc (t + d) = omega arith in back t d (before t (t + d) (same ∙ ap said on))

-- a sequence that doesn't change from place t on has the number of place t at each later place
pub steady : (f : ℕ → ℕ) (t : ℕ) → ((u : ℕ) → t ≤ u → f (suc u) ≡ f u) → (n : ℕ) → t ≤ n → f n ≡ f t
steady f t keeps zero l = let first : 0 ≡ t = omega arith in ap f first
steady f t keeps (suc n) l = ⊎_elim (λ e. ap f (sym e)) (λ other. keeps n (omega arith) ∙ steady f t keeps n (omega arith)) (cases_eq t (suc n))

-- a configuration that agrees with x before place i and m - 1 places more under it, and whose image agrees with y from place i on
pub record GoesOn (r : LocalRule) (x y : Config) (i : ℤ) : Type 0 where
  pub z : Config
  pub config : IsConfig r.states z
  pub before : (j : ℤ) → j <ℤ (i +ℤ r.offset +ℤ pos (r.width - 1)) → z j ≡ x j
  pub after : (j : ℤ) → i ≤ℤ j → image_of r z j ≡ y j

-- what goes on is there if the image of x agrees with y on enough places from i on: one place after another is matched, and the letters left of it stay
pub goes_on : {r : LocalRule} {n : ℕ} {x y : Config} → IsRule r → IsRightAhead r n → IsConfig r.states x → IsConfig r.states y → (i : ℤ)
    → ((a : ℕ) → a < enough r n → image_of r x (i +ℤ pos a) ≡ y (i +ℤ pos a)) → GoesOn r x y i
goes_on {r} {n} {x} {y} rule ahead hx hy i agree = record {
  z = limit;
  config = λ j. (at (turn j)).config j;
  before = λ j l. same (turn j) 0 j (omega (arith, ints, rule.shape.least_width)) (omega (arith, ints)) ∙ start.1 j (omega (arith, ints));
  after = λ j l.
      let a : ℕ = unsigned_abs (j -ℤ i) in
      let here : i +ℤ pos a +ℤ pos 0 ≡ j = omega (arith, ints) in
      image_of-window r limit (at a).x j j (λ c g. let k : ℤ = j +ℤ r.offset +ℤ pos c in same (turn k) a k (omega (arith, ints, rule.shape.least_width)) (omega (arith, ints)))
      ∙ sym (ap (image_of r (at a).x) here) ∙ (at a).equal 0 (omega arith) ∙ ap y here;
}
  where
    start : (m : Matches r y (i +ℤ pos 0) (enough r n + 1)) × ((j : ℤ) → j <ℤ behind r (i +ℤ pos 0) → m.x j ≡ x j)
    start = next_match rule ahead hx hy (i +ℤ pos 0) (λ a l.
        let place : i +ℤ pos 0 +ℤ pos a ≡ i +ℤ pos a = omega (arith, ints) in
        ap (image_of r x) place ∙ agree a l ∙ sym (ap y place))

    next : (t : ℕ) (m : Matches r y (i +ℤ pos t) (enough r n + 1))
        → (g : Matches r y (i +ℤ pos (suc t)) (enough r n + 1)) × ((j : ℤ) → j <ℤ behind r (i +ℤ pos (suc t)) → g.x j ≡ m.x j)
    next t m = next_match rule ahead m.config hy (i +ℤ pos (suc t)) (λ a l.
        let place : i +ℤ pos (suc t) +ℤ pos a ≡ i +ℤ pos t +ℤ pos (suc a) = omega (arith, ints) in
        ap (image_of r m.x) place ∙ m.equal (suc a) (omega arith) ∙ sym (ap y place))

    at : (t : ℕ) → Matches r y (i +ℤ pos t) (enough r n + 1)
    at zero = start.0
    at (suc t) = (next t (at t)).0

    turn : ℤ → ℕ
    turn j = unsigned_abs (j -ℤ (i +ℤ r.offset))

    limit : Config
    limit j = (at (turn j)).x j

    same : (t u : ℕ) (j : ℤ) → j <ℤ behind r (i +ℤ pos (suc t)) → j <ℤ behind r (i +ℤ pos (suc u)) → (at t).x j ≡ (at u).x j
    same t u j first second =
        sym (steady (λ v. (at v).x j) t (λ v l. (next v (at v)).1 j (omega (arith, ints))) (t + u) (omega arith))
        ∙ steady (λ v. (at v).x j) u (λ v l. (next v (at v)).1 j (omega (arith, ints))) (t + u) (omega arith)

-- before place i the image of the configuration that goes on is that of x
pub image_of-before : {r : LocalRule} {x y : Config} {i : ℤ} → (h : GoesOn r x y i) → (j : ℤ) → j <ℤ i → image_of r h.z j ≡ image_of r x j
image_of-before {r} {x} {y} {i} h j l = image_of-window r h.z x j j (λ a g. h.before (j +ℤ r.offset +ℤ pos a) (omega (arith, ints)))
