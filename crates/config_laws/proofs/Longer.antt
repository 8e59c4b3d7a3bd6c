-- Under a right look-ahead what reads long words reads all longer ones: letters put in behind the first node change the image so that none is lost.
use Rattle.std.proofs.Common.{◌≡◌, ℕ, zero, suc, ◌+◌, ◌-◌, ◌<◌, ◌≤◌, ℤ, pos, ◌+ℤ◌, sym, ap, ◌∙◌, ⊎_elim, arith, ◌<ℤ◌, ◌≤ℤ◌, rules}
use Rattle.word_image.proofs.Common.{cases_lt, ints, by_lt_z, LocalRule, IsRule, IsRightAhead}
use Rattle.tail_config.proofs.Common.{Config, IsConfig, image_of, at_run, image_of-window}
use Rattle.tail_laws.proofs.Common.{agree_on}
use Rattle.config_laws.proofs.Joined.{joined, joined-left, joined-right}

-- b, and then what f says
abbrev first_then : ℕ → (ℕ → ℕ) → ℕ → ℕ
first_then b f zero = b
first_then b f (suc a) = f a

-- a configuration with the letter b put in at place e
abbrev pub inserted : Config → ℤ → ℕ → Config
inserted x e b = joined x e (first_then b (λ a. x (e +ℤ pos a)))

-- the letter stands at its place
inserted-here : (x : Config) (e : ℤ) (b : ℕ) → inserted x e b e ≡ b
inserted-here x e b = joined-right x e (first_then b (λ a. x (e +ℤ pos a))) e 0 (omega (arith, ints))

-- behind it stand the configuration's letters, one place further on
inserted-behind : (x : Config) (e : ℤ) (b : ℕ) (j : ℤ) → e ≤ℤ j → inserted x e b (j +ℤ pos 1) ≡ x j
inserted-behind x e b j l = search rules

-- a configuration with a letter put in is one over the same letters
pub IsConfig-inserted : {k : ℕ} {x : Config} → IsConfig k x → (e : ℤ) (b : ℕ) → b < k → IsConfig k (inserted x e b)
IsConfig-inserted hx e b hb = grind arith

-- the place behind the first node under place i
abbrev pub behind : LocalRule → ℤ → ℤ
behind r i = i +ℤ r.offset +ℤ pos (r.width - 1)

-- from the images with letters put in behind a node come the letters and the images without them
pub inserted-injective : {r : LocalRule} {n : ℕ} {x y : Config} → IsRule r → IsRightAhead r n → IsConfig r.states x → IsConfig r.states y
    → (i : ℤ) (l a b : ℕ) → r.width - 1 + n ≤ l + 1 → a < r.states → b < r.states
    → ((j : ℤ) → j <ℤ behind r i → x j ≡ y j)
    → ((c : ℕ) → c < suc l → image_of r (inserted x (behind r i) a) (i +ℤ pos c) ≡ image_of r (inserted y (behind r i) b) (i +ℤ pos c))
    → ((c : ℕ) → c < l → image_of r x (i +ℤ pos c) ≡ image_of r y (i +ℤ pos c)) × (a ≡ b)
inserted-injective {r} {n} {x} {y} rule ahead hx hy i l a b enough ha hb agree same =
    let e : ℤ = behind r i in
    let q : ℕ = l + 1 - n in
    let u : Config = inserted x e a in
    let v : Config = inserted y e b in
    let left : (j : ℤ) → j <ℤ e → u j ≡ v j = grind (arith, joined-left) in
    let share : (j : ℤ) → (j +ℤ r.offset +ℤ pos r.width) <ℤ (e +ℤ pos (suc q + n)) → image_of r u j ≡ image_of r v j = λ j h.
    by_lt_z j i (λ g. image_of-window r u v j j (λ c k. left (j +ℤ r.offset +ℤ pos c) (omega (arith, ints))))
    (λ g. at_run (image_of r u) (image_of r v) i (suc l) same j g (omega (arith, ints))) in
    let alike : (j : ℤ) → j <ℤ (e +ℤ pos (suc q)) → u j ≡ v j = agree_on rule ahead (IsConfig-inserted hx e a ha) (IsConfig-inserted hy e b hb) e left (suc q) share in
    let letters : (j : ℤ) → j <ℤ (e +ℤ pos q) → x j ≡ y j = λ j h.
    by_lt_z j e (agree j) (λ g. sym (inserted-behind x e a j g) ∙ alike (j +ℤ pos 1) (omega (arith, ints)) ∙ inserted-behind y e b j g) in
    let moved : (z : Config) (d c : ℕ) → q ≤ c → image_of r (inserted z e d) (i +ℤ pos (suc c)) ≡ image_of r z (i +ℤ pos c) = λ z d c g.
    image_of-window r (inserted z e d) z (i +ℤ pos (suc c)) (i +ℤ pos c) (λ t k.
    ap (inserted z e d) (omega (arith, ints)) ∙ inserted-behind z e d (i +ℤ pos c +ℤ r.offset +ℤ pos t) (omega (arith, ints))) in (
      λ c h. ⊎_elim (λ g. image_of-window r x y (i +ℤ pos c) (i +ℤ pos c) (λ t k. letters (i +ℤ pos c +ℤ r.offset +ℤ pos t) (omega (arith, ints))))
          (λ g. sym (moved x a c g) ∙ same (suc c) (omega arith) ∙ moved y b c g) (cases_lt c q),
      sym (inserted-here x e a) ∙ alike e (omega (arith, ints)) ∙ inserted-here y e b,
    )

-- a configuration over the rule's letters that is equal to x up to the first node under place i, and a letter
pub record IsPut (r : LocalRule) (i : ℤ) (x : Config) (s : Config × ℕ) : Type 0 where
  pub config : IsConfig r.states s.0
  pub letter : s.1 < r.states
  pub left : (j : ℤ) → j <ℤ behind r i → s.0 j ≡ x j
