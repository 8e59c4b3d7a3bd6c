-- The principle that of two tests one passes is needed: it follows if each configuration is an image under one surjective rule, which says of its letters only far away whether they are even or odd.
use Rattle.std.proofs.Common.{◌≡◌, ◌⊎◌, ℕ, zero, suc, ◌+◌, ◌%◌, ◌<◌, inl, inr, ⊎_elim, Bool, true, false, [], ◌∷◌, ℤ, pos, negsuc, ◌+ℤ◌, refl, sym, ap, ap₂, ◌∙◌, arith, true≢false}
use Rattle.word_image.proofs.Common.{cases_Bool, cases_eq, ints, LocalRule, IsRule, local_map, IsSurjective}
use Rattle.garden_laws.proofs.Examples.{IsPairList-tests}
use Rattle.garden_laws.proofs.ReachedPairs.{IsSurjective-pair_list}
use Rattle.tail_config.proofs.Common.{Config, IsConfig}
use Rattle.config_laws.specs.Maps.{IsOntoMap}
use Rattle.config_laws.specs.OneOfTwo.{Falls, OneOfTwo, AllOrNot}
use Rattle.config_laws.specs.Examples.{parities}

-- the example is a rule
IsRule-parities : IsRule parities
IsRule-parities = grind arith

-- what the rule gives on the letters a and b
abbrev gives : ℕ → ℕ → ℕ
gives a b = local_map parities (a ∷ b ∷ [])

-- what the letter that the rule gives says of the two letters of a window
abbrev Says : ℕ → ℕ → Type 0
Says a b = (gives a b ≡ 0 → a % 2 ≡ b % 2) × (gives a b ≡ 1 → a ≡ 2) × (gives a b ≡ 2 → a ≡ 3)

says : (a b : ℕ) → a < 4 → b < 4 → Says a b
says a b ha hb = grind arith

-- all pairs of different letters are a pair list of the rule
IsSurjective-parities : IsSurjective parities
IsSurjective-parities = IsSurjective-pair_list {pairs = 1 ∷ 2 ∷ 3 ∷ 4 ∷ 6 ∷ 7 ∷ 8 ∷ 9 ∷ 11 ∷ 12 ∷ 13 ∷ 14 ∷ []} IsRule-parities (IsPairList-tests refl refl refl refl)

-- 0 if both tests pass, and else which doesn't
abbrev mark : Bool → Bool → ℕ
mark true true = 0
mark true false = 2
mark false b = 1

mark-below : (a b : Bool) → mark a b < 4
mark-below true true = omega arith
mark-below true false = omega arith
mark-below false b = omega arith

-- the marks of two tests at each number, from place 0 on
abbrev marks : (ℕ → Bool) → (ℕ → Bool) → Config
marks p q (pos j) = mark (p j) (q j)
marks p q (negsuc j) = 0

IsConfig-marks : (p q : ℕ → Bool) → IsConfig 4 (marks p q)
IsConfig-marks p q (pos j) = mark-below (p j) (q j)
IsConfig-marks p q (negsuc j) = omega arith

-- numbers with one parity back to where it is known
parity-back : (s : ℕ → ℕ) (v n : ℕ) → ((j : ℕ) → (s j % 2 ≡ s (suc j) % 2) ⊎ (s j % 2 ≡ v)) → s n % 2 ≡ v → (d j : ℕ) → j + d ≡ n → s j % 2 ≡ v
parity-back s v n on known zero j e = let here : j ≡ n = omega arith in ap (λ i. s i % 2) here ∙ known
parity-back s v n on known (suc d) j e = ⊎_elim (λ same. same ∙ parity-back s v n on known d (suc j) (omega arith)) (λ at. at) (on j)

-- a test that falls passes at each number before one at which it passes
falls : (p : ℕ → Bool) → Falls p → (n e : ℕ) → p (n + e) ≡ true → p n ≡ true
falls p down n zero h = let all : n ≡ n + 0 = omega arith in ap p all ∙ h
falls p down n (suc e) h = let all : suc (n + e) ≡ n + suc e = omega arith in falls p down n e (down (n + e) (ap p all ∙ h))

-- if one test fails the other passes everywhere
passes_everywhere : (p q : ℕ → Bool) → Falls p → Falls q → ((n : ℕ) → (p n ≡ true) ⊎ (q n ≡ true)) → (n : ℕ) → q n ≡ false → (m : ℕ) → p m ≡ true
passes_everywhere p q down_p down_q either n fails m =
    ⊎_elim (falls p down_p m n) (λ h. let turn : n + m ≡ m + n = omega arith in absurd (true≢false (sym (falls q down_q n m (ap q turn ∙ h)) ∙ fails))) (either (m + n))

-- by the law of the excluded middle one of two tests passes at all numbers: if the first doesn't, then the second can't fail
pub OneOfTwo-excluded_middle : AllOrNot → OneOfTwo
OneOfTwo-excluded_middle decided p q down_p down_q either =
    ⊎_elim (λ all. inl all)
    (λ not_all. inr (λ n. ⊎_elim (λ h. h) (λ fails. absurd (not_all (passes_everywhere p q down_p down_q either n fails))) (cases_Bool (q n))))
    (decided p)

-- if each configuration is an image under each surjective rule, also under this one, then one of two tests passes at all numbers
pub OneOfTwo-needed : ((r : LocalRule) → IsRule r → IsSurjective r → IsOntoMap r) → OneOfTwo
OneOfTwo-needed onto p q down_p down_q either =
    let found = onto parities IsRule-parities IsSurjective-parities (marks p q) (IsConfig-marks p q) in
    let x : Config = found.0 in
    let s : ℕ → ℕ = λ j. x (pos j) in
    let tells : (j : ℕ) → gives (s j) (s (suc j)) ≡ mark (p j) (q j) = λ j.
    let here : pos j +ℤ pos 0 +ℤ pos 0 ≡ pos j = omega (arith, ints) in
    let next : pos j +ℤ pos 0 +ℤ pos 1 ≡ pos (suc j) = omega (arith, ints) in
    sym (ap₂ (λ (a b : ℤ). gives (x a) (x b)) here next) ∙ ap (λ (z : Config). z (pos j)) found.2 in
    let of : (j : ℕ) → Says (s j) (s (suc j)) = λ j. says (s j) (s (suc j)) (found.1 (pos j)) (found.1 (pos (suc j))) in
    let odd : (n : ℕ) → q n ≡ false → s 0 % 2 ≡ 1 = λ n fails.
    let all = passes_everywhere p q down_p down_q either n fails in
    let three : (j : ℕ) → q j ≡ false → s j % 2 ≡ 1 = λ j e. ap (λ a. a % 2) ((of j).2 (tells j ∙ ap₂ mark (all j) e)) in
    parity-back s 1 n (λ j. ⊎_elim (λ e. inl ((of j).0 (tells j ∙ ap₂ mark (all j) e))) (λ e. inr (three j e)) (cases_Bool (q j))) (three n fails) n 0 (omega arith) in
    let even : (n : ℕ) → p n ≡ false → s 0 % 2 ≡ 0 = λ n fails.
    let all = passes_everywhere q p down_q down_p (λ m. ⊎_elim (λ e. inr e) (λ e. inl e) (either m)) n fails in
    let two : (j : ℕ) → p j ≡ false → s j % 2 ≡ 0 = λ j e. ap (λ a. a % 2) ((of j).1 (tells j ∙ ap₂ mark e (all j))) in
    parity-back s 0 n (λ j. ⊎_elim (λ e. inl ((of j).0 (tells j ∙ ap₂ mark e (all j)))) (λ e. inr (two j e)) (cases_Bool (p j))) (two n fails) n 0 (omega arith) in
    ⊎_elim (λ e. inr (λ n. ⊎_elim (λ h. h) (λ h. absurd (omega (arith, e, odd n h))) (cases_Bool (q n))))
    (λ other. inl (λ n. ⊎_elim (λ h. h) (λ h. absurd (other (even n h))) (cases_Bool (p n))))
    (cases_eq (s 0 % 2) 0)
