-- Where what is read around a place tells which nodes the preimages of a configuration have there.
use Rattle.std.proofs.Common.{◌≡◌, ◌⊎◌, ℕ, ◌+◌, ◌-◌, ◌*◌, inl, inr, ⊎_elim, List, ℤ, pos, ◌+ℤ◌, ◌-ℤ◌, unsigned_abs, sym, ap, ◌∙◌, arith, ◌<ℤ◌, ◌≤ℤ◌}
use Rattle.word_image.proofs.Common.{ints, LocalRule, IsRule, node_count, decide_both, some_letter}
use Rattle.tail_config.proofs.Common.{Config, IsConfig, IsOpen, run, image_of, run-same, same-run, at_run, image_of-window}
use Rattle.tail_laws.proofs.Common.{IsRightClosing-window, IsLeftClosing-window}
use Rattle.config_laws.specs.Repeating.{RepeatsFarLeft, HasTails}
use Rattle.config_laws.proofs.GoesOn.{enough}
use Rattle.config_laws.proofs.BothSides.{Between, between}
use Rattle.config_laws.proofs.Tails.{between_tails, repeats_from}
use Rattle.config_laws.proofs.Endless.{same_word, decide_config}

-- the node with which the window of place i begins
abbrev pub node_under : LocalRule → Config → ℤ → List ℕ
node_under r x i = run x (i +ℤ r.offset) (r.width - 1)

-- a preimage of y with this node under place i
abbrev pub Through : LocalRule → Config → ℤ → List ℕ → Type 0
Through r y i w = (z : Config) × IsConfig r.states z × (image_of r z ≡ y) × (node_under r z i ≡ w)

-- the letters are equal at the places from i - n to i + n
abbrev pub AgreeAround : ℤ → ℕ → Config → Config → Type 0
AgreeAround i n x y = (j : ℤ) → (i -ℤ pos n) ≤ℤ j → j ≤ℤ (i +ℤ pos n) → x j ≡ y j

-- if the image of x agrees with y around place i, y has a preimage with the node of x
abbrev pub IsFollowed : LocalRule → Config → ℤ → ℕ → Type 0
IsFollowed r y i n = (x : Config) → IsConfig r.states x → AgreeAround i n (image_of r x) y → Through r y i (node_under r x i)

-- a preimage that agrees with x around place i has the node of x
pub Through-between : {r : LocalRule} {x y : Config} {p q : ℤ} → Between r x y p q → (i : ℤ) → p <ℤ i → i ≤ℤ q → Through r y i (node_under r x i)
Through-between {r} {x} b i low high = (b.z, b.config, b.image, run-same b.z x _ _ (r.width - 1) (λ a l. b.inside _ (omega (arith, ints)) (omega (arith, ints))))

-- under a rule that is closing on both sides as many places are enough for all configurations
pub IsFollowed-open : {r : LocalRule} → IsRule r → IsOpen r → (n : ℕ) × ((y : Config) (i : ℤ) → IsConfig r.states y → IsFollowed r y i n)
IsFollowed-open {r} rule closing =
    let (k, right) = (IsRightClosing-window rule).0 closing.0 in
    let (l, left) = (IsLeftClosing-window rule).0 closing.1 in (
      enough r k + enough r l + 1,
      λ y i hy x hx agree. Through-between (between rule right left hx hy (i -ℤ pos 1) i (omega (arith, ints)) (λ j low high. agree j (omega (arith, ints)) (omega (arith, ints)))) i (omega (arith, ints)) (omega (arith, ints)),
    )

-- around each place of a configuration that repeats far out some places are enough
pub IsFollowed-tails : {r : LocalRule} {y : Config} → IsRule r → HasTails y → (i : ℤ) → (n : ℕ) × IsFollowed r y i n
IsFollowed-tails {r} {y} rule (first, last) i =
    let p : ℤ = i -ℤ pos (unsigned_abs (first.place -ℤ i) + 1) in
    let left : RepeatsFarLeft y = record { place = p; period = first.period; some = first.some; again = λ j l. first.again j (omega (arith, ints)) } in
    let (right, order) = repeats_from i last in
    let n : ℕ = unsigned_abs (p -ℤ i) + node_count r * first.period + unsigned_abs (right.place -ℤ i) + node_count r * right.period in (
      n,
      λ x hx agree. Through-between (between_tails rule hx left right (omega (arith, ints)) (λ j low high. agree j (omega (arith, ints)) (omega (arith, ints)))).0 i (omega (arith, ints)) order,
    )

-- if some places around i are enough, it can be decided whether there is a preimage with a node under place i
pub through_or_not : {r : LocalRule} {y : Config} → IsRule r → (i : ℤ) (n : ℕ) → IsFollowed r y i n → (w : List ℕ)
    → Through r y i w ⊎ ¬ Through r y i w
through_or_not {r} {y} rule i n followed w =
    let s : ℤ = i -ℤ pos n in
    let l : ℕ = n + n + 1 in
    ⊎_elim (λ (x, hx, (same, node)).
    let (z, hz, maps, is) = followed x hx (λ j low high. at_run (image_of r x) y s l (same-run (image_of r x) y s s l same) j low (omega (arith, ints))) in
    inl (z, hz, maps, is ∙ node))
    (λ none. inr (λ (z, hz, maps, node). none (z, hz, (ap (λ (c : Config). run c s l) maps, node))))
    (decide_config (some_letter rule) (unsigned_abs i + n + unsigned_abs r.offset + r.width) (λ z. (run (image_of r z) s l ≡ run y s l) × (node_under r z i ≡ w))
    (λ z. decide_both (same_word (run (image_of r z) s l) (run y s l)) (same_word (node_under r z i) w))
    (λ x z agree (same, node). (
      run-same (image_of r z) (image_of r x) s s l (λ a h. image_of-window r z x _ _ (λ b k. sym (agree (s +ℤ pos a +ℤ r.offset +ℤ pos b) (omega (arith, ints)) (omega (arith, ints))))) ∙ same,
      run-same z x _ _ (r.width - 1) (λ a h. sym (agree (i +ℤ r.offset +ℤ pos a) (omega (arith, ints)) (omega (arith, ints)))) ∙ node,
    )))
