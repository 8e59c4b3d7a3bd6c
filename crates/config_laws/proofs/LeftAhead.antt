-- A left look-ahead tells the letter before m - 1 letters of any configuration.
use Rattle.std.proofs.Common.{◌≡◌, ℕ, ◌-◌, ℤ, pos, ◌+ℤ◌, ◌-ℤ◌, neg_ℤ, refl, sym, ap, ◌∙◌, arith}
use Rattle.word_image.proofs.Common.{ints, LocalRule, IsRule, mirrored, IsLeftAhead, IsRule-mirrored}
use Rattle.tail_config.proofs.Common.{Config, IsConfig, run, image_of, run-same, same-run}
use Rattle.tail_laws.proofs.Common.{ahead_letter}
use Rattle.config_laws.proofs.Flips.{flip, image_of-flip}

-- equal runs are equal runs when they are read backwards
run-flip : (x y : Config) (i j : ℤ) (n : ℕ) → i +ℤ j +ℤ pos n ≡ pos 1 → run x i n ≡ run y i n → run (flip x) j n ≡ run (flip y) j n
run-flip x y i j n across same = run-same (flip x) (flip y) j j n (λ a l.
    let b : ℕ = n - 1 - a in
    let place : neg_ℤ (j +ℤ pos a) ≡ i +ℤ pos b = omega (arith, ints) in
    ap x place ∙ same-run x y i i n same b (omega arith) ∙ ap y (sym place))

-- m - 1 letters and n letters of the image on the left of them tell the letter before
pub letter_before : {r : LocalRule} {n : ℕ} {x y : Config} → IsRule r → IsLeftAhead r n → IsConfig r.states x → IsConfig r.states y → (i : ℤ)
    → run x (i +ℤ r.offset +ℤ pos 1) (r.width - 1) ≡ run y (i +ℤ r.offset +ℤ pos 1) (r.width - 1)
    → run (image_of r x) (i +ℤ pos 1 -ℤ pos n) n ≡ run (image_of r y) (i +ℤ pos 1 -ℤ pos n) n → x (i +ℤ r.offset) ≡ y (i +ℤ r.offset)
letter_before {r} {n} {x} {y} rule ahead hx hy i node image =
    let d : ℕ = r.width - 1 in
    let q : LocalRule = mirrored r in
    let j : ℤ = neg_ℤ i in
    let first : run (flip x) (j +ℤ q.offset) d ≡ run (flip y) (j +ℤ q.offset) d = run-flip x y (i +ℤ r.offset +ℤ pos 1) (j +ℤ q.offset) d (omega (arith, ints, rule.shape.least_width)) node in
    let reads : run (image_of q (flip x)) j n ≡ run (image_of q (flip y)) j n =
    ap (λ (z : Config). run z j n) (image_of-flip rule hx) ∙ run-flip (image_of r x) (image_of r y) (i +ℤ pos 1 -ℤ pos n) j n (omega (arith, ints)) image ∙ sym (ap (λ (z : Config). run z j n) (image_of-flip rule hy)) in
    let letter = ahead_letter {r = q} {x = flip x} {y = flip y} (IsRule-mirrored rule) ahead (λ a. hx (neg_ℤ a)) (λ a. hy (neg_ℤ a)) j _ refl first reads in
    let place : neg_ℤ (j +ℤ q.offset +ℤ pos d) ≡ i +ℤ r.offset = omega (arith, ints, rule.shape.least_width) in
    sym (ap x place) ∙ letter ∙ ap y place
