-- What is said of the left side is said of the right side on the line that is read backwards.
use Rattle.std.proofs.Common.{◌≡◌, ℕ, length, ℤ, pos, ◌-ℤ◌, neg_ℤ, sym, ap, ◌∙◌, subst, arith, rules}
use Rattle.word_image.proofs.Common.{ints, LocalRule, IsRule, mirrored, IsLeftAhead, IsRule-mirrored, mirrored-mirrored}
use Rattle.tail_config.proofs.Common.{Config, IsConfig, TailConfig, IsTail, Different, ShareImage, AgreeLeft, AgreeRight, IsRightSplit, IsLeftClosing, AgreeFarRight, cell, mirror_of, image_of, IsLeftSplit, cell-below, cell-mirror, image_of-backwards, IsTail-mirror}
use Rattle.tail_laws.proofs.Closing.{agree_ahead}

-- the place that is mirrored to place i, where the middle has n letters
abbrev pub across : ℕ → ℤ → ℤ
across n i = pos n -ℤ pos 1 -ℤ i

-- equal cells are equal at the mirrored place
same_across : {k : ℕ} {x y : TailConfig} → IsTail k x → IsTail k y → length x.middle ≡ length y.middle → (i : ℤ)
    → cell x (across (length x.middle) i) ≡ cell y (across (length x.middle) i) → cell (mirror_of x) i ≡ cell (mirror_of y) i
same_across {k} {x} {y} hx hy long i e =
    cell-mirror hx i (across (length x.middle) i) (omega (arith, ints)) ∙ e ∙ sym (cell-mirror hy i (across (length x.middle) i) (omega (arith, ints)))

-- cells that are equal at the mirrored place are equal
across_same : {k : ℕ} {x y : TailConfig} → IsTail k x → IsTail k y → length x.middle ≡ length y.middle → (i : ℤ)
    → cell (mirror_of x) (across (length x.middle) i) ≡ cell (mirror_of y) (across (length x.middle) i) → cell x i ≡ cell y i
across_same {k} {x} {y} hx hy long i e =
    sym (cell-mirror hx (across (length x.middle) i) i (omega (arith, ints))) ∙ e ∙ cell-mirror hy (across (length x.middle) i) i (omega (arith, ints))

-- two different configurations differ read backwards
pub Different-mirror : {k : ℕ} {x y : TailConfig} → IsTail k x → IsTail k y → length x.middle ≡ length y.middle → Different x y
    → Different (mirror_of x) (mirror_of y)
Different-mirror {k} {x} {y} hx hy long (i, other) = (across (length x.middle) i, λ e. other (across_same hx hy long i e))

-- configurations that agree on the left agree on the right read backwards
pub AgreeRight-mirror : {k : ℕ} {x y : TailConfig} → IsTail k x → IsTail k y → length x.middle ≡ length y.middle → AgreeLeft x y
    → AgreeRight (mirror_of x) (mirror_of y)
AgreeRight-mirror {k} {x} {y} hx hy long (p, left) =
    (across (length x.middle) p, λ i l. same_across hx hy long i (left (across (length x.middle) i) (omega (arith, ints))))

-- two configurations that share an image share it read backwards, under the mirrored rule
pub ShareImage-mirror : {r : LocalRule} {x y : TailConfig} → IsRule r → IsTail r.states x → IsTail r.states y → length x.middle ≡ length y.middle
    → ShareImage r x y → ShareImage (mirrored r) (mirror_of x) (mirror_of y)
ShareImage-mirror {r} {x} {y} rule hx hy long share i =
    image_of-backwards rule (cell-below hx) (cell-mirror hx) i (across (length x.middle) i) (omega (arith, ints))
    ∙ share (across (length x.middle) i)
    ∙ sym (image_of-backwards rule (cell-below hy) (cell-mirror hy) i (across (length x.middle) i) (omega (arith, ints)))

-- configurations that share an image under the mirrored rule share it read backwards
pub ShareImage-from_mirrored : {r : LocalRule} {x y : TailConfig} → IsRule r → IsTail r.states x → IsTail r.states y
    → length x.middle ≡ length y.middle
    → ShareImage (mirrored r) x y → ShareImage r (mirror_of x) (mirror_of y)
ShareImage-from_mirrored {r} {x} {y} rule hx hy long share =
    subst (λ q. ShareImage q (mirror_of x) (mirror_of y)) (mirrored-mirrored rule) (ShareImage-mirror {r = mirrored r} (IsRule-mirrored rule) hx hy long share)

-- a right split of the mirrored rule is a left split read backwards
pub IsLeftSplit-mirror : {r : LocalRule} {x y : TailConfig} → IsRule r → length x.middle ≡ length y.middle → IsRightSplit (mirrored r) x y
    → IsLeftSplit r (mirror_of x) (mirror_of y)
IsLeftSplit-mirror rule long h =
    search (rules, IsTail-mirror, Different-mirror, ShareImage-from_mirrored, AgreeRight-mirror)

-- the configuration read backwards, round place 0
abbrev pub flip : Config → Config
flip x i = x (neg_ℤ i)

-- the mirrored rule takes a configuration read backwards to the image read backwards
pub flip-image_of : {r : LocalRule} {x : Config} → IsRule r → IsConfig r.states x → (i : ℤ)
    → image_of (mirrored r) (flip x) i ≡ image_of r x (neg_ℤ i)
flip-image_of {r} {x} rule h i = image_of-backwards {c = pos 1} {x = x} {y = flip x} rule h (λ j k e. let place : neg_ℤ j ≡ k = omega (arith, ints) in ap x place) i (neg_ℤ i) (omega (arith, ints))

-- two configurations with one image are equal if any two with one image under the mirrored rule are, read backwards
pub same_from_mirrored : {r : LocalRule} {x y : Config} → IsRule r → IsConfig r.states x → IsConfig r.states y
    → ((i : ℤ) → image_of r x i ≡ image_of r y i)
    → (((i : ℤ) → image_of (mirrored r) (flip x) i ≡ image_of (mirrored r) (flip y) i) → (i : ℤ) → flip x i ≡ flip y i) → (i : ℤ) → x i ≡ y i
same_from_mirrored {r} {x} {y} rule hx hy share same i =
    let back : neg_ℤ (neg_ℤ i) ≡ i = omega (arith, ints) in
    sym (ap x back) ∙ same (λ j. flip-image_of rule hx j ∙ share (neg_ℤ j) ∙ sym (flip-image_of rule hy j)) (neg_ℤ i) ∙ ap y back

-- under a left look-ahead configurations that share an image and are equal far on the right are equal everywhere
pub agree_left_ahead : {r : LocalRule} {x y : Config} {n : ℕ} → IsRule r → IsLeftAhead r n → IsConfig r.states x → IsConfig r.states y
    → ((i : ℤ) → image_of r x i ≡ image_of r y i) → AgreeFarRight x y → (i : ℤ) → x i ≡ y i
agree_left_ahead {r} {x} {y} rule ahead hx hy share (p, right) =
    same_from_mirrored rule hx hy share (λ shared.
    agree_ahead {r = mirrored r} {x = flip x} {y = flip y} (IsRule-mirrored rule) ahead (λ j. hx (neg_ℤ j)) (λ j. hy (neg_ℤ j)) shared (neg_ℤ p, λ j l. right (neg_ℤ j) (omega (arith, ints))))

-- a rule with a left look-ahead is left-closing
pub IsLeftClosing-ahead : {r : LocalRule} {n : ℕ} → IsRule r → IsLeftAhead r n → IsLeftClosing r
IsLeftClosing-ahead rule ahead x y hx hy = agree_left_ahead rule ahead (cell-below hx) (cell-below hy)
