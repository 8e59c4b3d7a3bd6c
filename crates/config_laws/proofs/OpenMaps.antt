-- A rule is open exactly if it is closing on both sides (Hedlund 1969).
use Rattle.std.proofs.Common.{◌≡◌, ℕ, zero, suc, ◌+◌, ◌<◌, ◌≤◌, ⊎_elim, length, get_or, ℤ, pos, ◌+ℤ◌, ◌-ℤ◌, neg_ℤ, unsigned_abs, refl, sym, ap, ◌∙◌, arith, ◌<ℤ◌, ◌≤ℤ◌, ◌↔◌}
use Rattle.std.proofs.Math.IntN.{neg_ℤ-neg_ℤ}
use Rattle.std.proofs.Math.Path.{fun_ext}
use Rattle.word_image.proofs.Common.{cases_eq, cases_lt, ints, by_lt_z, LocalRule, IsRule, node_count, mirrored, IsSurjective, some_letter, IsRule-mirrored}
use Rattle.tail_config.proofs.Common.{IsRightClosing, IsOpen, Config, IsConfig, AgreeWithin, AgreeFarLeft, run, image_of, zeros, image_of-window}
use Rattle.tail_laws.proofs.Common.{IsLeftClosing-mirrored}
use Rattle.config_laws.specs.Maps.{Differ, AreMany, IsNear, IsOpenMap, IsEvenlyOpenMap}
use Rattle.config_laws.proofs.Images.{IsConfig-image, image_of-moved}
use Rattle.config_laws.proofs.Joined.{meeting, meeting-left, meeting-right, IsConfig-meeting, image_of-behind, written, joined-left, IsConfig-written, run-written}
use Rattle.config_laws.proofs.Everywhere.{IsRightClosing-everywhere}
use Rattle.config_laws.proofs.Flips.{flip, flip-flip, image_of-flip}
use Rattle.config_laws.proofs.Dense.{preimage_inside}
use Rattle.config_laws.proofs.BothSides.{IsEvenlyOpenMap-closing}
use Rattle.config_laws.proofs.FewPreimages.{common, DifferWithin, differ_within, not_many}

-- an open rule is surjective: a word may stand behind the letters on which an image has to agree with that of zeros
IsSurjective-open : {r : LocalRule} → IsRule r → IsOpenMap r → IsSurjective r
IsSurjective-open {r} rule open_map w hw =
    let (N, near) = open_map zeros 0 (λ j. some_letter rule) in
    let e : ℤ = pos (N + 1) in
    let y : Config = written (image_of r zeros) e w in
    let (z, hz, agree, maps) = near y (IsConfig-written (some_letter rule) (IsConfig-image rule zeros) e w hw)
    (λ j low high. sym (joined-left (image_of r zeros) e (λ a. get_or w a 0) j (omega (arith, ints)))) in
    preimage_inside rule hz e w (ap (λ (c : Config). run c e (length w)) maps ∙ run-written (image_of r zeros) e w)

-- one configuration more has one image with n + 1 others, that differ from -k to k, if configurations that agree with these there have one image with two different ones that agree with the first there
AreMany-more : {r : LocalRule} {n k : ℕ} {xs : ℕ → Config} → ((j : ℕ) → j < suc n → (i : ℕ) → i < j → DifferWithin k (xs i) (xs j)) → (u v : Config)
    → IsConfig r.states u → IsConfig r.states v → Differ v u
    → AgreeWithin k (xs 0) u → AgreeWithin k (xs 0) v → image_of r v ≡ image_of r u
    → ((i : ℕ) → i < suc n → (z : Config) × IsConfig r.states z × AgreeWithin k (xs i) z × (image_of r z ≡ image_of r u))
    → (zs : ℕ → Config) × AreMany r (suc n) zs
AreMany-more {r} {n} {k} {xs} apart u v hu hv other near_u near_v same near = (zs, record { configs = configs; differ = differ; one_image = λ i. maps i ∙ sym (maps 0) })
  where
    next : (i : ℕ) → (z : Config) × IsConfig r.states z × (image_of r z ≡ image_of r u) × (i < suc n → AgreeWithin k (xs i) z)
    next zero = (u, hu, refl, λ l. near_u)
    next (suc i) = ⊎_elim (λ l. let (z, hz, agree, is) = near (suc i) l in (z, hz, is, λ h. agree)) (λ over. (u, hu, refl, λ h. absurd (omega arith))) (cases_lt (suc i) (suc n))

    zs : ℕ → Config
    zs zero = v
    zs (suc i) = (next i).0

    configs : (i : ℕ) → IsConfig r.states (zs i)
    configs zero = hv
    configs (suc i) = (next i).1

    maps : (i : ℕ) → image_of r (zs i) ≡ image_of r u
    maps zero = same
    maps (suc i) = (next i).2

    far : {a b x y : Config} → DifferWithin k a b → AgreeWithin k a x → AgreeWithin k b y → Differ x y
    far ((p, other), within) first second = (p, λ e. other (first p (omega (arith, ints)) (omega (arith, ints)) ∙ e ∙ sym (second p (omega (arith, ints)) (omega (arith, ints)))))

    differ : (i j : ℕ) → i < j → j ≤ suc n → Differ (zs i) (zs j)
    differ i zero less most = absurd (omega arith)
    differ zero (suc zero) less most = other
    differ zero (suc (suc j)) less most = far (apart (suc j) (omega arith) 0 (omega arith)) near_v ((next (suc j)).3 (omega arith))
    differ (suc i) (suc j) less most = far (apart j (omega arith) i (omega arith)) ((next i).3 (omega arith)) ((next j).3 (omega arith))

-- under an open rule, if two different configurations that agree far to the left have one image, as many configurations as are wanted have one image: far to the right of those that are found the letters of both may follow
many_open : {r : LocalRule} {x y : Config} → IsRule r → IsOpenMap r → IsConfig r.states x → IsConfig r.states y
    → image_of r x ≡ image_of r y → AgreeFarLeft x y → Differ y x → (n : ℕ) → (xs : ℕ → Config) × AreMany r n xs
many_open {x = x} rule open_map hx hy same left other zero = (λ i. x, record { configs = λ i. hx; differ = λ i j l h. absurd (omega arith); one_image = λ i. refl })
many_open {r} {x} {y} rule open_map hx hy same (p, left) (d, other) (suc n) =
    let (xs, many) = many_open rule open_map hx hy same (p, left) (d, other) n in
    let (k, apart) = differ_within many in
    let (N, near) = common (λ i N. IsNear r (xs i) k N) (suc n) (λ i l.
    let (N, near) = open_map (xs i) k (many.configs i) in (N, λ M more z hz agree. near z hz (λ j low high. agree j (omega (arith, ints)) (omega (arith, ints))))) in
    let c : Config = xs 0 in
    let e : ℤ = pos (k + N + unsigned_abs r.offset + r.width) in
    let t : ℤ = p -ℤ e -ℤ pos r.width in
    let a : Config = λ j. x (j +ℤ t) in
    let b : Config = λ j. y (j +ℤ t) in
    let hu : IsConfig r.states (meeting c a e) = IsConfig-meeting (many.configs 0) (λ j. hx (j +ℤ t)) e in
    let one : image_of r (meeting c a e) ≡ image_of r (meeting c b e) = image_of-behind r c a b e (λ j l. left (j +ℤ t) (omega (arith, ints)))
    (fun_ext (λ j. image_of-moved r x t j ∙ ap (λ (z : Config). z (j +ℤ t)) same ∙ sym (image_of-moved r y t j))) in
    let begins : (z : Config) (q : ℤ) → q <ℤ e → c q ≡ meeting c z e q = λ z q l. sym (meeting-left c z e q l) in
    let at : d -ℤ t +ℤ t ≡ d = omega (arith, ints) in
    let right : e ≤ℤ (d -ℤ t) = by_lt_z d p (λ l. absurd (other (sym (left d l)))) (λ l. omega (arith, ints)) in
    AreMany-more apart (meeting c a e) (meeting c b e) hu (IsConfig-meeting (many.configs 0) (λ j. hy (j +ℤ t)) e)
    (d -ℤ t, λ h. other (sym (meeting-right c b e (d -ℤ t) right ∙ ap y at) ∙ h ∙ meeting-right c a e (d -ℤ t) right ∙ ap x at))
    (λ q low high. begins a q (omega (arith, ints))) (λ q low high. begins b q (omega (arith, ints))) (sym one)
    (λ i l. near N (omega arith) i l (image_of r (meeting c a e)) (IsConfig-image rule (meeting c a e)) (λ j low high.
    ap (λ (z : Config). z j) (many.one_image i) ∙ image_of-window r c (meeting c a e) j j (λ g h. begins a (j +ℤ r.offset +ℤ pos g) (omega (arith, ints)))))

-- an open rule is right-closing
IsRightClosing-open : {r : LocalRule} → IsRule r → IsOpenMap r → IsRightClosing r
IsRightClosing-open {r} rule open_map = (IsRightClosing-everywhere rule).1 (λ x y hx hy same left. fun_ext (λ i. ⊎_elim (λ e. e) (λ other.
    let (xs, many) = many_open rule open_map hx hy same left (i, λ e. other (sym e)) (node_count r) in
    absurd (not_many rule (IsSurjective-open rule open_map) xs many)) (cases_eq (x i) (y i))))

-- the mirrored rule of an open rule is open
IsOpenMap-mirrored : {r : LocalRule} → IsRule r → IsOpenMap r → IsOpenMap (mirrored r)
IsOpenMap-mirrored {r} rule open_map x n hx =
    let near = open_map (flip x) n (λ i. hx (neg_ℤ i)) in
    let back : image_of (mirrored r) x ≡ flip (image_of r (flip x)) = ap (image_of (mirrored r)) (sym (flip-flip x)) ∙ image_of-flip rule (λ i. hx (neg_ℤ i)) in (
      near.0,
      λ y hy agree.
          let found = near.1 (flip y) (λ i. hy (neg_ℤ i)) (λ i low high.
          ap (image_of r (flip x)) (sym (neg_ℤ-neg_ℤ i)) ∙ sym (ap (λ (u : Config). u (neg_ℤ i)) back) ∙ agree (neg_ℤ i) (omega (arith, ints)) (omega (arith, ints))) in (
            flip found.0,
            (λ i. found.1 (neg_ℤ i)),
            (λ i low high. ap x (sym (neg_ℤ-neg_ℤ i)) ∙ found.2 (neg_ℤ i) (omega (arith, ints)) (omega (arith, ints))),
            image_of-flip rule found.1 ∙ ap flip found.3 ∙ flip-flip y,
          ),
    )

-- what is open evenly is open
IsOpenMap-evenly : (r : LocalRule) → IsEvenlyOpenMap r → IsOpenMap r
IsOpenMap-evenly r evenly x n hx = let near = evenly n in (near.0, near.1 x hx)

-- a rule is closing on both sides exactly if it is open
pub IsOpen-everywhere : {r : LocalRule} → IsRule r → IsOpen r ↔ IsOpenMap r
IsOpen-everywhere {r} rule = (
  λ closing. IsOpenMap-evenly r (IsEvenlyOpenMap-closing rule closing),
  λ open_map. (IsRightClosing-open rule open_map, (IsLeftClosing-mirrored rule).1 (IsRightClosing-open (IsRule-mirrored rule) (IsOpenMap-mirrored rule open_map))),
)

-- a rule is closing on both sides exactly if it is open evenly
pub IsOpen-evenly : {r : LocalRule} → IsRule r → IsOpen r ↔ IsEvenlyOpenMap r
IsOpen-evenly {r} rule = (IsEvenlyOpenMap-closing rule, λ evenly. (IsOpen-everywhere rule).1 (IsOpenMap-evenly r evenly))
