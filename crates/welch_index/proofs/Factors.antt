-- The degree and the multipliers of a composition are the products of those of the two rules.
use Rattle.std.proofs.Common.{pow-add, mul-le-mul, mul-le-mul_left, mul_comm, ◌≡◌, ℕ, ◌-◌, ◌*◌, ◌^◌, ◌<◌, ◌≤◌, List, ◌++◌, length, reverse, refl, sym, ap, ap₂, ◌∙◌, subst, ⊎_elim, arith, le_of_mul-le-mul_right}
use Rattle.word_image.proofs.Common.{cases_lt, cases_eq, length-reverse, reverse-reverse, All-append, LocalRule, IsRule, IsWord, IsSurjective, IsPreimage, image, image-mirrored, IsWord-image, IsWord-reverse, node_count, node_count_pos, mirrored, IsRule-mirrored}
use Rattle.welch_index.specs.Fewest.{IsFewestLast, IsFewestFirst}
use Rattle.welch_index.specs.Degrees.{IsMultiplier, AreDegreeAndMultipliers}
use Rattle.welch_index.proofs.Pulls.{pull, pull-append, pull-same, pull-const, over-same, over-behind, over-pull, walks-const, over-full}
use Rattle.welch_index.proofs.Cuts.{spelled, spelled-all, cut}
use Rattle.welch_index.proofs.Links.{spelled-some}
use Rattle.welch_index.proofs.Mirrored.{IsPreimage-mirrored}
use Rattle.welch_index.proofs.Products.{count_cut, cut_set, IsDegree-unique}
use Rattle.welch_index.proofs.Firsts.{IsFewestLast-first}
use Rattle.welch_index.proofs.Multipliers.{count_ends, ends_set, multipliers-fewest}
use Rattle.welch_index.proofs.Quotients.{not_without_fewest}
use Rattle.welch_index.proofs.Composed.{IsAfter, IsPreimage-after, cut-after, walks-after}

-- a word that the most walks from a node spell is spelled by as many whatever follows it
stays : {r : LocalRule} → IsRule r → (c u : ℕ) (w : List ℕ) → u < node_count r → ((z : List ℕ) → IsWord r.states z → pull r z (λ q. 1) u ≤ c) → pull r w (λ q. 1) u ≡ c
    → ((z : List ℕ) → IsWord r.states z → IsWord r.states (w ++ z)) → (z : List ℕ) → IsWord r.states z → pull r (w ++ z) (λ q. 1) u ≡ c
stays {r} rule c u w l most full words z hz =
    let k = r.states in
    let n = length z in
    let all = over-same k n (λ y. pull r (w ++ y) (λ q. 1) u) (λ y. pull r w (pull r y (λ q. 1)) u) (λ y. pull-append r w y (λ q. 1) u)
    ∙ over-behind r n w (λ y. pull r y (λ q. 1)) u
    ∙ pull-same rule w _ (λ q. k ^ n * 1) (λ q h. over-pull rule n (λ t. 1) q h ∙ walks-const r n 1 q) u l
    ∙ pull-const rule w (k ^ n * 1) u l ∙ ap (λ y. k ^ n * 1 * y) full in
    let one : k ^ n * 1 * c ≡ k ^ n * c = grind arith in
    over-full k n c (λ y. pull r (w ++ y) (λ q. 1) u) (λ y hy ly. most (w ++ y) (words y hy)) (omega (arith, all, one)) z hz refl

-- each word is spelled by as many walks as there are nodes
every_word : {r : LocalRule} → IsRule r → IsSurjective r → (w : List ℕ) → IsWord r.states w → spelled r w ≡ node_count r
every_word rule onto = spelled-all rule (λ w word. let found = onto w word in spelled-some rule w found.0 found.1)

-- the mirrored rule is surjective
IsSurjective-mirror : {r : LocalRule} → IsRule r → IsSurjective r → IsSurjective (mirrored r)
IsSurjective-mirror {r} rule onto w hw =
    let (x, p) = onto (reverse w) (IsWord-reverse r.states w hw) in
    (reverse x, subst (λ z. IsPreimage (mirrored r) z (reverse x)) (reverse-reverse w) (IsPreimage-mirrored rule p))

-- a composition of surjective rules is surjective
IsSurjective-after : {f s g : LocalRule} → IsAfter f s g → IsSurjective f → IsSurjective s → IsSurjective g
IsSurjective-after {f} {s} {g} h onto_f onto_s w hw =
    let (y, py) = onto_s w (subst (λ k. IsWord k w) (h.states ∙ sym h.same) hw) in
    let (x, px) = onto_f y (subst (λ k. IsWord k y) h.same py.word) in
    (x, IsPreimage-after h py px)

-- the mirrored composition is the composition of the mirrored rules
IsAfter-mirrored : {f s g : LocalRule} → IsAfter f s g → IsAfter (mirrored f) (mirrored s) (mirrored g)
IsAfter-mirrored {f} {s} {g} h =
    record {
      one = IsRule-mirrored h.one;
      two = IsRule-mirrored h.two;
      all = IsRule-mirrored h.all;
      same = h.same;
      states = h.states;
      width = h.width;
      images = λ x hx long.
          let y = reverse x in
          let back : reverse y ≡ x = reverse-reverse x in
          let hy = IsWord-reverse f.states x hx in
          let middle = IsWord-image h.one y in
          ap (image (mirrored g)) (sym back) ∙ image-mirrored h.all y (subst (λ k. IsWord k y) (sym h.states) hy) ∙ ap reverse (h.images y hy (omega (arith, long, length-reverse x)))
          ∙ sym (image-mirrored h.two (image f y) (subst (λ k. IsWord k (image f y)) (sym h.same) middle)) ∙ ap (image (mirrored s)) (sym (image-mirrored h.one y hy) ∙ ap (image (mirrored f)) back);
    }

-- the right multiplier of a composition is at least the product of the right multipliers
right_after : {f s g : LocalRule} {n m p : ℕ} → IsAfter f s g → IsSurjective f → IsSurjective s → IsMultiplier f n → IsMultiplier s m → IsMultiplier g p → n * m ≤ p
right_after {f} {s} {g} {n} {m} {p} h onto_f onto_s first second whole =
    let every_f = every_word h.one onto_f in
    let every_s = every_word h.two onto_s in
    let every_g = every_word h.all (IsSurjective-after h onto_f onto_s) in
    let from = first.attained.from in
    let size_f = count_ends h.one every_f first.attained in
    let size_s = count_ends h.two every_s second.attained in
    let full = stays h.one n first.from first.word from (λ z hz. first.most first.from z (pull f z (λ q. 1) first.from) (ends_set h.one every_f first.from from z hz)) (sym size_f)
    (λ z hz. All-append (λ a. a < f.states) first.word z first.attained.word hz) in
    let (x, z, lx, hz, many) = walks-after h every_f every_s n first.from first.word from first.attained.word full second.from second.word second.attained.from second.attained.word in
    let most = whole.most x z (pull g z (λ q. 1) x) (ends_set h.all every_g x lx z hz) in
    omega (arith, many, most, ap (λ y. n * y) size_s)

-- a rule has one right multiplier
IsMultiplier-unique : {r : LocalRule} {n m : ℕ} → IsMultiplier r n → IsMultiplier r m → n ≡ m
IsMultiplier-unique {r} {n} {m} one two =
    let le = two.most one.from one.word n one.attained in
    let ge = one.most two.from two.word m two.attained in
    omega (arith, le, ge)

-- the product of the multipliers and the degree is the number of nodes
numbers_product : {r : LocalRule} {d n l : ℕ} → IsRule r → IsSurjective r → AreDegreeAndMultipliers r d n l → l * d * n ≡ node_count r
numbers_product {r} {d} {n} {l} rule onto are =
    ⊎_elim (λ same. same) (λ other. absurd (
    not_without_fewest rule (λ a nodes u lasts.
    not_without_fewest (IsRule-mirrored rule) (λ b others v firsts.
    let (k, c, m, left, degree, right, _, _, product) = multipliers-fewest u (reverse v) rule onto lasts (subst (IsFewestLast (mirrored r) b others) (sym (reverse-reverse v)) firsts) in
    other (ap₂ (λ (x y : ℕ). x * y) (ap₂ (λ (x y : ℕ). x * y) (IsMultiplier-unique are.left left) (IsDegree-unique are.degree degree)) (IsMultiplier-unique are.right right) ∙ product)))))
    (cases_eq (l * d * n) (node_count r))

-- the factors of a product above 0 are above 0
positive : (a b m : ℕ) → 0 < m → a * b ≡ m → (0 < a) × (0 < b)
positive a b m some product = (
  ⊎_elim (λ more. more) (λ none. let zeroth : a * b ≡ 0 * b = ap (λ y. y * b) (omega (arith, none)) in absurd (omega (arith, some, product, zeroth))) (cases_lt 0 a),
  ⊎_elim (λ more. more) (λ none. let zeroth : a * b ≡ a * 0 = ap (λ y. a * y) (omega (arith, none)) in absurd (omega (arith, some, product, zeroth))) (cases_lt 0 b),
)

-- if two factors are at least two others, and the products are equal, the factors are
squeezed : (a b x y : ℕ) → 0 < a * b → a ≤ x → b ≤ y → x * y ≡ a * b → (x ≡ a) × (y ≡ b)
squeezed a b x y some first second same =
    let (some_a, some_b) = positive a b (a * b) some refl in
    let one = mul-le-mul_left x second in
    let two = mul-le-mul_left y first in
    let le = le_of_mul-le-mul_right {m = x} {n = a} {k = b} (omega (arith, one, same)) some_b in
    let le' = le_of_mul-le-mul_right {m = y} {n = b} {k = a} (omega (arith, two, same, mul_comm y a, mul_comm y x, mul_comm b a)) some_a in
    (omega (arith, first, le), omega (arith, second, le'))

-- the nodes of a composition are pairs of nodes
nodes_after : {f s g : LocalRule} → IsAfter f s g → node_count g ≡ node_count f * node_count s
nodes_after {f} {s} {g} h = ap₂ (λ (k n : ℕ). k ^ n) h.states h.width ∙ pow-add f.states (f.width - 1) (s.width - 1) ∙ ap (λ k. node_count f * k ^ (s.width - 1)) (sym h.same)

-- the degree and the multipliers of a composition are products
pub factors : {f s g : LocalRule} {d n l d' n' l' e p q : ℕ} → IsAfter f s g → IsSurjective f → IsSurjective s → AreDegreeAndMultipliers f d n l → AreDegreeAndMultipliers s d' n' l'
    → AreDegreeAndMultipliers g e p q → (e ≡ d * d') × (p ≡ n * n') × (q ≡ l * l')
factors {f} {s} {g} {d} {n} {l} {d'} {n'} {l'} {e} {p} {q} h onto_f onto_s first second whole =
    let onto_g = IsSurjective-after h onto_f onto_s in
    let u = whole.degree.before in
    let v = whole.degree.after in
    let under : (z : List ℕ) → IsWord g.states z → IsWord s.states z = λ z hz. subst (λ k. IsWord k z) (h.states ∙ sym h.same) hz in
    let pairs = cut-after h d (λ a b ha hb. first.degree.least a b (cut f a b) (cut_set h.one a b ha hb)) u v in
    let few = second.degree.least u v (cut s u v) (cut_set h.two u v (under u whole.degree.attained.before) (under v whole.degree.attained.after)) in
    let degree_le : d * d' ≤ e = let times = mul-le-mul_left d few in omega (arith, times, pairs, count_cut h.all whole.degree.attained) in
    let right_le : n * n' ≤ p = right_after h onto_f onto_s first.right second.right whole.right in
    let left_le : l * l' ≤ q = right_after (IsAfter-mirrored h) (IsSurjective-mirror h.one onto_f) (IsSurjective-mirror h.two onto_s) first.left second.left whole.left in
    let of_f = numbers_product h.one onto_f first in
    let of_s = numbers_product h.two onto_s second in
    let of_g = numbers_product h.all onto_g whole in
    let all : q * e * p ≡ (l * l') * (d * d') * (n * n') = of_g ∙ nodes_after h ∙ ap₂ (λ (x y : ℕ). x * y) (sym of_f) (sym of_s) ∙ grind arith in
    let some : 0 < (l * l') * (d * d') * (n * n') = omega (arith, node_count_pos h.all, of_g, all) in
    let (outer, right) = squeezed ((l * l') * (d * d')) (n * n') (q * e) p some (mul-le-mul left_le degree_le) right_le all in
    let (left, degree) = squeezed (l * l') (d * d') q e (positive ((l * l') * (d * d')) (n * n') _ some refl).0 left_le degree_le outer in
    (degree, right, left)

-- a factor is determined by the product and the other factor
other_factor : (l a b : ℕ) → 0 < l * a → l * a ≡ l * b → a ≡ b
other_factor l a b some same =
    let more = (positive l a (l * a) some refl).0 in
    let le = le_of_mul-le-mul_right {m = a} {n = b} {k = l} (omega (arith, same, mul_comm l a, mul_comm l b)) more in
    let ge = le_of_mul-le-mul_right {m = b} {n = a} {k = l} (omega (arith, same, mul_comm l a, mul_comm l b)) more in
    omega (arith, le, ge)

-- the fewest last nodes and the fewest first nodes of a composition are products
pub fewest_factors : {f s g : LocalRule} {a b a' b' x y i j i' j' o o' : ℕ} {u v u' v' w z : List ℕ} → IsAfter f s g → IsSurjective f → IsSurjective s → IsFewestLast f a i u → IsFewestFirst f b j v
    → IsFewestLast s a' i' u' → IsFewestFirst s b' j' v' → IsFewestLast g x o w → IsFewestFirst g y o' z → (x ≡ a * a') × (y ≡ b * b')
fewest_factors {f} {s} {g} {a} {b} {a'} {b'} {x} {y} {u = u} {v = v} {u' = u'} {v' = v'} {w = w} {z = z} h onto_f onto_s last_f first_f last_s first_s last_g first_g =
    let (l, d, n, left, degree, right, of_a, of_b, _) = multipliers-fewest u v h.one onto_f last_f (IsFewestLast-first h.one first_f).1 in
    let (l', d', n', left', degree', right', of_a', of_b', _) = multipliers-fewest u' v' h.two onto_s last_s (IsFewestLast-first h.two first_s).1 in
    let (q, e, p, left_g, degree_g, right_g, of_x, of_y, _) = multipliers-fewest w z h.all (IsSurjective-after h onto_f onto_s) last_g (IsFewestLast-first h.all first_g).1 in
    let (_, rights, lefts) = factors h onto_f onto_s (record { degree = degree; right = right; left = left }) (record { degree = degree'; right = right'; left = left' }) (record { degree = degree_g; right = right_g; left = left_g }) in
    let nodes = nodes_after h in
    let some = node_count_pos h.all in (
      other_factor q x (a * a') (omega (arith, some, of_x)) (of_x ∙ nodes ∙ ap₂ (λ (c k : ℕ). c * k) (sym of_a) (sym of_a') ∙ (let two : (l * a) * (l' * a') ≡ (l * l') * (a * a') = grind arith in two) ∙ ap (λ c. c * (a * a')) (sym lefts)),
      other_factor p y (b * b') (omega (arith, some, of_y)) (of_y ∙ nodes ∙ ap₂ (λ (c k : ℕ). c * k) (sym of_b) (sym of_b') ∙ (let two : (n * b) * (n' * b') ≡ (n * n') * (b * b') = grind arith in two) ∙ ap (λ c. c * (b * b')) (sym rights)),
    )
