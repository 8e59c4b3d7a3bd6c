-- Under a rule by which each word is spelled by as many walks as there are nodes, the nodes at the cut between two words
-- are at least the product of the fewest last nodes and the fewest first nodes, divided by the number of nodes.
use Rattle.std.proofs.Common.{le_of_lt, mul-le-mul, mul-le-mul_left, mul_left_comm, mul_comm, mul_assoc, ◌≡◌, ℕ, zero, suc, ◌-◌, ◌*◌, ◌<◌, ◌≤◌, List, ◌++◌, length, sym, ap, ◌∙◌, subst, ⊎_elim, arith, le_of_mul-le-mul_right}
use Rattle.word_image.proofs.Common.{cases_eq, cases_lt, LocalRule, IsRule, IsWord, All-append, node_count}
use Rattle.welch_index.proofs.Totals.{total, total-le, total-same, total-mul, total-swap, total-equal, total-term, at_place, sign, sign-some, sign-mul, sign-mono, sign-total}
use Rattle.welch_index.proofs.Pulls.{pull, pull-append, pull-same, pull-le, pull-sign, pull-nodes, pull-const, over, over-le, over-mul, over-const, over-behind, over-some}
use Rattle.welch_index.proofs.Cuts.{reads, enters, ends, spelled, cut, last_count, first_count, over-led, spelled-nodes}

-- from a node from which a longer word is read its beginning is read
pub reads-append : {r : LocalRule} → IsRule r → (v w : List ℕ) (p : ℕ) → p < node_count r → reads r (v ++ w) p ≤ reads r v p
reads-append {r} rule v w p l =
    let n = node_count r in
    let most = total (pull r w (λ q. 1)) n in
    sign-mono _ _ (λ some.
    let here : 0 < pull r v (pull r w (λ q. 1)) p = subst (λ (y : ℕ). 0 < y) (pull-append r v w (λ q. 1) p) some in
    let less = pull-le rule v (pull r w (λ q. 1)) (λ q. most) (λ q h. total-term (pull r w (λ q. 1)) q n h) p l in
    let all = pull-const rule v most p l in
    ⊎_elim (λ none. absurd (omega (arith, here, less, all, ap (λ (y : ℕ). most * y) none))) (λ other. omega (arith, other)) (cases_eq (pull r v (λ q. 1) p) 0))

-- each word is spelled by as many walks as there are nodes, and no word v z u v, for m - 1 letters z, has fewer nodes at the cut behind u than v has
pub record IsStable (r : LocalRule) (u v : List ℕ) : Type 0 where
  pub rule : IsRule r
  pub every : (w : List ℕ) → IsWord r.states w → spelled r w ≡ node_count r
  pub first : IsWord r.states u
  pub second : IsWord r.states v
  pub no_fewer : (z : List ℕ) → IsWord r.states z → length z ≡ r.width - 1 → cut r u v ≤ cut r u (v ++ (z ++ (u ++ v)))

-- how many walks spell u and end where v is read
abbrev pub into : LocalRule → List ℕ → List ℕ → ℕ
into r u v = total (pull r u (reads r v)) (node_count r)

-- at a node of the cut each word v z u v is read
read_again : {r : LocalRule} {u v : List ℕ} → IsStable r u v → (z : List ℕ) → IsWord r.states z → length z ≡ r.width - 1 → (p : ℕ) → p < node_count r
    → ends r u p * reads r (v ++ (z ++ (u ++ v))) p ≡ ends r u p * reads r v p
read_again {r} {u} {v} s z hz lz =
    total-equal (λ p. ends r u p * reads r (v ++ (z ++ (u ++ v))) p) (λ p. ends r u p * reads r v p) (node_count r)
    (λ p l. mul-le-mul_left (ends r u p) (reads-append s.rule v (z ++ (u ++ v)) p l)) (s.no_fewer z hz lz)

-- from a node of the cut there are enough walks
from_cut : {r : LocalRule} {u v : List ℕ} → IsStable r u v → (p : ℕ) → p < node_count r
    → node_count r * (ends r u p * reads r v p) ≤ ends r u p * (into r u v * pull r v (λ q. 1) p)
from_cut {r} {u} {v} s p l =
    let k = r.states in
    let n = node_count r in
    let d = r.width - 1 in
    let e = ends r u p in
    let reached = pull r u (reads r v) in
    let here : over k d (λ z. e * reads r (v ++ (z ++ (u ++ v))) p) ≤ over k d (λ z. e * pull r v (pull r z reached) p) = over-le k d _ _ (λ z hz lz.
    let tail = pull r u (pull r v (λ q. 1)) in
    let open_word = pull-append r v (z ++ (u ++ v)) (λ q. 1) p
    ∙ pull-same s.rule v _ (pull r z tail) (λ q h. pull-append r z (u ++ v) (λ q. 1) q ∙ pull-same s.rule z _ tail (λ t g. pull-append r u v (λ q. 1) t) q h) p l in
    let one = pull-sign r v (pull r z tail) p in
    let two = pull-le s.rule v (λ q. sign (pull r z tail q)) (pull r z (λ q. sign (tail q))) (λ q h. pull-sign r z tail q) p l in
    let three = pull-le s.rule v (pull r z (λ q. sign (tail q))) (pull r z reached) (λ q h. pull-le s.rule z (λ t. sign (tail t)) reached (λ t g. pull-sign r u (pull r v (λ q. 1)) t) q h) p l in
    mul-le-mul_left e (omega (arith, one, two, three, ap sign open_word))) in
    let least : n * (e * reads r v p) ≤ over k d (λ z. e * reads r (v ++ (z ++ (u ++ v))) p) =
    subst (λ (y : ℕ). y ≤ over k d (λ z. e * reads r (v ++ (z ++ (u ++ v))) p)) (over-const k d (e * reads r v p))
    (over-le k d (λ z. e * reads r v p) _ (λ z hz lz. let same = read_again s z hz lz p l in omega (arith, same))) in
    let led = over-mul k d e (λ z. pull r v (pull r z reached) p)
    ∙ ap (λ (y : ℕ). e * y) (over-behind r d v (λ z. pull r z reached) p ∙ pull-same s.rule v _ (λ q. into r u v) (λ q h. over-led s.rule reached q h) p l ∙ pull-const s.rule v (into r u v) p l) in
    omega (arith, least, here, led)

-- the walks that spell u v, told apart by their nodes at the cut: behind each of these nodes there are equally many
pub level : {r : LocalRule} {u v : List ℕ} → IsStable r u v → (t : ℕ) → t < node_count r
    → node_count r * (ends r u t * reads r v t) ≡ ends r u t * (into r u v * pull r v (λ q. 1) t)
level {r} {u} {v} s =
    let n = node_count r in
    let c = enters r u in
    let l = into r u v in
    let far = pull r v (λ q. 1) in
    let f : ℕ → ℕ = λ t. n * (reads r v t * c t) in
    let g : ℕ → ℕ = λ t. l * (far t * c t) in
    let one : (t : ℕ) → 0 < c t → ends r u t ≡ 1 = λ t some. sign-some (c t) some in
    let none : (t : ℕ) → c t ≡ 0 → ends r u t ≡ 0 = λ t zeroth. ap sign zeroth in
    let plain : (t : ℕ) → 0 < c t → t < n → n * reads r v t ≤ l * far t = λ t some h. let e = one t some in let le = from_cut s t h in
    omega (arith, le, ap (λ (y : ℕ). n * (y * reads r v t)) e, ap (λ (y : ℕ). y * (l * far t)) e) in
    let each : (t : ℕ) → t < n → f t ≤ g t = λ t h. ⊎_elim
    (λ some. let times = mul-le-mul_left (c t) (plain t some h) in let left : n * (reads r v t * c t) ≡ c t * (n * reads r v t) = grind arith in let right : l * (far t * c t) ≡ c t * (l * far t) = grind arith in omega (arith, times, left, right))
    (λ le. let zeroth : c t ≡ 0 = omega (arith, le) in let left : n * (reads r v t * c t) ≡ 0 = grind arith in omega (arith, left))
    (cases_lt 0 (c t)) in
    let all_f : total f n ≡ n * l = total-mul n (λ t. reads r v t * c t) n ∙ ap (λ (y : ℕ). n * y) (sym (spelled-nodes s.rule u (reads r v))) in
    let whole : total (λ t. far t * c t) n ≡ n = sym (spelled-nodes s.rule u far) ∙ total-same _ _ n (λ p h. sym (pull-append r u v (λ q. 1) p)) ∙ s.every (u ++ v) (All-append (λ a. a < r.states) u v s.first s.second) in
    let all_g : total g n ≡ l * n = total-mul l (λ t. far t * c t) n ∙ ap (λ (y : ℕ). l * y) whole in
    let same = total-equal f g n each (omega (arith, all_f, all_g, mul_comm n l)) in
    λ t h. ⊎_elim
    (λ some.
    let e = one t some in
    let equal : n * reads r v t * c t ≡ l * far t * c t = mul_assoc n (reads r v t) (c t) ∙ same t h ∙ sym (mul_assoc l (far t) (c t)) in
    let le : l * far t ≤ n * reads r v t = le_of_mul-le-mul_right {k = c t} (omega (arith, equal)) some in
    let ge = plain t some h in
    omega (arith, le, ge, ap (λ (y : ℕ). n * (y * reads r v t)) e, ap (λ (y : ℕ). y * (l * far t)) e))
    (λ le. let e = none t (omega (arith, le)) in let left : n * (ends r u t * reads r v t) ≡ 0 = grind arith in let right : ends r u t * (l * far t) ≡ 0 = grind arith in omega (arith, left, right))
    (cases_lt 0 (c t))

-- the first nodes of u v are no more than the walks that spell u and end where v is read
pub firsts-into : {r : LocalRule} {u v : List ℕ} → IsStable r u v → first_count r (u ++ v) ≤ into r u v
firsts-into {r} {u} {v} s = total-le _ _ (node_count r) (λ p h.
    let less = pull-sign r u (pull r v (λ q. 1)) p in omega (arith, less, ap sign (pull-append r u v (λ q. 1) p)))

-- the last nodes of u v, times the walks that spell u and end where v is read, are no more than n for each node of the cut
pub counts-into : {r : LocalRule} {u v : List ℕ} → IsStable r u v → last_count r (u ++ v) * into r u v ≤ node_count r * cut r u v
counts-into {r} {u} {v} s =
    let n = node_count r in
    let l = into r u v in
    let far = pull r v (λ q. 1) in
    let after : (s' : ℕ) → s' < n → total (λ t. ends r u s' * pull r v (at_place t) s') n ≡ ends r u s' * far s' = λ s' h.
    total-mul (ends r u s') (λ t. pull r v (at_place t) s') n
    ∙ ap (λ (y : ℕ). ends r u s' * y) (total-same _ _ n (λ t g. omega arith) ∙ sym (pull-nodes s.rule v (λ q. 1) s' h)) in
    let lasts : last_count r (u ++ v) ≤ total (λ t. ends r u t * far t) n =
    let step = total-le (ends r (u ++ v)) (λ t. total (λ s'. ends r u s' * pull r v (at_place t) s') n) n (λ t h.
    let entered = total-same (pull r (u ++ v) (at_place t)) (pull r u (pull r v (at_place t))) n (λ p g. pull-append r u v (at_place t) p) ∙ spelled-nodes s.rule u (pull r v (at_place t)) in
    let one = sign-total (λ s'. pull r v (at_place t) s' * enters r u s') n in
    let two = total-le (λ s'. sign (pull r v (at_place t) s' * enters r u s')) (λ s'. ends r u s' * pull r v (at_place t) s') n (λ s' g.
    let times = sign-mul (pull r v (at_place t) s') (enters r u s') in omega (arith, times, mul_comm (pull r v (at_place t) s') (ends r u s'))) in
    omega (arith, one, two, ap sign entered)) in
    omega (arith, step, total-swap (λ t s'. ends r u s' * pull r v (at_place t) s') n n, total-same (λ s'. total (λ t. ends r u s' * pull r v (at_place t) s') n) (λ s'. ends r u s' * far s') n after) in
    let evened : l * total (λ t. ends r u t * far t) n ≡ n * cut r u v =
    sym (total-mul l (λ t. ends r u t * far t) n)
    ∙ total-same _ _ n (λ t h. mul_left_comm l (ends r u t) (far t) ∙ sym (level s t h))
    ∙ total-mul n (λ t. ends r u t * reads r v t) n in
    let product = mul-le-mul_left l lasts in
    omega (arith, product, mul_comm l (last_count r (u ++ v)), evened)

-- the first nodes and the last nodes of u v are no more than n for each node of the cut
pub counts-stable : {r : LocalRule} {u v : List ℕ} → IsStable r u v → last_count r (u ++ v) * first_count r (u ++ v) ≤ node_count r * cut r u v
counts-stable {r} {u} {v} s =
    let times = mul-le-mul_left (last_count r (u ++ v)) (firsts-into s) in
    omega (arith, times, counts-into s)

-- the nodes at any cut are at least as many as the fewest last nodes times the fewest first nodes, divided by the number of nodes
pub cut-least : {r : LocalRule} → IsRule r → ((w : List ℕ) → IsWord r.states w → spelled r w ≡ node_count r) → (f b : ℕ)
    → ((w : List ℕ) → IsWord r.states w → f ≤ last_count r w) → ((w : List ℕ) → IsWord r.states w → b ≤ first_count r w)
    → (c : ℕ) (u v : List ℕ) → IsWord r.states u → IsWord r.states v → cut r u v ≤ c → f * b ≤ node_count r * cut r u v
cut-least {r} rule every f b lasts firsts zero u v hu hv few =
    let k = r.states in
    let stable : IsStable r u v = record { rule = rule; every = every; first = hu; second = hv; no_fewer = λ z hz lz. omega (arith, few) } in
    let word = All-append (λ a. a < k) u v hu hv in
    let product = mul-le-mul (lasts (u ++ v) word) (firsts (u ++ v) word) in
    omega (arith, product, counts-stable stable)
cut-least {r} rule every f b lasts firsts (suc c) u v hu hv few =
    let k = r.states in
    let n = node_count r in
    let Below : ℕ → Type 0 = λ a. a < k in
    ⊎_elim
    (λ (z, hz, lz, less).
    let again = v ++ (z ++ (u ++ v)) in
    let word = All-append Below v (z ++ (u ++ v)) hv (All-append Below z (u ++ v) hz (All-append Below u v hu hv)) in
    let before = cut-least rule every f b lasts firsts c u again hu word (omega (arith, less, few)) in
    let times = mul-le-mul_left n (le_of_lt less) in
    omega (arith, before, times))
    (λ all.
    let stable : IsStable r u v = record { rule = rule; every = every; first = hu; second = hv; no_fewer = all } in
    let word = All-append Below u v hu hv in
    let product = mul-le-mul (lasts (u ++ v) word) (firsts (u ++ v) word) in
    omega (arith, product, counts-stable stable))
    (over-some k (r.width - 1) (cut r u v) (λ z. cut r u (v ++ (z ++ (u ++ v)))))
