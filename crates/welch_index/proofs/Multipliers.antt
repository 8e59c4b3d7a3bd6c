-- The greatest number of ends of walks that begin at one node and spell one word (Hedlund 1969): the number of nodes divided by the
-- fewest first nodes.
use Rattle.std.proofs.Common.{pow-suc, mul-le-mul, mul-le-mul_left, mul_comm, ◌≡◌, ◌≢◌, subst₂, ℕ, zero, suc, ◌-◌, ◌*◌, ◌^◌, ◌<◌, ◌≤◌, inl, inr, ◌↔◌, List, [], ◌∷◌, ◌++◌, length, drop, reverse, refl, sym, ap, ap₂, ◌∙◌, subst, ⊎_elim, arith, le_of_mul-le-mul_right, eq-eqb, ne_eqb}
use native.Mathlib.Nat.{pow-zero}
use Rattle.std.proofs.lemmas.List.Elements.{All-nil, All-cons}
use Rattle.word_image.proofs.Common.{cases_eq, cases_lt, from_bool, LocalRule, IsRule, IsWord, IsSurjective, value, All-append, IsWord-reverse, IsRule-mirrored, mirrored-mirrored, reverse-reverse, mirrored, node_count, node_count_pos, IsSetOf-same}
use Rattle.search_laws.proofs.Common.{some_set}
use Rattle.welch_index.specs.Degrees.{IsDegree, IsWalkEnd, HasWalkEnds, IsMultiplier}
use Rattle.welch_index.proofs.Totals.{total, total-le, total-same, total-equal, total-some, total-term, at_place, sign, sign-most, sign-some, sign-mono, some-sign}
use Rattle.welch_index.proofs.Pulls.{total-at_place, pull, pull-append, pull-same, pull-le, pull-sign, pull-nodes, pull-const, over, over-le, over-const, over-equal, over-behind}
use Rattle.welch_index.proofs.Cuts.{reads, enters, ends, spelled, cut, last_count, over-led, spelled-nodes, spelled-all}
use Rattle.welch_index.proofs.Bounds.{IsStable, into, level, reads-append, counts-into, firsts-into}
use Rattle.welch_index.proofs.Links.{walk_of, preimage_from, spelled-some}
use Rattle.welch_index.proofs.Counts.{ones-IsSetOf, flipped}
use Rattle.welch_index.specs.Fewest.{IsFewestLast}
use Rattle.welch_index.proofs.Mirrored.{first_count-mirrored}
use Rattle.welch_index.proofs.Products.{both_of, count_cut, cut_set, fewest-last_count, not_surjective-fewest, IsSurjective-fewest, IsDegree-fewest}

-- a walk that ends at b weighs at least what b weighs
pull-at : {r : LocalRule} → IsRule r → (w : List ℕ) (x : ℕ → ℕ) (a b : ℕ) → a < node_count r → b < node_count r → x b * pull r w (at_place b) a ≤ pull r w x a
pull-at {r} rule w x a b la lb = omega (arith, pull-nodes rule w x a la, total-term (λ t. x t * pull r w (at_place t) a) b (node_count r) lb)

-- if a sum over words is above 0, some word gives more than 0
over-positive : (k n : ℕ) (g : List ℕ → ℕ) → 0 < over k n g → (z : List ℕ) × IsWord k z × (length z ≡ n) × (0 < g z)
over-positive k zero g some = ([], All-nil (λ a. a < k), refl, some)
over-positive k (suc n) g some =
    let (a, l, more) = total-some (λ a. over k n (λ z. g (a ∷ z))) k some in
    let (z, word, long, here) = over-positive k n (λ z. g (a ∷ z)) more in
    (a ∷ z, All-cons (λ b. b < k) a z l word, ap suc long, here)

-- some word of m - 1 letters leads from a node to a node
led_to : {r : LocalRule} → IsRule r → (a b : ℕ) → a < node_count r → b < node_count r
    → (z : List ℕ) × IsWord r.states z × (length z ≡ r.width - 1) × (0 < pull r z (at_place b) a)
led_to {r} rule a b la lb =
    let one : total (at_place b) (node_count r) ≡ 1 = total-same (at_place b) (λ t. 1 * at_place t b) (node_count r) (λ t l. flipped b t) ∙ total-at_place (λ t. 1) b (node_count r) lb in
    over-positive r.states (r.width - 1) (λ z. pull r z (at_place b) a) (omega (arith, over-led rule (at_place b) a la, one))

-- a number is less than its power of two
below_power : (n : ℕ) → n < 2 ^ n
below_power zero = omega (arith, pow-zero 2)
below_power (suc n) = omega (arith, below_power n, pow-suc 2 n)

-- a mark is at most 1
place-most : (t u : ℕ) → at_place t u ≤ 1
place-most t u = ⊎_elim (λ same. omega (arith, ap from_bool (eq-eqb u t same))) (λ other. omega (arith, ap from_bool (ne_eqb u t other))) (cases_eq u t)

-- two walks with one label sequence between the same nodes give words with more and more walks
many_walks : {r : LocalRule} → IsRule r → (w z : List ℕ) (p t : ℕ) → IsWord r.states w → IsWord r.states z → p < node_count r → t < node_count r
    → 2 ≤ pull r w (at_place t) p → 0 < pull r z (at_place p) t → (n : ℕ) → (x : List ℕ) × IsWord r.states x × (2 ^ n ≤ pull r x (at_place t) p)
many_walks rule w z p t hw hz lp lt two led zero = (w, hw, omega (arith, two, pow-zero 2))
many_walks {r} rule w z p t hw hz lp lt two led (suc n) =
    let (x, hx, many) = many_walks rule w z p t hw hz lp lt two led n in
    let back = pull-append r z w (at_place t) t in
    let inner = pull-at rule z (pull r w (at_place t)) t p lt lp in
    let inner_two = mul-le-mul two led in
    let outer = pull-at rule x (pull r (z ++ w) (at_place t)) p t lp lt in
    let twice : 2 ≤ pull r (z ++ w) (at_place t) t = omega (arith, back, inner, inner_two) in
    let product = mul-le-mul twice many in
    (x ++ (z ++ w), All-append (λ a. a < r.states) x (z ++ w) hx (All-append (λ a. a < r.states) z w hz hw), omega (arith, pull-append r x (z ++ w) (at_place t) p, outer, product, pow-suc 2 n))

-- between two nodes at most one walk spells a word
pub one_walk : {r : LocalRule} → IsRule r → ((w : List ℕ) → IsWord r.states w → spelled r w ≡ node_count r) → (w : List ℕ) → IsWord r.states w
    → (p t : ℕ) → p < node_count r → t < node_count r → pull r w (at_place t) p ≤ 1
one_walk {r} rule every w hw p t lp lt =
    let m = node_count r in
    ⊎_elim
    (λ more.
    let (z, hz, lz, led) = led_to rule t p lt lp in
    let (x, hx, many) = many_walks rule w z p t hw hz lp lt (omega (arith, more)) led m in
    let less = pull-le rule x (at_place t) (λ q. 1) (λ q l. place-most t q) p lp in
    let term = total-term (pull r x (λ q. 1)) p m lp in
    absurd (omega (arith, many, less, term, every x hx, below_power m)))
    (λ few. few)
    (cases_lt 1 (pull r w (at_place t) p))

-- walks from a node end at the ends of the preimages that begin with the node
pub walk_end : {r : LocalRule} → IsRule r → (u : ℕ) → u < node_count r → (w : List ℕ) (t : ℕ) → (0 < pull r w (at_place t) u) ↔ IsWalkEnd r u w t
walk_end {r} rule u l w t = (
  λ some.
      let (x, p, first, at) = preimage_from rule w (at_place t) u l some in
      let last = value r.states (drop (length w) x) in
      record { x = x; preimage = p; first = first; last = ⊎_elim (λ same. same) (λ other. absurd (omega (arith, at, ap from_bool (ne_eqb last t other)))) (cases_eq last t) },
  λ h.
      let one = ap from_bool (eq-eqb (value r.states (drop (length w) h.x)) t h.last) in
      subst (λ q. 0 < pull r w (at_place t) q) h.first (walk_of rule w h.x h.preimage (at_place t) (omega (arith, one))),
)

-- as many ends as walks
pub sum_of_ends : {r : LocalRule} → IsRule r → (w : List ℕ) (u : ℕ) → u < node_count r → total (λ t. pull r w (at_place t) u) (node_count r) ≡ pull r w (λ q. 1) u
sum_of_ends {r} rule w u l = total-same _ _ (node_count r) (λ t h. omega arith) ∙ sym (pull-nodes rule w (λ q. 1) u l)

pub count_ends : {r : LocalRule} {u n : ℕ} {w : List ℕ} → IsRule r → ((x : List ℕ) → IsWord r.states x → spelled r x ≡ node_count r) → HasWalkEnds r u w n → n ≡ pull r w (λ q. 1) u
count_ends {r} {u} {n} {w} rule every has =
    sym has.count ∙ ones-IsSetOf (node_count r) has.nodes (λ t. pull r w (at_place t) u) has.ends (λ t l. one_walk rule every w has.word u t has.from l) (λ t l. walk_end rule u has.from w t)
    ∙ sum_of_ends rule w u has.from

pub ends_set : {r : LocalRule} → IsRule r → ((x : List ℕ) → IsWord r.states x → spelled r x ≡ node_count r) → (u : ℕ) → u < node_count r → (w : List ℕ) → IsWord r.states w
    → HasWalkEnds r u w (pull r w (λ q. 1) u)
ends_set {r} rule every u l w word =
    let found = some_set (λ t. 0 < pull r w (at_place t) u) (λ t. ⊎_elim (λ some. inl some) (λ none. inr (λ some. omega (arith, none, some))) (cases_lt 0 (pull r w (at_place t) u))) (node_count r) in
    let set = IsSetOf-same (λ t h. walk_end rule u l w t) found.1 in
    record {
      nodes = found.0;
      word = word;
      from = l;
      ends = set;
      count = ones-IsSetOf (node_count r) found.0 (λ t. pull r w (at_place t) u) set (λ t h. one_walk rule every w word u t l h) (λ t h. walk_end rule u l w t) ∙ sum_of_ends rule w u l;
    }

-- a pair of words with the fewest nodes at its cut, under a rule by which each word is spelled by as many walks as there are nodes
pub record IsLeastCut (r : LocalRule) (u v : List ℕ) : Type 0 where
  pub rule : IsRule r
  pub every : (w : List ℕ) → IsWord r.states w → spelled r w ≡ node_count r
  pub first : IsWord r.states u
  pub second : IsWord r.states v
  pub least : (x y : List ℕ) → IsWord r.states x → IsWord r.states y → cut r u v ≤ cut r x y

-- a walk that spells a longer word ends where one that spells its end does
ends-append : {r : LocalRule} → IsRule r → (y u : List ℕ) (t : ℕ) → ends r (y ++ u) t ≤ ends r u t
ends-append {r} rule y u t = sign-mono _ _ (λ some.
    let n = node_count r in
    let (p, lp, walk) = total-some (λ p. pull r (y ++ u) (at_place t) p) n some in
    let split = pull-append r y u (at_place t) p ∙ pull-nodes rule y (pull r u (at_place t)) p lp in
    let (q, lq, both) = total-some (λ q. pull r u (at_place t) q * pull r y (at_place q) p) n (omega (arith, walk, split)) in
    let here : 0 < pull r u (at_place t) q = ⊎_elim (λ more. more) (λ none. let zeroth : pull r u (at_place t) q ≡ 0 = omega (arith, none) in absurd (omega (arith, both, ap (λ z. z * pull r y (at_place q) p) zeroth))) (cases_lt 0 (pull r u (at_place t) q)) in
    omega (arith, here, total-term (λ q. pull r u (at_place t) q) q n lq))

-- a longer first word leaves the cut least, and so stable
stable_longer : {r : LocalRule} {u v : List ℕ} → IsLeastCut r u v → (y : List ℕ) → IsWord r.states y → IsStable r (y ++ u) v
stable_longer {r} {u} {v} s y hy =
    let Below : ℕ → Type 0 = λ a. a < r.states in
    let longer = All-append Below y u hy s.first in
    record {
      rule = s.rule;
      every = s.every;
      first = longer;
      second = s.second;
      no_fewer = λ z hz lz.
          let fewer = total-le (λ t. ends r (y ++ u) t * reads r v t) (λ t. ends r u t * reads r v t) (node_count r) (λ t l. let le = mul-le-mul_left (reads r v t) (ends-append s.rule y u t) in omega (arith, le, mul_comm (reads r v t) (ends r (y ++ u) t), mul_comm (reads r v t) (ends r u t))) in
          let least = s.least (y ++ u) (v ++ (z ++ ((y ++ u) ++ v))) longer (All-append Below v (z ++ ((y ++ u) ++ v)) s.second (All-append Below z ((y ++ u) ++ v) hz (All-append Below (y ++ u) v longer s.second))) in
          omega (arith, fewer, least);
    }

-- some node is at the cut
some_at_cut : {r : LocalRule} → IsRule r → ((w : List ℕ) → IsWord r.states w → spelled r w ≡ node_count r) → (u v : List ℕ) → IsWord r.states u → IsWord r.states v
    → (t : ℕ) × (t < node_count r) × (0 < ends r u t) × (0 < reads r v t)
some_at_cut {r} rule every u v hu hv =
    let n = node_count r in
    let some = every (u ++ v) (All-append (λ a. a < r.states) u v hu hv) in
    let parts = total-same _ _ n (λ p l. pull-append r u v (λ q. 1) p) ∙ spelled-nodes rule u (pull r v (λ q. 1)) in
    let (t, l, both) = total-some (λ t. pull r v (λ q. 1) t * enters r u t) n (omega (arith, some, parts, node_count_pos rule)) in
    let far : 0 < pull r v (λ q. 1) t = ⊎_elim (λ more. more) (λ none. let zeroth : pull r v (λ q. 1) t ≡ 0 = omega (arith, none) in absurd (omega (arith, both, ap (λ z. z * enters r u t) zeroth))) (cases_lt 0 (pull r v (λ q. 1) t)) in
    let near : 0 < enters r u t = ⊎_elim (λ more. more) (λ none. let zeroth : enters r u t ≡ 0 = omega (arith, none) in absurd (omega (arith, both, ap (λ z. pull r v (λ q. 1) t * z) zeroth))) (cases_lt 0 (enters r u t)) in
    (t, l, omega (arith, sign-some _ near), omega (arith, sign-some _ far))

-- behind a node of the cut there are as many walks for each longer first word
level_at : {r : LocalRule} {u v : List ℕ} → IsStable r u v → (t : ℕ) → t < node_count r → 0 < ends r u t → 0 < reads r v t
    → into r u v * pull r v (λ q. 1) t ≡ node_count r
level_at {r} {u} {v} s t l near far =
    let e : ends r u t ≡ 1 = omega (arith, near, sign-most (enters r u t)) in
    let f : reads r v t ≡ 1 = omega (arith, far, sign-most (pull r v (λ q. 1) t)) in
    let even = level s t l in
    let both = ap₂ (λ (a b : ℕ). node_count r * (a * b)) e f in
    let right = ap (λ a. a * (into r u v * pull r v (λ q. 1) t)) e in
    omega (arith, even, both, right)

-- as many walks spell each longer first word and end where the second is read
into-longer : {r : LocalRule} {u v : List ℕ} → IsLeastCut r u v → IsStable r u v → (y : List ℕ) → IsWord r.states y → into r (y ++ u) v ≡ into r u v
into-longer {r} {u} {v} s base y hy =
    let longer = stable_longer s y hy in
    let (t, l, near, far) = some_at_cut s.rule s.every (y ++ u) v longer.first s.second in
    let one = level_at longer t l near far in
    let two = level_at base t l (omega (arith, near, ends-append s.rule y u t)) far in
    let c = pull r v (λ q. 1) t in
    let some : 0 < c = some-sign c far in
    let le = le_of_mul-le-mul_right {m = into r (y ++ u) v} {n = into r u v} {k = c} (omega (arith, one, two)) some in
    let ge = le_of_mul-le-mul_right {m = into r u v} {n = into r (y ++ u) v} {k = c} (omega (arith, one, two)) some in
    omega (arith, le, ge)

-- from a node of the cut one walk spells v z w y u, for m - 1 letters z and y, and ends where v is read
one_between : {r : LocalRule} {u v : List ℕ} → IsLeastCut r u v → IsStable r u v → (t : ℕ) → t < node_count r → 0 < ends r u t → 0 < reads r v t
    → (x : List ℕ) → IsWord r.states x → (z : List ℕ) → IsWord r.states z → length z ≡ r.width - 1
    → pull r v (pull r z (pull r (x ++ u) (reads r v))) t ≡ 1
one_between {r} {u} {v} s base t l near far x hx =
    let k = r.states in
    let d = r.width - 1 in
    let n = node_count r in
    let Below : ℕ → Type 0 = λ a. a < k in
    let y = x ++ u in
    let reached = pull r y (reads r v) in
    let e : ends r u t ≡ 1 = omega (arith, near, sign-most (enters r u t)) in
    let each : (z : List ℕ) → IsWord k z → length z ≡ d → 1 ≤ pull r v (pull r z reached) t = λ z hz lz.
    let tail = pull r y (pull r v (λ q. 1)) in
    let whole = v ++ (z ++ (y ++ v)) in
    let word = All-append Below v (z ++ (y ++ v)) s.second (All-append Below z (y ++ v) hz (All-append Below y v (All-append Below x u hx s.first) s.second)) in
    let fewer : (p : ℕ) → p < n → ends r u p * reads r whole p ≤ ends r u p * reads r v p = λ p h. mul-le-mul_left (ends r u p) (reads-append s.rule v (z ++ (y ++ v)) p h) in
    let same = total-equal (λ p. ends r u p * reads r whole p) (λ p. ends r u p * reads r v p) n fewer (s.least u whole s.first word) t l in
    let read : 0 < reads r whole t = ⊎_elim (λ more. more) (λ none. let zeroth : reads r whole t ≡ 0 = omega (arith, none) in absurd (omega (arith, same, ap (λ a. ends r u t * a) zeroth, (both_of (ends r u t) (reads r v t) (sign-most _) (sign-most _)).1.1 (near, far)))) (cases_lt 0 (reads r whole t)) in
    let open_word = pull-append r v (z ++ (y ++ v)) (λ q. 1) t
    ∙ pull-same s.rule v _ (pull r z tail) (λ q h. pull-append r z (y ++ v) (λ q. 1) q ∙ pull-same s.rule z _ tail (λ p g. pull-append r y v (λ q. 1) p) q h) t l in
    let one = pull-sign r v (pull r z tail) t in
    let two = pull-le s.rule v (λ q. sign (pull r z tail q)) (pull r z (λ q. sign (tail q))) (λ q h. pull-sign r z tail q) t l in
    let three = pull-le s.rule v (pull r z (λ q. sign (tail q))) (pull r z reached) (λ q h. pull-le s.rule z (λ p. sign (tail p)) reached (λ p g. pull-sign r y (pull r v (λ q. 1)) p) q h) t l in
    omega (arith, read, one, two, three, ap sign open_word) in
    let all : over k d (λ z. pull r v (pull r z reached) t) ≡ n =
    over-behind r d v (λ z. pull r z reached) t ∙ pull-same s.rule v _ (λ q. into r u v) (λ q h. over-led s.rule reached q h ∙ into-longer s base x hx) t l
    ∙ pull-const s.rule v (into r u v) t l ∙ level_at base t l near far in
    over-equal k d 1 (λ z. pull r v (pull r z reached) t) each (omega (arith, all))

-- the walks from a node that spell a word, times the walks that spell u and end where v is read, are at most the nodes
walks-most : {r : LocalRule} {u v : List ℕ} → IsLeastCut r u v → IsStable r u v → (p : ℕ) → p < node_count r → (w : List ℕ) → IsWord r.states w
    → into r u v * pull r w (λ q. 1) p ≤ node_count r
walks-most {r} {u} {v} s base p lp w hw =
    let k = r.states in
    let d = r.width - 1 in
    let n = node_count r in
    let Below : ℕ → Type 0 = λ a. a < k in
    let (t, l, near, far) = some_at_cut s.rule s.every u v s.first s.second in
    let steps = pull-nodes s.rule v (λ q. 1) t l in
    let (q, lq, walk) = total-some (λ q. 1 * pull r v (at_place q) t) n (omega (arith, steps, some-sign _ far)) in
    let (z, hz, lz, led) = led_to s.rule q p lq lp in
    let reached = pull r u (reads r v) in
    let each : (y : List ℕ) → IsWord k y → length y ≡ d → pull r w (pull r y reached) p ≤ 1 = λ y hy ly.
    let from_p = pull r w (pull r y reached) in
    let one = one_between s base t l near far (w ++ y) (All-append Below w y hw hy) z hz lz in
    let same = pull-same s.rule v _ (pull r z from_p) (λ a g. pull-same s.rule z _ from_p (λ b h. pull-append r (w ++ y) u (reads r v) b ∙ pull-append r w y reached b) a g) t l in
    let inner = pull-at s.rule z from_p q p lq lp in
    let outer = pull-at s.rule v (pull r z from_p) t q l lq in
    let more = mul-le-mul_left (from_p p) led in
    let last = mul-le-mul_left (pull r z from_p q) walk in
    omega (arith, one, same, inner, outer, more, last) in
    let all = over-behind r d w (λ y. pull r y reached) p ∙ pull-same s.rule w _ (λ b. into r u v) (λ b h. over-led s.rule reached b h) p lp ∙ pull-const s.rule w (into r u v) p lp in
    let most = over-le k d (λ y. pull r w (pull r y reached) p) (λ y. 1) each in
    omega (arith, all, most, over-const k d 1)

-- under a surjective rule the greatest number of ends is the number of nodes divided by the fewest first nodes
pub IsMultiplier-fewest : {r : LocalRule} {f b nodes others : ℕ} {u : List ℕ} (v : List ℕ) → IsRule r → IsSurjective r → IsFewestLast r f nodes u → IsFewestLast (mirrored r) b others (reverse v)
    → (n : ℕ) × IsMultiplier r n × (n * b ≡ node_count r)
IsMultiplier-fewest {r} {f} {b} {nodes} {others} {u} v rule onto lasts firsts =
    let k = r.states in
    let m = node_count r in
    let Below : ℕ → Type 0 = λ a. a < k in
    let every : (w : List ℕ) → IsWord k w → spelled r w ≡ m = spelled-all rule (λ w word. let found = onto w word in spelled-some rule w found.0 found.1) in
    let found = IsDegree-fewest v rule onto lasts firsts in
    let degree = found.1 in
    let x = degree.before in
    let y = degree.after in
    let hx : IsWord k x = degree.attained.before in
    let hy : IsWord k y = degree.attained.after in
    let size : found.0 ≡ cut r x y = count_cut rule degree.attained in
    let s : IsLeastCut r x y = record { rule = rule; every = every; first = hx; second = hy; least = λ p q hp hq. let other = degree.least p q (cut r p q) (cut_set rule p q hp hq) in omega (arith, size, other) } in
    let base : IsStable r x y = record { rule = rule; every = every; first = hx; second = hy; no_fewer = λ z hz lz. s.least x (y ++ (z ++ (x ++ y))) hx (All-append Below y (z ++ (x ++ y)) hy (All-append Below z (x ++ y) hz (All-append Below x y hx hy))) } in
    let l = into r x y in
    let word = All-append Below x y hx hy in
    let some : 0 < f = ⊎_elim (λ more. more) (λ none. absurd (not_surjective-fewest lasts (omega (arith, none)) onto)) (cases_lt 0 f) in
    let above : b ≤ l = let few = fewest-last_count (IsRule-mirrored rule) firsts (reverse (x ++ y)) (IsWord-reverse k (x ++ y) word) in omega (arith, few, first_count-mirrored rule (x ++ y), firsts-into base) in
    let product : f * l ≤ f * b =
    let last = fewest-last_count rule lasts (x ++ y) word in
    let times = mul-le-mul_left l last in
    let even : m * found.0 ≡ m * cut r x y = ap (λ a. m * a) size in
    omega (arith, times, mul_comm l f, mul_comm l (last_count r (x ++ y)), counts-into base, even, found.2) in
    let below : l ≤ b = le_of_mul-le-mul_right {m = l} {n = b} {k = f} (omega (arith, product, mul_comm f l, mul_comm f b)) some in
    let is : l ≡ b = omega (arith, above, below) in
    let (t, lt, near, far) = some_at_cut rule every x y hx hy in
    let ends_of = pull r y (λ q. 1) t in
    let whole : l * ends_of ≡ m = level_at base t lt near far in
    let l_some : 0 < l = ⊎_elim (λ more. more) (λ none. let zeroth : l ≡ 0 = omega (arith, none) in absurd (omega (arith, whole, ap (λ a. a * ends_of) zeroth, node_count_pos rule))) (cases_lt 0 l) in (
      ends_of,
      record {
        from = t;
        word = y;
        attained = ends_set rule every t lt y hy;
        most = λ p w c has.
            let count = count_ends rule every has in
            let most = walks-most s base p has.from w has.word in
            let le = le_of_mul-le-mul_right {m = pull r w (λ q. 1) p} {n = ends_of} {k = l} (omega (arith, most, whole, mul_comm l (pull r w (λ q. 1) p), mul_comm l ends_of)) l_some in
            omega (arith, le, count);
      },
      mul_comm ends_of b ∙ ap (λ a. a * ends_of) (sym is) ∙ whole,
    )

-- the product of the two multipliers and the degree
product_of_all : (l d n f b m : ℕ) → 0 < m → m * d ≡ f * b → l * f ≡ m → n * b ≡ m → l * d * n ≡ m
product_of_all l d n f b m some degree left right =
    let one : l * d * n * m ≡ l * n * (m * d) = grind arith in
    let two : l * n * (f * b) ≡ l * f * (n * b) = grind arith in
    let same : l * d * n * m ≡ m * m = one ∙ ap (λ z. l * n * z) degree ∙ two ∙ ap₂ (λ (x y : ℕ). x * y) left right in
    let le = le_of_mul-le-mul_right {m = l * d * n} {n = m} {k = m} (omega (arith, same)) some in
    let ge = le_of_mul-le-mul_right {m = m} {n = l * d * n} {k = m} (omega (arith, same)) some in
    omega (arith, le, ge)

-- a surjective rule has a multiplier on each side, and their product with the degree is the number of nodes
pub multipliers-fewest : {r : LocalRule} {f b nodes others : ℕ} (u v : List ℕ) → IsRule r → IsSurjective r → IsFewestLast r f nodes u → IsFewestLast (mirrored r) b others (reverse v)
    → (l : ℕ) × (d : ℕ) × (n : ℕ) × IsMultiplier (mirrored r) l × IsDegree r d × IsMultiplier r n × (l * f ≡ node_count r) × (n * b ≡ node_count r) × (l * d * n ≡ node_count r)
multipliers-fewest {r} {f} {b} {nodes} {others} u v rule onto lasts firsts =
    let m = node_count r in
    let (n, right, of_b) = IsMultiplier-fewest v rule onto lasts firsts in
    let some : b ≢ 0 = λ none. omega (arith, of_b, ap (λ z. n * z) none, node_count_pos rule) in
    let turned = IsSurjective-fewest (IsRule-mirrored rule) firsts some in
    let back : IsFewestLast (mirrored (mirrored r)) f nodes (reverse (reverse u)) = subst₂ (λ (q : LocalRule) (z : List ℕ). IsFewestLast q f nodes z) (sym (mirrored-mirrored rule)) (sym (reverse-reverse u)) lasts in
    let (l, left, of_f) = IsMultiplier-fewest (reverse u) (IsRule-mirrored rule) turned firsts back in
    let found = IsDegree-fewest v rule onto lasts firsts in
    (l, found.0, n, left, found.1, right, of_f, of_b, product_of_all l found.0 n f b m (node_count_pos rule) found.2 of_f of_b)
