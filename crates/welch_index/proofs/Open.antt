-- Under an open rule the degree is the number of preimages of each configuration.
use Rattle.std.proofs.Common.{◌≡◌, ℕ, ◌+◌, ◌-◌, ◌*◌, ◌<◌, ◌≤◌, ◌↔◌, List, ◌++◌, length, take, drop, get_or, replicate, ℤ, pos, ◌+ℤ◌, ◌-ℤ◌, unsigned_abs, ◌≤ℤ◌, refl, sym, ap, ap₂, ◌∙◌, subst, ⊎_elim, arith, length-append, take_at, drop_at, eq-eqb, ne_eqb, mul-le-mul_left}
use Rattle.std.proofs.lemmas.List.{length-replicate}
use Rattle.std.proofs.lemmas.List.Elements.{All-replicate}
use Rattle.word_image.proofs.Common.{ints, cases_eq, cases_lt, from_bool, All-append, LocalRule, IsRule, IsWord, value, value-node, value-injective, IsLastNode, node_count, some_letter}
use Rattle.tail_config.proofs.Common.{Config, IsConfig, IsOpen, IsInjective, zeros, run, image_of, length-run, IsWord-run, drop-run, take-run, run-append, image-run}
use Rattle.config_laws.proofs.Joined.{written, IsConfig-written, image_of-written, run-written}
use Rattle.preimage_laws.specs.PreimageCounts.{IsToOne}
use Rattle.preimage_laws.proofs.Separated.{IsOpen-separated}
use Rattle.preimage_laws.proofs.Constant.{IsOpen-constant_to_one}
use Rattle.preimage_laws.proofs.OneToOne.{IsInjective-one}
use Rattle.preimage_laws.proofs.Followed.{node_under, IsFollowed-open}
use Rattle.preimage_laws.proofs.Counts.{same_number}
use Rattle.welch_index.specs.Fewest.{IsFirstNode}
use Rattle.welch_index.specs.Degrees.{HasCutNodes, IsDegree}
use Rattle.welch_index.proofs.Totals.{total, total-le, total-same, total-const, total-mul, total-swap, total-term, total-one, at_place, sign-most}
use Rattle.welch_index.proofs.Pulls.{total-at_place}
use Rattle.welch_index.proofs.Cuts.{reads, ends, cut}
use Rattle.welch_index.proofs.Links.{through}
use Rattle.welch_index.proofs.Products.{IsDegree-unique, cut_nodes, count_cut, cut_set, both_of}

-- a place is marked at most once
pub place-most : (t u : ℕ) → at_place t u ≤ 1
place-most t u = ⊎_elim (λ same. omega (arith, ap from_bool (eq-eqb u t same))) (λ other. omega (arith, ap from_bool (ne_eqb u t other))) (cases_eq u t)

-- only the place itself is marked
pub place-same : (t u : ℕ) → 0 < at_place t u → u ≡ t
place-same t u some = ⊎_elim (λ same. same) (λ other. absurd (omega (arith, some, ap from_bool (ne_eqb u t other)))) (cases_eq u t)

-- different names of numbers below n, at which f is positive, are no more than the sum of f
pub total-named : (f name : ℕ → ℕ) (n m : ℕ) → ((a : ℕ) → a < n → (name a < m) × (0 < f (name a))) → ((a b : ℕ) → a < n → b < n → name a ≡ name b → a ≡ b) → n ≤ total f m
total-named f name n m at apart =
    let each : (a : ℕ) → a < n → 1 ≤ total (λ t. f t * at_place t (name a)) m = λ a l. omega (arith, total-at_place f (name a) m (at a l).0, (at a l).1) in
    let ones = total-le (λ a. 1) (λ a. total (λ t. f t * at_place t (name a)) m) n each in
    let once : (t : ℕ) → t < m → total (λ a. f t * at_place t (name a)) n ≤ f t = λ t l.
    let few = total-one (λ a. at_place t (name a)) n (λ a h. place-most t (name a)) (λ a b ha hb sa sb. apart a b ha hb (place-same t (name a) sa ∙ sym (place-same t (name b) sb))) in
    let times = mul-le-mul_left (f t) few in
    omega (arith, times, total-mul (f t) (λ a. at_place t (name a)) n) in
    let all = total-le (λ t. total (λ a. f t * at_place t (name a)) n) f m once in
    omega (arith, ones, total-const 1 n, total-swap (λ a t. f t * at_place t (name a)) n m, all)

-- if each number at which f is positive, and f is at most 1, has a name below n, the sum of f is at most n
pub total-covered : (f name : ℕ → ℕ) (n m : ℕ) → ((t : ℕ) → t < m → f t ≤ 1) → ((a : ℕ) → a < n → name a < m) → ((t : ℕ) → t < m → 0 < f t → (a : ℕ) × (a < n) × (name a ≡ t)) → total f m ≤ n
total-covered f name n m most below covers =
    let each : (t : ℕ) → t < m → f t ≤ total (λ a. at_place t (name a)) n = λ t l. ⊎_elim
    (λ some.
    let (a, h, is) = covers t l some in
    let one = ap from_bool (eq-eqb (name a) t is) in
    omega (arith, most t l, one, total-term (λ c. at_place t (name c)) a n h))
    (λ none. omega (arith, none))
    (cases_lt 0 (f t)) in
    let all = total-le f (λ t. total (λ a. at_place t (name a)) n) m each in
    let once : (a : ℕ) → a < n → total (λ t. at_place t (name a)) m ≡ 1 = λ a l. total-same (λ t. at_place t (name a)) (λ t. 1 * at_place t (name a)) m (λ t h. omega arith) ∙ total-at_place (λ t. 1) (name a) m (below a l) in
    let ones = total-same (λ a. total (λ t. at_place t (name a)) m) (λ a. 1) n once in
    omega (arith, all, total-swap (λ t a. at_place t (name a)) m n, ones, total-const 1 n)

-- the value of the node that a preimage has under place 0
abbrev pub node_at : LocalRule → Config → ℕ
node_at r x = value r.states (node_under r x (pos 0))

-- the node is a node
pub node_at-below : (r : LocalRule) {x : Config} → IsConfig r.states x → node_at r x < node_count r
node_at-below r {x} hx = value-node r (node_under r x (pos 0)) (IsWord-run hx _ (r.width - 1)) (length-run x _ (r.width - 1))

-- if u stands before place 0 of the image and v behind it, the node under place 0 is at the cut of u and v
pub at_cut : {r : LocalRule} {x y : Config} {u v : List ℕ} → IsRule r → IsConfig r.states x → image_of r x ≡ y
    → run y (pos 0 -ℤ pos (length u)) (length u) ≡ u → run y (pos 0) (length v) ≡ v → IsLastNode r u (node_at r x) × IsFirstNode r v (node_at r x)
at_cut {r} {x} {y} {u} {v} rule hx maps before behind =
    let d = r.width - 1 in
    let o = r.offset in
    let s : ℤ = pos 0 -ℤ pos (length u) in (
      record {
        x = run x (s +ℤ o) (length u + d);
        preimage = record { word = IsWord-run hx (s +ℤ o) (length u + d); long = length-run x (s +ℤ o) (length u + d); maps = image-run rule x s (s +ℤ o) (length u) refl ∙ ap (λ (c : Config). run c s (length u)) maps ∙ before };
        last = ap (value r.states) (drop-run x (s +ℤ o) (pos 0 +ℤ o) (length u) d (omega (arith, ints)));
      },
      record {
        x = run x (pos 0 +ℤ o) (length v + d);
        preimage = record { word = IsWord-run hx (pos 0 +ℤ o) (length v + d); long = length-run x (pos 0 +ℤ o) (length v + d); maps = image-run rule x (pos 0) (pos 0 +ℤ o) (length v) refl ∙ ap (λ (c : Config). run c (pos 0) (length v)) maps ∙ behind };
        first = ap (value r.states) (take-run x (pos 0 +ℤ o) (length v + d) d (omega arith));
      },
    )

-- at each cut there are as many nodes as a configuration has preimages, at least
enough_nodes : {r : LocalRule} {n : ℕ} → IsRule r → IsOpen r → IsToOne r n → (u v : List ℕ) → IsWord r.states u → IsWord r.states v → n ≤ cut r u v
enough_nodes {r} {n} rule closing to_one u v hu hv =
    let k = r.states in
    let w = u ++ v in
    let s : ℤ = pos 0 -ℤ pos (length u) in
    let y : Config = written zeros s w in
    let hy = IsConfig-written {x = zeros} (some_letter rule) (λ i. some_letter rule) s w (All-append (λ a. a < k) u v hu hv) in
    let (xs, are) = to_one y hy in
    let parts : run y s (length u) ++ run y (pos 0) (length v) ≡ u ++ v = sym (run-append y s (pos 0) (length u) (length v) (omega (arith, ints))) ∙ ap (run y s) (sym (length-append u v)) ∙ run-written zeros s w in
    let before : run y s (length u) ≡ u = sym (take_at (run y s (length u)) (run y (pos 0) (length v)) (length u) (length-run y s (length u))) ∙ ap (take (length u)) parts ∙ take_at u v (length u) refl in
    let behind : run y (pos 0) (length v) ≡ v = sym (drop_at (run y s (length u)) (run y (pos 0) (length v)) (length u) (length-run y s (length u))) ∙ ap (drop (length u)) parts ∙ drop_at u v (length u) refl in
    let apart = (IsOpen-separated rule).0 closing in
    total-named (λ t. ends r u t * reads r v t) (λ a. node_at r (xs a)) n (node_count r)
    (λ a l. let below = node_at-below r {x = xs a} (are.configs a l) in (below, (cut_nodes rule u v (node_at r (xs a)) below).1 (at_cut rule (are.configs a l) (are.maps a l) before behind)))
    (λ a b ha hb same. same_number are (pos 0) (λ x z hx hz mx mz. apart x z (pos 0 +ℤ r.offset) hx hz (mx ∙ sym mz)) a b ha hb
    (value-injective k _ _ (IsWord-run (are.configs a ha) _ (r.width - 1)) (IsWord-run (are.configs b hb) _ (r.width - 1)) (length-run (xs a) _ (r.width - 1) ∙ sym (length-run (xs b) _ (r.width - 1))) same))

-- at the cut of long words of zeros there are no more nodes
few_nodes : {r : LocalRule} {n : ℕ} → IsRule r → IsOpen r → IsToOne r n
    → (u : List ℕ) × (v : List ℕ) × IsWord r.states u × IsWord r.states v × (cut r u v ≤ n)
few_nodes {r} {n} rule closing to_one =
    let k = r.states in
    let d = r.width - 1 in
    let (l, followed) = IsFollowed-open rule closing in
    let u : List ℕ = replicate l 0 in
    let v : List ℕ = replicate (l + 1) 0 in
    let long_u : length u ≡ l = length-replicate {A = ℕ} l 0 in
    let long_v : length v ≡ l + 1 = length-replicate {A = ℕ} (l + 1) 0 in
    let hu : IsWord k u = All-replicate (λ a. a < k) l 0 (some_letter rule) in
    let hv : IsWord k v = All-replicate (λ a. a < k) (l + 1) 0 (some_letter rule) in
    let only_zeros = All-append (λ a. a ≡ 0) u v (All-replicate (λ a. a ≡ 0) l 0 refl) (All-replicate (λ a. a ≡ 0) (l + 1) 0 refl) in
    let h0 : IsConfig k zeros = λ i. some_letter rule in
    let (xs, are) = to_one zeros h0 in
    let s : ℤ = pos 0 -ℤ pos l in (
      u,
      v,
      hu,
      hv,
      total-covered (λ t. ends r u t * reads r v t) (λ a. node_at r (xs a)) n (node_count r)
          (λ t h. (both_of (ends r u t) (reads r v t) (sign-most _) (sign-most _)).0)
          (λ a h. node_at-below r {x = xs a} (are.configs a h))
          (λ t h some.
          let nodes = (cut_nodes rule u v t h).0 some in
          let (w, p, node) = through rule nodes.0 nodes.1 in
          let x : Config = written zeros (s +ℤ r.offset) w in
          let hx : IsConfig k x = IsConfig-written {x = zeros} (some_letter rule) h0 (s +ℤ r.offset) w p.word in
          let size : length w ≡ l + (l + 1) + d = omega (arith, p.long, length-append u v, long_u, long_v) in
          let agree : (j : ℤ) → (pos 0 -ℤ pos l) ≤ℤ j → j ≤ℤ (pos 0 +ℤ pos l) → image_of r x j ≡ zeros j = λ j low high.
          let a = unsigned_abs (j -ℤ s) in
          let at : s +ℤ pos a ≡ j = omega (arith, ints, low) in
          let within : a < l + (l + 1) = omega (arith, ints, low, high) in
          ap (image_of r x) (sym at) ∙ image_of-written rule zeros s w a (omega (arith, size, within)) ∙ ap (λ z. get_or z a 0) p.maps ∙ only_zeros a 0 (omega (arith, within, length-append u v, long_u, long_v)) in
          let (z, hz, maps, under) = followed zeros (pos 0) h0 x hx agree in
          let (a, below, is) = are.all z hz maps in
          let part : node_under r x (pos 0) ≡ take d (drop (length u) w) =
          sym (take-run x (pos 0 +ℤ r.offset) ((l + 1) + d) d (omega arith))
          ∙ ap (take d) (sym (drop-run x (s +ℤ r.offset) (pos 0 +ℤ r.offset) l ((l + 1) + d) (omega (arith, ints))))
          ∙ ap (λ (i : ℕ). take d (drop l (run x (s +ℤ r.offset) i))) (omega (arith, size))
          ∙ ap₂ (λ (i : ℕ) (q : List ℕ). take d (drop i q)) (sym long_u) (run-written zeros (s +ℤ r.offset) w) in
          (a, below, ap (λ (c : Config). node_at r c) is ∙ ap (value k) (under ∙ part) ∙ node)),
    )

-- under an open rule the number of preimages is the degree
pub IsDegree-open : {r : LocalRule} {n : ℕ} → IsRule r → IsOpen r → IsToOne r n → IsDegree r n
IsDegree-open {r} {n} rule closing to_one =
    let (u, v, hu, hv, few) = few_nodes rule closing to_one in
    let exact : cut r u v ≡ n = omega (arith, few, enough_nodes rule closing to_one u v hu hv) in
    record {
      before = u;
      after = v;
      attained = subst (HasCutNodes r u v) exact (cut_set rule u v hu hv);
      least = λ x y e has. omega (arith, count_cut rule has, enough_nodes rule closing to_one x y has.before has.after);
    }

-- an open rule has n preimages of each configuration exactly if its degree is n
pub IsToOne-degree : {r : LocalRule} {n : ℕ} → IsRule r → IsOpen r → IsToOne r n ↔ IsDegree r n
IsToOne-degree {r} {n} rule closing = (
  λ to_one. IsDegree-open rule closing to_one,
  λ degree.
      let (c, to_one) = (IsOpen-constant_to_one rule).0 closing in
      subst (IsToOne r) (IsDegree-unique (IsDegree-open rule closing to_one) degree) to_one,
)

-- a rule is injective exactly if it is open and has degree 1
pub IsInjective-degree : {r : LocalRule} → IsRule r → IsInjective r ↔ (IsOpen r × IsDegree r 1)
IsInjective-degree {r} rule = (
  λ injective.
      let to_one = (IsInjective-one rule).0 injective in
      let closing = (IsOpen-constant_to_one rule).1 (1, to_one) in
      (closing, IsDegree-open rule closing to_one),
  λ both. (IsInjective-one rule).1 ((IsToOne-degree rule both.0).1 both.1),
)
