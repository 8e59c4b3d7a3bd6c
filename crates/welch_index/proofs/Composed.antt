-- The composition of two rules: its cuts and its walks have at least as many nodes as the two rules say together.
use Rattle.std.proofs.Common.{append_assoc, mul-le-mul_left, ◌≡◌, ℕ, ◌+◌, ◌-◌, ◌*◌, ◌<◌, ◌≤◌, List, ◌++◌, length, take, drop, replicate, refl, sym, ap, ap₂, ◌∙◌, subst, ⊎_elim, arith, length-append, length-drop, length-take-le, take-append-drop, take_at, drop_at, drop-drop, eq-eqb}
use Rattle.std.proofs.Math.Seq.{drop-append-add}
use Rattle.std.proofs.lemmas.List.{drop-take, length-replicate}
use Rattle.std.proofs.lemmas.List.Elements.{All-replicate}
use Rattle.word_image.proofs.Common.{cases_lt, from_bool, All-append, All-take, All-drop, LocalRule, IsRule, IsWord, value, word_of, image, image-take, image-drop, IsWord-image, length-image, value-node, word_of-value, length-word_of, IsWord-word_of, IsPreimage, IsLastNode, node_count, some_letter}
use Rattle.pair_laws.proofs.Common.{image-join}
use Rattle.rule_algebra.specs.Algebra.{IsComposed}
use Rattle.welch_index.specs.Fewest.{IsFirstNode}
use Rattle.welch_index.proofs.Totals.{total, total-le, total-mul, total-swap, total-term, total-one, at_place, sign-most}
use Rattle.welch_index.proofs.Pulls.{pull}
use Rattle.welch_index.proofs.Cuts.{reads, ends, spelled, cut}
use Rattle.welch_index.proofs.Links.{through}
use Rattle.welch_index.proofs.Products.{cut_nodes, both_of}
use Rattle.welch_index.proofs.Open.{place-most, place-same}
use Rattle.welch_index.proofs.Multipliers.{one_walk, walk_end, sum_of_ends}

-- the rule g maps each word as f and then s
pub record IsAfter (f s g : LocalRule) : Type 0 where
  pub one : IsRule f
  pub two : IsRule s
  pub all : IsRule g
  pub same : s.states ≡ f.states
  pub states : g.states ≡ f.states
  pub width : g.width - 1 ≡ (f.width - 1) + (s.width - 1)
  pub images : (x : List ℕ) → IsWord f.states x → g.width - 1 ≤ length x → image g x ≡ image s (image f x)

-- a composition maps as the first rule and then the second
pub IsAfter-composed : {f s g : LocalRule} → IsRule f → IsRule s → IsRule g → s.states ≡ f.states → IsComposed f s g → IsAfter f s g
IsAfter-composed one two all same h =
    record {
      one = one;
      two = two;
      all = all;
      same = same;
      states = h.states;
      width = omega (arith, h.width, one.shape.least_width, two.shape.least_width);
      images = λ x word long. h.images x word (omega (arith, long));
    }

-- a preimage under f of a preimage under s is a preimage under g
pub IsPreimage-after : {f s g : LocalRule} {w y x : List ℕ} → IsAfter f s g → IsPreimage s w y → IsPreimage f y x → IsPreimage g w x
IsPreimage-after {f} {s} {g} {w} {y} {x} h p q =
    record {
      word = subst (λ k. IsWord k x) (sym h.states) q.word;
      long = omega (arith, p.long, q.long, h.width);
      maps = h.images x q.word (omega (arith, p.long, q.long, h.width)) ∙ ap (image s) q.maps ∙ p.maps;
    }

-- the m - 1 letters of a preimage at the cut between two words are a node at the cut
cut_node : {r : LocalRule} {u v x : List ℕ} → IsRule r → IsPreimage r (u ++ v) x
    → IsLastNode r u (value r.states (take (r.width - 1) (drop (length u) x))) × IsFirstNode r v (value r.states (take (r.width - 1) (drop (length u) x)))
cut_node {r} {u} {v} {x} rule p =
    let d = r.width - 1 in
    let n = length u in
    let parts = length-append u v in
    let back : n + d - d ≡ n = omega arith in (
      record {
        x = take (n + d) x;
        preimage = record {
          word = All-take (λ a. a < r.states) (n + d) x p.word;
          long = length-take-le (n + d) x (omega (arith, p.long, parts));
          maps = image-take rule (n + d) x ∙ ap₂ (λ (i : ℕ) (z : List ℕ). take i z) back p.maps ∙ take_at u v n refl;
        };
        last = ap (value r.states) (drop-take n d x);
      },
      record {
        x = drop n x;
        preimage = record {
          word = All-drop (λ a. a < r.states) n x p.word;
          long = omega (arith, length-drop n x, p.long, parts);
          maps = image-drop r n x ∙ ap (drop n) p.maps ∙ drop_at u v n refl;
        };
        first = refl;
      },
    )

-- a number is counted at most once
once : (y b n : ℕ) → total (λ t. y * at_place b t) n ≤ y
once y b n =
    let few = total-one (at_place b) n (λ i l. place-most b i) (λ i j hi hj si sj. place-same b i si ∙ sym (place-same b j sj)) in
    let times = mul-le-mul_left y few in
    omega (arith, times, total-mul y (at_place b) n)

-- if each number at which the first sum has a term comes from a number at which the second has one, the first sum is no greater, if its terms are at most 1
total-mapped : (f h back : ℕ → ℕ) (n m : ℕ) → ((t : ℕ) → t < n → f t ≤ 1) → ((t : ℕ) → t < n → 0 < f t → (x : ℕ) × (x < m) × (0 < h x) × (back x ≡ t)) → total f n ≤ total h m
total-mapped f h back n m most from =
    let each : (t : ℕ) → t < n → f t ≤ total (λ x. h x * at_place (back x) t) m = λ t l. ⊎_elim
    (λ some.
    let (x, below, has, is) = from t l some in
    let one : at_place (back x) t ≡ 1 = ap from_bool (eq-eqb t (back x) (sym is)) in
    let times : h x * at_place (back x) t ≡ h x * 1 = ap (λ y. h x * y) one in
    omega (arith, most t l, has, times, total-term (λ y. h y * at_place (back y) t) x m below))
    (λ none. omega (arith, none))
    (cases_lt 0 (f t)) in
    let all = total-le f (λ t. total (λ x. h x * at_place (back x) t) m) n each in
    let least = total-le (λ x. total (λ t. h x * at_place (back x) t) n) h m (λ x l. once (h x) (back x) n) in
    omega (arith, all, least, total-swap (λ t x. h x * at_place (back x) t) n m)

-- if to each number at which the first sum has a term belong at least c terms of the second, the second is at least c times the first, if its terms are at most 1
total-pairs : (f h over : ℕ → ℕ) (c n m : ℕ) → ((p : ℕ) → p < n → f p ≤ 1) → ((p : ℕ) → p < n → 0 < f p → c ≤ total (λ x. h x * at_place (over x) p) m) → c * total f n ≤ total h m
total-pairs f h over c n m most from =
    let each : (p : ℕ) → p < n → c * f p ≤ total (λ x. h x * at_place (over x) p) m = λ p l. ⊎_elim
    (λ some. let one : c * f p ≡ c * 1 = ap (λ y. c * y) (omega (arith, some, most p l)) in omega (arith, one, from p l some))
    (λ none. let zeroth : c * f p ≡ c * 0 = ap (λ y. c * y) (omega (arith, none)) in omega (arith, zeroth))
    (cases_lt 0 (f p)) in
    let all = total-le (λ p. c * f p) (λ p. total (λ x. h x * at_place (over x) p) m) n each in
    let least = total-le (λ x. total (λ p. h x * at_place (over x) p) n) h m (λ x l. once (h x) (over x) n) in
    omega (arith, all, least, total-mul c f n, total-swap (λ p x. h x * at_place (over x) p) n m)

-- a term that is marked counts whole
marked : (y b p : ℕ) → 0 < y → b ≡ p → 0 < y * at_place b p
marked y b p some same =
    let one : at_place b p ≡ 1 = ap from_bool (eq-eqb p b (sym same)) in
    let times : y * at_place b p ≡ y * 1 = ap (λ z. y * z) one in
    omega (arith, some, times)

-- the image under f of a node of g, which is a node of s, and the last letters of a node of g, which are a node of f
abbrev over_node : LocalRule → LocalRule → LocalRule → ℕ → ℕ
over_node f s g x = value s.states (image f (word_of g.states (g.width - 1) x))

abbrev last_part : LocalRule → LocalRule → LocalRule → ℕ → ℕ
last_part f s g x = value f.states (drop (s.width - 1) (word_of g.states (g.width - 1) x))

-- the letters of a node
letters_of : (g : LocalRule) (z : List ℕ) → IsWord g.states z → length z ≡ g.width - 1 → word_of g.states (g.width - 1) (value g.states z) ≡ z
letters_of g z word long = ap (λ n. word_of g.states n (value g.states z)) (sym long) ∙ word_of-value g.states z word

-- at each cut there are at least c nodes of the composition for each node of the second rule, if the first rule has at least c nodes at each cut
pub cut-after : {f s g : LocalRule} → IsAfter f s g → (c : ℕ) → ((u v : List ℕ) → IsWord f.states u → IsWord f.states v → c ≤ cut f u v) → (u v : List ℕ)
    → c * cut s u v ≤ cut g u v
cut-after {f} {s} {g} h c least u v =
    let a = f.width - 1 in
    let b = s.width - 1 in
    let n = length u in
    let mark : ℕ → ℕ = λ x. ends g u x * reads g v x in
    total-pairs (λ p. ends s u p * reads s v p) mark (over_node f s g) c (node_count s) (node_count g) (λ p l. (both_of (ends s u p) (reads s v p) (sign-most _) (sign-most _)).0) (λ p l some.
    let nodes = (cut_nodes h.two u v p l).0 some in
    let (y, py, node) = through h.two nodes.0 nodes.1 in
    let hy : IsWord f.states y = subst (λ k. IsWord k y) h.same py.word in
    let y1 = take (n + b) y in
    let y2 = drop (n + b) y in
    let whole : y1 ++ y2 ≡ y = take-append-drop (n + b) y in
    let long : length y1 ≡ n + b = length-take-le (n + b) y (omega (arith, py.long, length-append u v)) in
    let enough = least y1 y2 (All-take (λ d. d < f.states) (n + b) y hy) (All-drop (λ d. d < f.states) (n + b) y hy) in
    let mapped = total-mapped (λ t. ends f y1 t * reads f y2 t) (λ x. mark x * at_place (over_node f s g x) p) (last_part f s g) (node_count f) (node_count g)
    (λ t lt. (both_of (ends f y1 t) (reads f y2 t) (sign-most _) (sign-most _)).0) (λ t lt some_f.
    let inner = (cut_nodes h.one y1 y2 t lt).0 some_f in
    let (x, px, at) = through h.one inner.0 inner.1 in
    let pg = IsPreimage-after h py (subst (λ z. IsPreimage f z x) whole px) in
    let xs = take (g.width - 1) (drop n x) in
    let hxs : IsWord g.states xs = All-take (λ d. d < g.states) (g.width - 1) (drop n x) (All-drop (λ d. d < g.states) n x pg.word) in
    let lxs : length xs ≡ g.width - 1 = length-take-le (g.width - 1) (drop n x) (omega (arith, length-drop n x, pg.long, length-append u v)) in
    let node_g = value g.states xs in
    let below : node_g < node_count g = value-node g xs hxs lxs in
    let cut_g = cut_node h.all pg in
    let here = (cut_nodes h.all u v node_g below).1 cut_g in
    let letters = letters_of g xs hxs lxs in
    let image_x : image f x ≡ y = px.maps ∙ whole in
    let less : g.width - 1 - a ≡ b = omega (arith, h.width) in
    let above : over_node f s g node_g ≡ p =
    ap (λ z. value s.states (image f z)) letters ∙ ap (value s.states) (image-take h.one (g.width - 1) (drop n x) ∙ ap₂ (λ (i : ℕ) (z : List ℕ). take i z) less (image-drop f n x ∙ ap (drop n) image_x)) ∙ node in
    let width : g.width - 1 ≡ b + a = omega (arith, h.width) in
    let behind : last_part f s g node_g ≡ t =
    ap (λ z. value f.states (drop b z)) letters
    ∙ ap (value f.states) (ap (λ i. drop b (take i (drop n x))) width ∙ drop-take b a (drop n x) ∙ ap (take a) (drop-drop b n x ∙ ap (λ i. drop i x) (sym long))) ∙ at in
    (node_g, below, marked (mark node_g) (over_node f s g node_g) p here above, behind)) in
    omega (arith, enough, mapped))

-- if c walks of the first rule, and no fewer for each longer word, begin at u and spell w0, the composition has at least c walks from some node for each walk of the second rule from the node p that spells w
pub walks-after : {f s g : LocalRule} → IsAfter f s g → ((w : List ℕ) → IsWord f.states w → spelled f w ≡ node_count f) → ((w : List ℕ) → IsWord s.states w → spelled s w ≡ node_count s)
    → (c u : ℕ) (w0 : List ℕ) → u < node_count f → IsWord f.states w0 → ((z : List ℕ) → IsWord f.states z → pull f (w0 ++ z) (λ q. 1) u ≡ c)
    → (p : ℕ) (w : List ℕ) → p < node_count s → IsWord s.states w
    → (x : ℕ) × (z : List ℕ) × (x < node_count g) × IsWord g.states z × (c * pull s w (λ q. 1) p ≤ pull g z (λ q. 1) x)
walks-after {f} {s} {g} h every_f every_s c u w0 lu hw0 stays p w lp hw =
    let k = f.states in
    let a = f.width - 1 in
    let b = s.width - 1 in
    let Below : ℕ → Type 0 = λ d. d < k in
    let into : (z : List ℕ) → IsWord s.states z → IsWord k z = λ z hz. subst (λ i. IsWord i z) h.same hz in
    let onto : (z : List ℕ) → IsWord k z → IsWord s.states z = λ z hz. subst (λ i. IsWord i z) (sym h.same) hz in
    let over : (z : List ℕ) → IsWord k z → IsWord g.states z = λ z hz. subst (λ i. IsWord i z) (sym h.states) hz in
    let us = word_of k a u in
    let hus = IsWord-word_of k a u lu in
    let lus = length-word_of k a u in
    let ps = word_of s.states b p in
    let lps = length-word_of s.states b p in
    let zs : List ℕ = replicate b 0 in
    let hzs : IsWord k zs = All-replicate Below b 0 (some_letter h.one) in
    let lzs : length zs ≡ b = length-replicate {A = ℕ} b 0 in
    let start = zs ++ us in
    let h_start = All-append Below zs us hzs hus in
    let l_start : length start ≡ b + a = omega (arith, length-append zs us, lzs, lus) in
    let sigma = image f start in
    let l_sigma : length sigma ≡ b = omega (arith, length-image f start, l_start) in
    let front = sigma ++ w0 in
    let l_front : length front ≡ b + length w0 = omega (arith, length-append sigma w0, l_sigma) in
    let word = image s (front ++ ps) ++ w in
    let first_part : length (image s (front ++ ps)) ≡ length front = omega (arith, length-image s (front ++ ps), length-append front ps, lps) in
    let l_word : length word ≡ length front + length w = omega (arith, length-append (image s (front ++ ps)) w, first_part) in
    let h_word : IsWord g.states word = over word (into word (All-append (λ d. d < s.states) (image s (front ++ ps)) w (IsWord-image h.two (front ++ ps)) hw)) in
    let node = value g.states start in
    let wide : b + a ≡ g.width - 1 = omega (arith, h.width) in
    let l_node : node < node_count g = value-node g start (over start h_start) (l_start ∙ wide) in
    let mark : ℕ → ℕ = λ e. pull g word (at_place e) node in
    let pairs = total-pairs (λ q. pull s w (at_place q) p) mark (over_node f s g) c (node_count s) (node_count g) (λ q lq. one_walk h.two every_s w hw p q lp lq) (λ q lq some.
    let second = (walk_end h.two p lp w q).0 some in
    let y = second.x in
    let py = second.preimage in
    let hy = into y py.word in
    let begins : take b y ≡ ps = sym (word_of-value s.states (take b y) (All-take (λ d. d < s.states) b y py.word)) ∙ ap₂ (word_of s.states) (length-take-le b y (omega (arith, py.long))) second.first in
    let v = w0 ++ y in
    let hv = All-append Below w0 y hw0 hy in
    let lv : length v ≡ length w0 + (length w + b) = omega (arith, length-append w0 y, py.long) in
    let image_s : image s (front ++ y) ≡ word =
    ap (image s) (ap (λ z. front ++ z) (sym (take-append-drop b y) ∙ ap (λ z. z ++ drop b y) begins) ∙ sym (append_assoc front ps (drop b y)))
    ∙ image-join h.two (length front) (front ++ ps) y (omega (arith, length-append front ps, lps)) (drop_at front ps (length front) refl ∙ sym begins) ∙ ap (λ z. image s (front ++ ps) ++ z) py.maps in
    let ps_all : IsPreimage s word (front ++ y) = record {
      word = onto (front ++ y) (All-append Below front y (All-append Below sigma w0 (IsWord-image h.one start) hw0) hy);
      long = omega (arith, length-append front y, py.long, l_word);
      maps = image_s;
    } in
    let total_f : total (λ t. pull f v (at_place t) u) (node_count f) ≡ c = sum_of_ends h.one v u lu ∙ stays y hy in
    let mapped = total-mapped (λ t. pull f v (at_place t) u) (λ e. mark e * at_place (over_node f s g e) q) (last_part f s g) (node_count f) (node_count g)
    (λ t lt. one_walk h.one every_f v hv u t lu lt) (λ t lt some_f.
    let first = (walk_end h.one u lu v t).0 some_f in
    let x = first.x in
    let px = first.preimage in
    let begins_x : take a x ≡ us = sym (word_of-value k (take a x) (All-take Below a x px.word)) ∙ ap₂ (word_of k) (length-take-le a x (omega (arith, px.long))) first.first in
    let whole : start ++ drop a x ≡ zs ++ x = append_assoc zs us (drop a x) ∙ ap (λ z. zs ++ z) (ap (λ z. z ++ drop a x) (sym begins_x) ∙ take-append-drop a x) in
    let image_f : image f (zs ++ x) ≡ front ++ y =
    ap (image f) (sym whole) ∙ image-join h.one b start x l_start (drop_at zs us b lzs ∙ sym begins_x) ∙ ap (λ z. sigma ++ z) px.maps ∙ sym (append_assoc sigma w0 y) in
    let px_all : IsPreimage f (front ++ y) (zs ++ x) = record {
      word = All-append Below zs x hzs px.word;
      long = omega (arith, length-append zs x, length-append front y, l_front, lzs, px.long, lv, py.long);
      maps = image_f;
    } in
    let pg = IsPreimage-after h ps_all px_all in
    let es = drop (length word) (zs ++ x) in
    let hes : IsWord g.states es = All-drop (λ d. d < g.states) (length word) (zs ++ x) pg.word in
    let les : length es ≡ g.width - 1 = omega (arith, length-drop (length word) (zs ++ x), pg.long) in
    let e = value g.states es in
    let le : e < node_count g = value-node g es hes les in
    let starts : take (g.width - 1) (zs ++ x) ≡ start = ap (λ i. take i (zs ++ x)) (sym (l_start ∙ wide)) ∙ ap (take (length start)) (sym whole) ∙ take_at start (drop a x) (length start) refl in
    let here = (walk_end h.all node l_node word e).1 (record { x = zs ++ x; preimage = pg; first = ap (value g.states) starts; last = refl }) in
    let letters = letters_of g es hes les in
    let above : over_node f s g e ≡ q =
    ap (λ z. value s.states (image f z)) letters
    ∙ ap (value s.states) (image-drop f (length word) (zs ++ x) ∙ ap (drop (length word)) image_f ∙ ap (λ i. drop i (front ++ y)) l_word ∙ drop-append-add front y (length w)) ∙ second.last in
    let far : b + length word ≡ length v + b = omega (arith, l_word, l_front, lv) in
    let behind : last_part f s g e ≡ t =
    ap (λ z. value k (drop b z)) letters
    ∙ ap (value k) (drop-drop b (length word) (zs ++ x) ∙ ap (λ i. drop i (zs ++ x)) (omega (arith, far, lzs)) ∙ drop-append-add zs x (length v)) ∙ first.last in
    (e, le, marked (mark e) (over_node f s g e) q here above, behind)) in
    omega (arith, total_f, mapped)) in
    (node, word, l_node, h_word, omega (arith, subst (λ y. c * y ≤ total mark (node_count g)) (sum_of_ends h.two w p lp) pairs, sum_of_ends h.all word node l_node))
