-- How many preimages a word has. All words w v w, where v has m - 1 letters, have together as many as there are pairs of preimages of w.
use Rattle.std.proofs.Common.{◌≡◌, ℕ, zero, suc, ◌+◌, ◌-◌, ◌*◌, ◌^◌, ◌<◌, ◌≤◌, ◌↔◌, Bool, Decides, ltb, eqb, lt-ltb, le-ltb, List, ◌++◌, length, take, drop, refl, sym, ap, ap₂, ◌∙◌, subst, ⊎_elim, arith, bytes_eq, length-append, length-drop, length-take-le, append_assoc, take-append-drop, pow-add, take_at, drop_at, le_of_mul-le-mul_right}
use Rattle.std.proofs.lemmas.Slice.Eq.{bytes_eq-Decides}
use Rattle.std.proofs.lemmas.Bool.Decides.{Decides-like}
use Rattle.word_image.proofs.Common.{nat_tests, Decides-eqb, same_from_decides, drop-append-le, mul-add-lt, same_from_place, All-take, All-drop, All-append, LocalRule, IsRule, IsWord, value, word_of, node_count, image, IsPreimage, IsSurjective, IsErasable, value-below, value-node, value-word_of, word_of-value, length-word_of, IsWord-word_of, IsWord-image, length-image, image-take, image-drop, some_below, twice_below}
use Rattle.pair_laws.proofs.Common.{image-cut}
use Rattle.garden_laws.specs.ZeroPairs.{count_below}
use Rattle.garden_laws.proofs.Counts.{nth, nth-passes, nth-place, count_below-agree, count_below-never, count_below-split, count_below-all}
use Rattle.garden_laws.proofs.Injections.{less_or_not, pairs-le, parts-le}
use Rattle.garden_laws.proofs.PairEnds.{last-below}
use Rattle.garden_laws.proofs.Exchange.{IsErasable-nodes}

-- how many preimages a word has
unfoldable pub count_of : LocalRule → List ℕ → ℕ
count_of r w = count_below (λ a. bytes_eq (image r (word_of r.states (length w + (r.width - 1)) a)) w) (r.states ^ (length w + (r.width - 1)))

-- the preimages of a word, numbered: which they are, and the number of each
pub record Counted (r : LocalRule) (w : List ℕ) : Type 0 where
  pub at : ℕ → List ℕ
  pub place : List ℕ → ℕ
  pub preimage : (i : ℕ) → i < count_of r w → IsPreimage r w (at i)
  pub forth : (i : ℕ) → i < count_of r w → place (at i) ≡ i
  pub back : (x : List ℕ) → IsPreimage r w x → (place x < count_of r w) × (at (place x) ≡ x)

-- the preimages of a word can be numbered
pub counted : (r : LocalRule) (w : List ℕ) → Counted r w
unfolding count_of
counted r w =
    let k : ℕ = r.states in
    let n : ℕ = length w + (r.width - 1) in
    let p : ℕ → Bool = λ a. bytes_eq (image r (word_of k n a)) w in
    let is : (a : ℕ) → Decides (p a) (image r (word_of k n a) ≡ w) = λ a. bytes_eq-Decides (image r (word_of k n a)) w in
    record {
      at = λ i. word_of k n (nth p (k ^ n) i);
      place = λ x. count_below p (value k x);
      preimage = λ i l.
          let at = nth-passes p (k ^ n) i l in
          record { word = IsWord-word_of k n (nth p (k ^ n) i) at.0; long = length-word_of k n (nth p (k ^ n) i); maps = (is (nth p (k ^ n) i)).0 at.1 };
      forth = λ i l. let at = nth-passes p (k ^ n) i l in ap (count_below p) (value-word_of k n (nth p (k ^ n) i) at.0) ∙ at.2;
      back = λ x q.
          let word : word_of k n (value k x) ≡ x = ap (λ j. word_of k j (value k x)) (sym q.long) ∙ word_of-value k x q.word in
          let there = nth-place p (k ^ n) (value k x) (subst (λ j. value k x < k ^ j) q.long (value-below k x q.word)) ((is (value k x)).1 (ap (image r) word ∙ q.maps)) in
          (there.0, ap (word_of k n) there.1 ∙ word);
    }

-- preimages of two words that are equal have one number, and the words are equal
same_preimage : (r : LocalRule) (v w : List ℕ) (i j : ℕ) → i < count_of r v → j < count_of r w → (counted r v).at i ≡ (counted r w).at j
    → (v ≡ w) × (i ≡ j)
same_preimage r v w i j hi hj e = grind arith

-- the word w, the letters of a node, and w again
abbrev woven : LocalRule → List ℕ → ℕ → List ℕ
woven r w v = w ++ (word_of r.states (r.width - 1) v ++ w)

-- a woven word is a word
IsWord-woven : (r : LocalRule) (w : List ℕ) (v : ℕ) → IsWord r.states w → v < node_count r → IsWord r.states (woven r w v)
IsWord-woven r w v hw hv =
    let Below : ℕ → Type 0 = λ a. a < r.states in
    let node : List ℕ = word_of r.states (r.width - 1) v in
    All-append Below w (node ++ w) hw (All-append Below node w (IsWord-word_of r.states (r.width - 1) v hv) hw)

-- the node that was woven in comes back
woven-injective : (r : LocalRule) (w : List ℕ) (u v : ℕ) → u < node_count r → v < node_count r → woven r w u ≡ woven r w v → u ≡ v
woven-injective r w u v hu hv e =
    let k : ℕ = r.states in
    let d : ℕ = r.width - 1 in
    let node : (a : ℕ) → a < node_count r → value k (take d (drop (length w) (woven r w a))) ≡ a = λ a h.
    ap (λ z. value k (take d z)) (drop_at w (word_of k d a ++ w) (length w) refl) ∙ ap (value k) (take_at (word_of k d a) w d (length-word_of k d a)) ∙ value-word_of k d a h in
    sym (node u hu) ∙ ap (λ z. value k (take d (drop (length w) z))) e ∙ node v hv

-- a preimage of a woven word begins with a preimage of w and ends with one
IsPreimage-ends : {r : LocalRule} {w z : List ℕ} → IsRule r → (v : ℕ) → IsPreimage r (woven r w v) z
    → IsPreimage r w (take (length w + (r.width - 1)) z) × IsPreimage r w (drop (length w + (r.width - 1)) z)
IsPreimage-ends {r} {w} {z} rule v p =
    let k : ℕ = r.states in
    let d : ℕ = r.width - 1 in
    let n : ℕ = length w + d in
    let u : List ℕ = word_of k d v in
    let node : length u ≡ d = length-word_of k d v in
    let long : length z ≡ n + n = omega (arith, p.long, length-append w (u ++ w), length-append u w) in
    let all : n - d ≡ length w = omega arith in (
      record {
        word = All-take (λ a. a < k) n z p.word;
        long = length-take-le n z (omega arith);
        maps = image-take rule n z ∙ ap₂ (λ (i : ℕ) (x : List ℕ). take i x) all p.maps ∙ take_at w (u ++ w) (length w) refl;
      },
      record {
        word = All-drop (λ a. a < k) n z p.word;
        long = omega (arith, length-drop n z);
        maps = image-drop r n z ∙ ap (drop n) (p.maps ∙ sym (append_assoc w u w)) ∙ drop_at (w ++ u) w n (omega (arith, length-append w u));
      },
    )

-- the letters between the images of two words, one behind the other, of which the first has l + m - 1 letters
abbrev seam : LocalRule → ℕ → List ℕ → List ℕ → List ℕ
seam r l x y = image r (take (r.width - 1 + (r.width - 1)) (drop l x ++ y))

-- two preimages of w, one behind the other, are a preimage of a woven word
IsPreimage-both : {r : LocalRule} {w x y : List ℕ} → IsRule r → IsPreimage r w x → IsPreimage r w y
    → (value r.states (seam r (length w) x y) < node_count r) × IsPreimage r (woven r w (value r.states (seam r (length w) x y))) (x ++ y)
IsPreimage-both {r} {w} {x} {y} rule p q =
    let k : ℕ = r.states in
    let d : ℕ = r.width - 1 in
    let l : ℕ = length w in
    let t : List ℕ = drop l x ++ y in
    let u : List ℕ = seam r l x y in
    let word : IsWord k u = IsWord-image rule (take (d + d) t) in
    let node : length (drop l x) ≡ d = omega (arith, length-drop l x, p.long) in
    let long : length u ≡ d = omega (arith, length-image r (take (d + d) t), length-take-le (d + d) t (omega (arith, length-append (drop l x) y, q.long))) in
    let middle : u ≡ word_of k d (value k u) = sym (ap (λ n. word_of k n (value k u)) (sym long) ∙ word_of-value k u word) in (
      value-node r u word long,
      record {
        word = All-append (λ a. a < k) x y p.word q.word;
        long = omega (arith, length-append x y, p.long, q.long, length-append w (word_of k d (value k u) ++ w), length-append (word_of k d (value k u)) w, length-word_of k d (value k u));
        maps = image-cut rule l (x ++ y)
            ∙ ap₂ (λ (a b : List ℕ). image r a ++ image r b) (take_at x y (l + d) p.long) (drop-append-le l x y (omega (arith, p.long)))
            ∙ ap₂ (λ (a b : List ℕ). a ++ b) p.maps (image-cut rule d t ∙ ap₂ (λ (a b : List ℕ). a ++ b) middle (ap (image r) (drop_at (drop l x) y d node) ∙ q.maps));
      },
    )

-- if each woven word has at least e preimages, they are no more than the pairs of preimages of w
woven-least : {r : LocalRule} → IsRule r → (w : List ℕ) (e : ℕ) → ((v : ℕ) → v < node_count r → e ≤ count_of r (woven r w v))
    → node_count r * e ≤ count_of r w * count_of r w
woven-least {r} rule w e least =
    let n : ℕ = length w + (r.width - 1) in
    let c : Counted r w = counted r w in
    let z : ℕ → ℕ → List ℕ = λ v i. (counted r (woven r w v)).at i in
    let within : (v i : ℕ) → v < node_count r → i < e → i < count_of r (woven r w v) = λ v i hv hi. omega (arith, least v hv) in
    let ends : (v i : ℕ) → v < node_count r → i < e → IsPreimage r w (take n (z v i)) × IsPreimage r w (drop n (z v i)) = λ v i hv hi.
    IsPreimage-ends rule v ((counted r (woven r w v)).preimage i (within v i hv hi)) in
    pairs-le (node_count r) e (count_of r w * count_of r w) (λ v i. c.place (take n (z v i)) * count_of r w + c.place (drop n (z v i)))
    (λ v i hv hi. let (p, q) = ends v i hv hi in mul-add-lt _ (count_of r w) _ (count_of r w) (c.back _ p).0 (c.back _ q).0)
    (λ u v i j hu hv hi hj same.
    let first = ends u i hu hi in
    let second = ends v j hv hj in
    let parts = same_from_place _ _ _ _ (count_of r w) (c.back _ first.1).0 (c.back _ second.1).0 same in
    let one : z u i ≡ z v j =
    sym (take-append-drop n (z u i))
    ∙ ap₂ (λ (a b : List ℕ). a ++ b) (sym (c.back _ first.0).1 ∙ ap c.at parts.0 ∙ (c.back _ second.0).1) (sym (c.back _ first.1).1 ∙ ap c.at parts.1 ∙ (c.back _ second.1).1)
    ∙ take-append-drop n (z v j) in
    let alike = same_preimage r (woven r w u) (woven r w v) i j (within u i hu hi) (within v j hv hj) one in
    (woven-injective r w u v hu hv alike.0, alike.1))

-- if each woven word has at most q preimages, there are no more pairs of preimages of w than q for each node
woven-most : {r : LocalRule} → IsRule r → (w : List ℕ) (q : ℕ) → ((v : ℕ) → v < node_count r → count_of r (woven r w v) ≤ q)
    → count_of r w * count_of r w ≤ q * node_count r
woven-most {r} rule w q most =
    let n : ℕ = length w + (r.width - 1) in
    let c : Counted r w = counted r w in
    let node : ℕ → ℕ → ℕ = λ a b. value r.states (seam r (length w) (c.at a) (c.at b)) in
    let z : ℕ → ℕ → List ℕ = λ a b. c.at a ++ c.at b in
    let place : ℕ → ℕ → ℕ = λ a b. (counted r (woven r w (node a b))).place (z a b) in
    let is : (a b : ℕ) → a < count_of r w → b < count_of r w → (node a b < node_count r) × (place a b < q) × ((counted r (woven r w (node a b))).at (place a b) ≡ z a b) = λ a b ha hb.
    let both = IsPreimage-both rule (c.preimage a ha) (c.preimage b hb) in
    let back = (counted r (woven r w (node a b))).back (z a b) both.1 in
    (both.0, omega (arith, back.0, most (node a b) both.0), back.1) in
    pairs-le (count_of r w) (count_of r w) (q * node_count r) (λ a b. node a b * q + place a b)
    (λ a b ha hb. let h = is a b ha hb in mul-add-lt _ q _ (node_count r) h.0 h.1)
    (λ a s b t ha hs hb ht same.
    let first = is a b ha hb in
    let second = is s t hs ht in
    let parts = same_from_place _ _ _ _ q first.1 second.1 same in
    let one : z a b ≡ z s t = sym first.2 ∙ ap₂ (λ v i. (counted r (woven r w v)).at i) parts.0 parts.1 ∙ second.2 in
    let long : (i : ℕ) → i < count_of r w → length (c.at i) ≡ n = λ i h. (c.preimage i h).long in
    let left : c.at a ≡ c.at s = sym (take_at (c.at a) (c.at b) n (long a ha)) ∙ ap (take n) one ∙ take_at (c.at s) (c.at t) n (long s hs) in
    let right : c.at b ≡ c.at t = sym (drop_at (c.at a) (c.at b) n (long a ha)) ∙ ap (drop n) one ∙ drop_at (c.at s) (c.at t) n (long s hs) in
    ((same_preimage r w w a s ha hs left).1, (same_preimage r w w b t hb ht right).1))

-- under a surjective rule no word has fewer preimages than there are nodes: else a woven word would have still fewer
pub no_fewer : {r : LocalRule} → IsRule r → IsSurjective r → (b : ℕ) (w : List ℕ) → IsWord r.states w → count_of r w ≤ b → node_count r ≤ count_of r w
no_fewer {r} rule every zero w hw few = let found = every w hw in absurd (omega (arith, ((counted r w).back found.0 found.1).0))
no_fewer {r} rule every (suc b) w hw few =
    let n : ℕ = count_of r w in
    let found = every w hw in
    let some : 0 < n = omega (arith, ((counted r w).back found.0 found.1).0) in
    ⊎_elim
    (λ (v, hv, less). let enough = no_fewer rule every b (woven r w v) (IsWord-woven r w v hw hv) (omega (arith, less)) in omega (arith, less, enough))
    (λ none. le_of_mul-le-mul_right (woven-least rule w n (λ v hv. omega (arith, none v hv))) some)
    (some_below (λ v. count_of r (woven r w v) < n) (λ v. less_or_not (count_of r (woven r w v)) n) (node_count r))

-- if a word has more preimages than there are nodes, some word has e more: some woven word always has still more
pub many_more : {r : LocalRule} → IsRule r → (w : List ℕ) → node_count r < count_of r w → (e : ℕ) → (z : List ℕ) × (node_count r + e < count_of r z)
many_more rule w more zero = (w, omega arith)
many_more {r} rule w more (suc e) =
    let (z, before) = many_more rule w more e in
    let n : ℕ = count_of r z in
    ⊎_elim
    (λ (v, hv, greater). (woven r z v, omega (arith, before, greater)))
    (λ none. let few : n ≤ node_count r = le_of_mul-le-mul_right {k = n} (omega (arith, woven-most rule z n (λ v hv. omega (arith, none v hv)))) (omega (arith, before)) in absurd (omega (arith, before)))
    (some_below (λ v. n < count_of r (woven r z v)) (λ v. less_or_not n (count_of r (woven r z v))) (node_count r))

-- of more preimages of a word than there are pairs of nodes two begin and end with the same nodes, and are an erasable pair
pub IsErasable-many : {r : LocalRule} → IsRule r → (w : List ℕ) → node_count r * node_count r < count_of r w
    → (x : List ℕ) × (y : List ℕ) × IsErasable r x y
IsErasable-many {r} rule w more =
    let d : ℕ = r.width - 1 in
    let c : Counted r w = counted r w in
    let first : ℕ → ℕ = λ i. value r.states (take d (c.at i)) in
    let last : ℕ → ℕ = λ i. value r.states (drop (length w) (c.at i)) in
    let front : (i : ℕ) → i < count_of r w → first i < node_count r = λ i l.
    let p = c.preimage i l in
    value-node r (take d (c.at i)) (All-take (λ a. a < r.states) d (c.at i) p.word) (length-take-le d (c.at i) (omega (arith, p.long))) in
    let back : (i : ℕ) → i < count_of r w → last i < node_count r = λ i l. let p = c.preimage i l in last-below r (length w) (c.at i) p.word p.long in
    let (i, j, less, most, same) = twice_below (node_count r * node_count r) (λ i. first i * node_count r + last i) (λ i l.
    mul-add-lt _ (node_count r) _ (node_count r) (front i (omega arith)) (back i (omega arith))) in
    let hi : i < count_of r w = omega (arith, less, most) in
    let hj : j < count_of r w = omega (arith, most) in
    let p = c.preimage i hi in
    let q = c.preimage j hj in
    let nodes = same_from_place _ _ _ _ (node_count r) (back i hi) (back j hj) same in (
      c.at i,
      c.at j,
      IsErasable-nodes (record { first = p.word; second = q.word; first_long = p.long; second_long = q.long; one_image = p.maps ∙ sym q.maps })
          (λ e. let one = (same_preimage r w w i j hi hj e).1 in omega (arith, less)) nodes.0 nodes.1,
    )

-- a word of l letters has as many preimages as words of l + m - 1 letters have an image of its value
count_of-value : {r : LocalRule} → IsRule r → (l c : ℕ) → c < r.states ^ l
    → count_below (λ x. eqb (value r.states (image r (word_of r.states (l + (r.width - 1)) x))) c) (r.states ^ (l + (r.width - 1))) ≡ count_of r (word_of r.states l c)
unfolding count_of
count_of-value {r} rule l c h =
    let k : ℕ = r.states in
    let d : ℕ = r.width - 1 in
    let w : List ℕ = word_of k l c in
    count_below-agree _ _ (k ^ (l + d)) (λ x below.
    let u : List ℕ = image r (word_of k (l + d) x) in
    let long : length u ≡ l = omega (arith, length-image r (word_of k (l + d) x), length-word_of k (l + d) x) in
    let word : word_of k l (value k u) ≡ u = ap (λ i. word_of k i (value k u)) (sym long) ∙ word_of-value k u (IsWord-image rule (word_of k (l + d) x)) in
    same_from_decides (eqb (value k u) c) (bytes_eq u w) (Decides-eqb (value k u) c)
    (Decides-like (bytes_eq u w) (λ e. ap (value k) e ∙ value-word_of k l c h) (λ e. sym word ∙ ap (word_of k l) e) (bytes_eq-Decides u w)))
    ∙ ap (λ i. count_below (λ x. bytes_eq (image r (word_of k (i + d) x)) w) (k ^ (i + d))) (sym (length-word_of k l c))

-- no word of l letters has more preimages than there are nodes exactly if none has fewer
pub even_level : {r : LocalRule} → IsRule r → (l : ℕ)
    → ((c : ℕ) → c < r.states ^ l → count_of r (word_of r.states l c) ≤ node_count r) ↔ ((c : ℕ) → c < r.states ^ l → node_count r ≤ count_of r (word_of r.states l c))
even_level {r} rule l =
    let k : ℕ = r.states in
    let n : ℕ = l + (r.width - 1) in
    let nodes : ℕ = node_count r in
    let class : ℕ → ℕ = λ x. value k (image r (word_of k n x)) in
    let count : ℕ → ℕ = λ c. count_of r (word_of k l c) in
    let upto : ℕ → ℕ = λ c. count_below (λ x. ltb (class x) c) (k ^ n) in
    let below : (x : ℕ) → class x < k ^ l = λ x.
    let long : length (image r (word_of k n x)) ≡ l = omega (arith, length-image r (word_of k n x), length-word_of k n x) in
    subst (λ i. class x < k ^ i) long (value-below k (image r (word_of k n x)) (IsWord-image rule (word_of k n x))) in
    let none : upto 0 ≡ 0 * nodes = count_below-never _ (k ^ n) (λ x h. le-ltb (class x) 0 (omega arith)) ∙ omega arith in
    let all : upto (k ^ l) ≡ k ^ l * nodes = count_below-all _ (k ^ n) (λ x h. lt-ltb (class x) (k ^ l) (below x)) ∙ pow-add k l (r.width - 1) in
    let step : (c : ℕ) → c < k ^ l → upto (suc c) ≡ upto c + count c = λ c h.
    count_below-split (λ x. ltb (class x) c) (λ x. eqb (class x) c) _ (k ^ n) (λ x. grind (arith, nat_tests)) ∙ ap (λ i. upto c + i) (count_of-value rule l c h) in
    let rows : (c : ℕ) → c < k ^ l → suc c * nodes ≡ c * nodes + nodes = λ c h. omega arith in (
      λ most. (parts-le count (λ c. nodes) upto (λ c. c * nodes) (k ^ l) step rows none most).1 (omega (arith, all)),
      λ least. (parts-le (λ c. nodes) count (λ c. c * nodes) upto (k ^ l) rows step (sym none) least).1 (omega (arith, all)),
    )
