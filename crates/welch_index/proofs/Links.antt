-- Walks in the de Bruijn graph, and the preimages of words that they spell.
use Rattle.std.proofs.Common.{take_at, length-append, ap₂, ◌≡◌, ℕ, suc, ◌+◌, ◌-◌, ◌*◌, ◌<◌, ◌≤◌, ◌↔◌, List, [], ◌∷◌, ◌++◌, length, take, drop, get_or, refl, sym, ap, ◌∙◌, subst, ⊎_elim, arith, append_assoc, append-nil, length-drop, length-take-le, take_all, drop-drop, eq-eqb, ne_eqb}
use Rattle.word_image.proofs.Common.{All-append, drop-append-le, cases_eq, from_bool, length_push, take-append-le, LocalRule, IsRule, value, word_of, image, IsPreimage, IsLastNode, node_count, next, label, All-drop, IsPreimage-empty, IsPreimage-push, local_map-label, value-next, value-node, value-word_of, length-word_of, IsWord-word_of, All-take}
use Rattle.pair_laws.proofs.Common.{image-first, value-first, image-cut, image-join, same_node}
use Rattle.welch_index.specs.Fewest.{IsFirstNode}
use Rattle.welch_index.proofs.Totals.{total-term, total-some, at_place, sign-some, some-sign}
use Rattle.welch_index.proofs.Pulls.{pull, fits}
use Rattle.welch_index.proofs.Cuts.{reads, enters, ends, spelled}

-- a preimage of a word is a walk that spells it
pub walk_of : {r : LocalRule} → IsRule r → (w x : List ℕ) → IsPreimage r w x → (y : ℕ → ℕ) → 0 < y (value r.states (drop (length w) x))
    → 0 < pull r w y (value r.states (take (r.width - 1) x))
walk_of {r} rule [] x p y some =
    let all : take (r.width - 1) x ≡ x = take_all (r.width - 1) x (omega (arith, p.long)) in
    subst (λ z. 0 < y (value r.states z)) (sym all) some
walk_of {r} rule (a ∷ w) x p y some =
    let k = r.states in
    let d = r.width - 1 in
    let node = value k (take d x) in
    let b = get_or x d 0 in
    let long : 1 + d ≤ length x = omega (arith, p.long) in
    let cut : label r node b ∷ image r (drop 1 x) ≡ a ∷ w = sym (ap (λ z. z ++ image r (drop 1 x)) (image-first rule x long)) ∙ sym (image-cut rule 1 x) ∙ p.maps in
    let letter : label r node b ≡ a = ap (λ z. get_or z 0 0) cut in
    let rest : image r (drop 1 x) ≡ w = ap (drop 1) cut in
    let behind : IsPreimage r w (drop 1 x) = record { word = All-drop (λ c. c < k) 1 x p.word; long = omega (arith, length-drop 1 x, p.long); maps = rest } in
    let led = value-first rule x p.word long in
    let plus : suc (length w) ≡ 1 + length w = omega arith in
    let last : drop (suc (length w)) x ≡ drop (length w) (drop 1 x) = ap (λ n. drop n x) plus ∙ sym (drop-drop (length w) 1 x) in
    let more : 0 < pull r w y (next r node b) = subst (λ q. 0 < pull r w y q) led (walk_of rule w (drop 1 x) behind y (subst (λ z. 0 < y (value k z)) last some)) in
    let one : fits r a node b ≡ 1 = ap from_bool (eq-eqb (label r node b) a letter) in
    let term = total-term (λ c. fits r a node c * pull r w y (next r node c)) b k (p.word d 0 (omega (arith, long))) in
    let here : fits r a node b * pull r w y (next r node b) ≡ 1 * pull r w y (next r node b) = ap (λ z. z * pull r w y (next r node b)) one in
    omega (arith, more, term, here)

-- a preimage of v w that begins with the first m - 1 letters of x
pub record IsLonger (r : LocalRule) (v w x : List ℕ) (y : ℕ → ℕ) : Type 0 where
  pub whole : List ℕ
  pub preimage : IsPreimage r (v ++ w) whole
  pub begins : take (r.width - 1) whole ≡ take (r.width - 1) x
  pub weighs : 0 < y (value r.states (drop (length (v ++ w)) whole))

pub walk_from : {r : LocalRule} → IsRule r → (v w x : List ℕ) → IsPreimage r v x → (y : ℕ → ℕ) → 0 < pull r w y (value r.states (drop (length v) x))
    → IsLonger r v w x y
walk_from {r} rule v [] x p y some =
    record {
      whole = x;
      preimage = subst (λ z. IsPreimage r z x) (sym (append-nil v)) p;
      begins = refl;
      weighs = subst (λ z. 0 < y (value r.states (drop (length z) x))) (sym (append-nil v)) some;
    }
walk_from {r} rule v (a ∷ w) x p y some =
    let k = r.states in
    let node = value k (drop (length v) x) in
    let (b, l, term) = total-some (λ c. fits r a node c * pull r w y (next r node c)) k some in
    let letter : label r node b ≡ a = ⊎_elim (λ same. same) (λ other. let none : fits r a node b * pull r w y (next r node b) ≡ 0 * pull r w y (next r node b) = ap (λ z. from_bool z * pull r w y (next r node b)) (ne_eqb (label r node b) a other) in absurd (omega (arith, none, term))) (cases_eq (label r node b) a) in
    let one : fits r a node b * pull r w y (next r node b) ≡ 1 * pull r w y (next r node b) = ap (λ z. from_bool z * pull r w y (next r node b)) (eq-eqb (label r node b) a letter) in
    let pushed = IsPreimage-push rule p a b l (local_map-label r (drop (length v) x) b ∙ letter) in
    let leads : value k (drop (length (v ++ a ∷ [])) (x ++ b ∷ [])) ≡ next r node b = ap (λ n. value k (drop n (x ++ b ∷ []))) (length_push v a) ∙ value-next rule (length v) x b p.word p.long l in
    let rest = walk_from rule (v ++ a ∷ []) w (x ++ b ∷ []) pushed y (subst (λ q. 0 < pull r w y q) (sym leads) (omega (arith, term, one))) in
    let joined : (v ++ a ∷ []) ++ w ≡ v ++ (a ∷ w) = append_assoc v (a ∷ []) w in
    record {
      whole = rest.whole;
      preimage = subst (λ z. IsPreimage r z rest.whole) joined rest.preimage;
      begins = rest.begins ∙ take-append-le (r.width - 1) x (b ∷ []) (omega (arith, p.long));
      weighs = subst (λ z. 0 < y (value k (drop (length z) rest.whole))) joined rest.weighs;
    }

-- the word of a node is a preimage of the empty word
empty_preimage : {r : LocalRule} → (u : ℕ) → u < node_count r → IsPreimage r [] (word_of r.states (r.width - 1) u)
empty_preimage {r} u l = IsPreimage-empty r (word_of r.states (r.width - 1) u) (IsWord-word_of r.states (r.width - 1) u l) (length-word_of r.states (r.width - 1) u)

-- a walk from a node that spells a word gives a preimage that begins with the node
pub preimage_from : {r : LocalRule} → IsRule r → (w : List ℕ) (y : ℕ → ℕ) (u : ℕ) → u < node_count r → 0 < pull r w y u
    → (x : List ℕ) × IsPreimage r w x × (value r.states (take (r.width - 1) x) ≡ u) × (0 < y (value r.states (drop (length w) x)))
preimage_from {r} rule w y u l some =
    let k = r.states in
    let d = r.width - 1 in
    let z = word_of k d u in
    let node : value k z ≡ u = value-word_of k d u l in
    let longer = walk_from rule [] w z (empty_preimage u l) y (subst (λ q. 0 < pull r w y q) (sym node) some) in
    let all : take d z ≡ z = take_all d z (omega (arith, length-word_of k d u)) in
    (longer.whole, longer.preimage, ap (value k) (longer.begins ∙ all) ∙ node, longer.weighs)

-- the first node of a preimage is a node
first-below : {r : LocalRule} {w x : List ℕ} → IsPreimage r w x → value r.states (take (r.width - 1) x) < node_count r
first-below {r} {w} {x} p = value-node r (take (r.width - 1) x) (All-take (λ a. a < r.states) (r.width - 1) x p.word) (length-take-le (r.width - 1) x (omega (arith, p.long)))

-- a word is read from its first nodes
pub reads-IsFirstNode : {r : LocalRule} → IsRule r → (w : List ℕ) (u : ℕ) → u < node_count r → (0 < reads r w u) ↔ IsFirstNode r w u
reads-IsFirstNode {r} rule w u l = (
  λ some. let found = preimage_from rule w (λ q. 1) u l (some-sign _ some) in record { x = found.0; preimage = found.1; first = found.2 },
  λ first. let there = walk_of rule w first.x first.preimage (λ q. 1) (omega arith) in
      let here = subst (λ q. 0 < pull r w (λ t. 1) q) first.first there in omega (arith, sign-some (pull r w (λ q. 1) u) here),
)

-- walks that spell a word end at its last nodes
pub ends-IsLastNode : {r : LocalRule} → IsRule r → (w : List ℕ) (t : ℕ) → t < node_count r → (0 < ends r w t) ↔ IsLastNode r w t
ends-IsLastNode {r} rule w t l = (
  λ some.
      let (u, h, walk) = total-some (λ p. pull r w (at_place t) p) (node_count r) (some-sign _ some) in
      let found = preimage_from rule w (at_place t) u h walk in
      let last = value r.states (drop (length w) found.0) in
      record { x = found.0; preimage = found.1; last = ⊎_elim (λ same. same) (λ other. absurd (omega (arith, found.3, ap from_bool (ne_eqb last t other)))) (cases_eq last t) },
  λ last.
      let node = value r.states (take (r.width - 1) last.x) in
      let one = ap from_bool (eq-eqb (value r.states (drop (length w) last.x)) t last.last) in
      let walk = walk_of rule w last.x last.preimage (at_place t) (omega (arith, one)) in
      let term = total-term (λ p. pull r w (at_place t) p) node (node_count r) (first-below last.preimage) in
      omega (arith, sign-some (enters r w t) (omega (arith, walk, term))),
)

-- under a surjective rule each word is spelled by some walk
pub spelled-some : {r : LocalRule} → IsRule r → (w x : List ℕ) → IsPreimage r w x → 0 < spelled r w
spelled-some {r} rule w x p =
    let walk = walk_of rule w x p (λ q. 1) (omega arith) in
    let term = total-term (pull r w (λ q. 1)) (value r.states (take (r.width - 1) x)) (node_count r) (first-below p) in
    omega (arith, walk, term)

-- a preimage of u v through a node at the cut
pub through : {r : LocalRule} {u v : List ℕ} {p : ℕ} → IsRule r → IsLastNode r u p → IsFirstNode r v p
    → (x : List ℕ) × IsPreimage r (u ++ v) x × (value r.states (take (r.width - 1) (drop (length u) x)) ≡ p)
through {r} {u} {v} {p} rule last first =
    let d = r.width - 1 in
    let x = last.x in
    let y = first.x in
    let seam : drop (length u) x ≡ take d y = same_node r.states (length u) d x y last.preimage.word first.preimage.word last.preimage.long (omega (arith, first.preimage.long)) (last.last ∙ sym first.first) in
    let joined = x ++ drop d y in
    let front : length (drop (length u) x) ≡ d = omega (arith, length-drop (length u) x, last.preimage.long) in
    let node : take d (drop (length u) joined) ≡ drop (length u) x =
    ap (take d) (drop-append-le (length u) x (drop d y) (omega (arith, last.preimage.long))) ∙ take_at (drop (length u) x) (drop d y) d front in (
      joined,
      record {
        word = All-append (λ a. a < r.states) x (drop d y) last.preimage.word (All-drop (λ a. a < r.states) d y first.preimage.word);
        long = omega (arith, length-append x (drop d y), length-drop d y, last.preimage.long, first.preimage.long, length-append u v);
        maps = image-join rule (length u) x y last.preimage.long seam ∙ ap₂ (λ (a b : List ℕ). a ++ b) last.preimage.maps first.preimage.maps;
      },
      ap (value r.states) node ∙ last.last,
    )
