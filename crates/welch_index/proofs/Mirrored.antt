-- First nodes of a word are last nodes of the mirrored word under the mirrored rule.
use Rattle.std.proofs.Common.{◌≡◌, ℕ, ◌+◌, ◌-◌, ◌<◌, ◌≤◌, List, length, take, drop, reverse, ap, ◌∙◌, subst₂, ⊎_elim, arith, length-drop, length-take-le}
use Rattle.word_image.proofs.Common.{cases_lt, length-reverse, reverse-reverse, reverse-cut, All-take, All-drop, LocalRule, IsRule, IsWord, value, IsPreimage, IsLastNode, node_count, mirrored, IsWord-reverse, image-mirrored, IsRule-mirrored, mirrored-mirrored}
use Rattle.pair_laws.proofs.Mirrors.{mirror_node, value-reverse, mirror_node-below, mirror_node-mirror_node}
use Rattle.welch_index.specs.Fewest.{IsFirstNode}
use Rattle.welch_index.proofs.Totals.{total-same, sign-most}
use Rattle.welch_index.proofs.Counts.{total-renamed}
use Rattle.welch_index.proofs.Cuts.{reads, ends, last_count, first_count}
use Rattle.welch_index.proofs.Links.{reads-IsFirstNode, ends-IsLastNode}

-- a preimage read backwards is one under the mirrored rule
pub IsPreimage-mirrored : {r : LocalRule} {w x : List ℕ} → IsRule r → IsPreimage r w x → IsPreimage (mirrored r) (reverse w) (reverse x)
IsPreimage-mirrored {r} {w} {x} rule p =
    record {
      word = IsWord-reverse r.states x p.word;
      long = omega (arith, length-reverse x, length-reverse w, p.long);
      maps = image-mirrored rule x p.word ∙ ap reverse p.maps;
    }

-- the last m - 1 letters of a word that is read backwards
value-drop_reverse : (r : LocalRule) (n : ℕ) (x : List ℕ) → IsWord r.states x → length x ≡ n + (r.width - 1)
    → value r.states (drop n (reverse x)) ≡ mirror_node r (value r.states (take (r.width - 1) x))
value-drop_reverse r n x h e =
    ap (value r.states) (reverse-cut (r.width - 1) n x (omega (arith, e))).1
    ∙ value-reverse r (take (r.width - 1) x) (All-take (λ a. a < r.states) (r.width - 1) x h) (length-take-le (r.width - 1) x (omega (arith, e)))

-- the first m - 1 letters of a word that is read backwards
value-take_reverse : (r : LocalRule) (n : ℕ) (x : List ℕ) → IsWord r.states x → length x ≡ n + (r.width - 1)
    → value r.states (take (r.width - 1) (reverse x)) ≡ mirror_node r (value r.states (drop n x))
value-take_reverse r n x h e =
    ap (value r.states) (reverse-cut n (r.width - 1) x e).0 ∙ value-reverse r (drop n x) (All-drop (λ a. a < r.states) n x h) (omega (arith, length-drop n x, e))

-- a first node of a word, mirrored, is a last node of the mirrored word
pub IsLastNode-first : {r : LocalRule} {w : List ℕ} {u : ℕ} → IsRule r → IsFirstNode r w u → IsLastNode (mirrored r) (reverse w) (mirror_node r u)
IsLastNode-first {r} {w} {u} rule h =
    record {
      x = reverse h.x;
      preimage = IsPreimage-mirrored rule h.preimage;
      last = ap (λ n. value r.states (drop n (reverse h.x))) (length-reverse w) ∙ value-drop_reverse r (length w) h.x h.preimage.word h.preimage.long ∙ ap (mirror_node r) h.first;
    }

-- a last node of the mirrored word, mirrored, is a first node of the word
pub IsFirstNode-last : {r : LocalRule} {w : List ℕ} {u : ℕ} → IsRule r → u < node_count r → IsLastNode (mirrored r) (reverse w) (mirror_node r u) → IsFirstNode r w u
IsFirstNode-last {r} {w} {u} rule l h =
    let back = IsPreimage-mirrored {r = mirrored r} {w = reverse w} {x = h.x} (IsRule-mirrored rule) h.preimage in
    let p : IsPreimage r w (reverse h.x) = subst₂ (λ (q : LocalRule) (z : List ℕ). IsPreimage q z (reverse h.x)) (mirrored-mirrored rule) (reverse-reverse w) back in
    let long : length h.x ≡ length (reverse w) + (r.width - 1) = h.preimage.long in
    record {
      x = reverse h.x;
      preimage = p;
      first = value-take_reverse r (length (reverse w)) h.x h.preimage.word long ∙ ap (mirror_node r) h.last ∙ mirror_node-mirror_node r u l;
    }

-- numbers that are at most 1 are equal if both are 1 or neither
pub same_sign : (a b : ℕ) → a ≤ 1 → b ≤ 1 → (0 < a → 0 < b) → (0 < b → 0 < a) → a ≡ b
same_sign a b la lb forth back =
    ⊎_elim
    (λ some. let other = forth some in omega (arith, la, lb, some, other))
    (λ none. ⊎_elim (λ more. let some = back more in absurd (omega (arith, none, some))) (λ zeroth. omega (arith, none, zeroth)) (cases_lt 0 b))
    (cases_lt 0 a)

-- a node begins a word if the mirrored node ends the mirrored word under the mirrored rule
pub reads-mirrored : {r : LocalRule} → IsRule r → (w : List ℕ) (u : ℕ) → u < node_count r → reads r w u ≡ ends (mirrored r) (reverse w) (mirror_node r u)
reads-mirrored {r} rule w u l =
    let last = ends-IsLastNode (IsRule-mirrored rule) (reverse w) (mirror_node r u) (mirror_node-below r u l) in
    let first = reads-IsFirstNode rule w u l in
    same_sign (reads r w u) (ends (mirrored r) (reverse w) (mirror_node r u)) (sign-most _) (sign-most _)
    (λ some. last.1 (IsLastNode-first rule (first.0 some)))
    (λ some. first.1 (IsFirstNode-last rule l (last.0 some)))

-- a word has as many first nodes as the mirrored word has last nodes
pub first_count-mirrored : {r : LocalRule} → IsRule r → (w : List ℕ) → first_count r w ≡ last_count (mirrored r) (reverse w)
first_count-mirrored {r} rule w =
    let n = node_count r in
    let other = ends (mirrored r) (reverse w) in
    total-same (reads r w) (λ u. other (mirror_node r u)) n (λ u l. reads-mirrored rule w u l)
    ∙ total-renamed n other (mirror_node r) (mirror_node-below r) (mirror_node-mirror_node r)
