-- The words of links, and the words that come early enough after them: such a word leads both sets of a link to the empty set, or neither.
use Rattle.image_minimal.proofs.Common.{◌≡◌, ℕ, suc, ◌+◌, ◌-◌, ◌*◌, ◌^◌, ◌<◌, ◌≤◌, List, [], ◌∷◌, ◌++◌, Some, Bool, cond, ltb, lt-ltb, le-ltb, sym, ap, ap₂, ◌∙◌, arith, ⊎_elim, length, map, slice_get, pow_pos, mul-le-mul_left, mul-le-mul_right, mul-one, map-append, one-le-pow, All-head, All-tail, LocalRule, IsRule, IsWord, IsLastSet, IsLastSet-full, IsLastSet-step, value, value-append, node_count, slice_get-unique, Leads-induct, word_number, word_number-snoc, spelled-within, TreeSpells-some, append_assoc, mapped_at, state-all, TreeSpells-cases, Leads-spelled, IsStep-some, Link, IsLinkSearch, link_place, SpellsLink}
use Rattle.image_minimal.proofs.laws.Unread.{is_dead}

-- the word on the way to a link has the sets of the link on both sides
pub IsLastSet-link : {r q : LocalRule} {links : List Link} {parents : List ℕ} {e i : ℕ} {w : List ℕ} → IsRule r → IsRule q → r.states ≡ q.states
    → IsLinkSearch r q links parents e
    → SpellsLink links i w → (x : Link) → slice_get links i ≡ Some x → IsLastSet r w x.first × IsLastSet q w x.second
IsLastSet-link {r} {q} {links} {i = i} {w} rule other states h reaches x at =
    Leads-induct (λ v p. IsLastSet r v p.0 × IsLastSet q v p.1) (IsLastSet-full r, IsLastSet-full q)
    (λ v a s t _ letter step last. (IsLastSet-step {set = s.0} {after = t.0} rule last.0 letter step.0, IsLastSet-step {set = s.1} {after = t.1} other last.1 (omega (arith, letter, states)) step.1))
    w (x.first, x.second) (Leads-spelled h.fills reaches (link_place x) (mapped_at link_place links i x at))

-- the sets of a link are sets of nodes
pub link-below : {r q : LocalRule} {links : List Link} {parents : List ℕ} {e : ℕ} → IsLinkSearch r q links parents e → (i : ℕ) (x : Link)
    → slice_get links i ≡ Some x
    → (x.first < 2 ^ node_count r) × (x.second < 2 ^ node_count q)
link-below {r} {q} {links} h i x at =
    state-all h.fills (λ p. (p.0 < 2 ^ node_count r) × (p.1 < 2 ^ node_count q)) (omega (arith, pow_pos (node_count r)), omega (arith, pow_pos (node_count q)))
    (λ s a t step. (step.0.within, step.1.within)) i (link_place x) (mapped_at link_place links i x at)

-- the number of two words in a row
word_number-parts : (k : ℕ) (u z : List ℕ) → word_number k (u ++ z) ≡ word_number k u * k ^ length (map suc z) + word_number k z
word_number-parts k u z = ap (value k) (map-append suc u z) ∙ value-append k (map suc u) (map suc z)

-- the number of a longer word grows with that of its front
word_number-append : (k : ℕ) (u v z : List ℕ) → word_number k u ≤ word_number k v → word_number k (u ++ z) ≤ word_number k (v ++ z)
word_number-append k u v z most = grind (arith, word_number, mul-le-mul_right, word_number-parts)

-- a front has no greater number than the whole word
word_number-front : (k : ℕ) (u z : List ℕ) → 1 ≤ k → word_number k u ≤ word_number k (u ++ z)
word_number-front k u z some = grind (arith, word_number, mul-le-mul_left, one-le-pow, word_number-parts, mul-one)

-- the edges whose words have no greater number have been followed
abbrev pub AreEarly : ℕ → List Link → ℕ → ℕ → Type 0
AreEarly k links e bound = (i a : ℕ) (v : List ℕ) (x : Link) → slice_get links i ≡ Some x → SpellsLink links i v → a < k → word_number k (v ++ a ∷ []) ≤ bound → i * k + a < e

-- a word after the one on the way to a link leads both sets of the link to the empty set, or neither, if both together have no greater number
pub same_end : {r q : LocalRule} {links : List Link} {parents : List ℕ} {e bound : ℕ} → IsRule r → IsLinkSearch r q links parents e
    → AreEarly r.states links e bound
    → (z : List ℕ) → IsWord r.states z → (i : ℕ) (x : Link) (w : List ℕ) → slice_get links i ≡ Some x → SpellsLink links i w
    → word_number r.states (w ++ z) ≤ bound → is_dead r z x.first ≡ is_dead q z x.second
same_end rule h early [] word i x w at spells most = h.even i x at
same_end {r} {q} {links} {bound = bound} rule h early (a ∷ z) word i x w at spells most =
    let k = r.states in
    let letter = All-head (λ b. b < r.states) a z word in
    let whole : word_number k ((w ++ a ∷ []) ++ z) ≤ bound = rw (append_assoc w (a ∷ []) z) most in
    let front = word_number-front k (w ++ a ∷ []) z (omega (arith, rule.shape.least_states)) in
    let n = 2 ^ node_count r in
    let (s, one) = IsStep-some r x.first a in
    let (t, two) = IsStep-some q x.second a in
    let f : ℕ → Bool = λ v. cond (ltb v n) (is_dead r z v) (is_dead q z (v - n)) in
    let first : (v : ℕ) → v < n → f v ≡ is_dead r z v = λ v l. ap (λ b. cond b (is_dead r z v) (is_dead q z (v - n))) (lt-ltb v n l) in
    let second : (v : ℕ) → f (n + v) ≡ is_dead q z v = λ v.
    let back : n + v - n ≡ v = omega arith in
    ap₂ (λ b u. cond b (is_dead r z (n + v)) (is_dead q z u)) (le-ltb (n + v) n (omega arith)) back in
    let chain = h.fills.done i a (s, t) (link_place x) (mapped_at link_place links i x at) letter (early i a w x at spells letter (omega arith)) (one, two) in
    sym (first s one.within)
    ∙ chain f (λ j y there when.
    let (u, to) = TreeSpells-some h.fills j (link_place y) (mapped_at link_place links j y there) in
    let within = spelled-within h.fills spells a letter j (link_place y) u (mapped_at link_place links j y there) to when in
    let longer = word_number-append k u (w ++ a ∷ []) z (omega (arith, word_number-snoc k w a)) in
    first y.first (link-below h j y there).0 ∙ same_end rule h early z (All-tail (λ b. b < r.states) a z word) j y u there to (omega arith) ∙ sym (second y.second))
    ∙ second t

-- the word on the way to a link is that of its parent, followed by its letter
pub SpellsLink-parent : (links : List Link) (i : ℕ) (w : List ℕ) → SpellsLink links i w → 0 < i → (x : Link) → slice_get links i ≡ Some x
    → (v : List ℕ) × SpellsLink links x.parent v × (w ≡ v ++ x.letter ∷ [])
SpellsLink-parent links i w reaches positive x at =
    ⊎_elim
    (λ none. absurd (omega (arith, none.0)))
    (λ longer. grind (arith, slice_get-unique, mapped_at))
    (TreeSpells-cases reaches)
