-- A rule has one list of classes, so it has one least automaton. It has no more classes than sets of nodes.
use Rattle.image_minimal.proofs.Common.{◌≡◌, ℕ, zero, suc, ◌+◌, ◌*◌, ◌/◌, ◌%◌, ◌^◌, ◌<◌, ◌≤◌, ⊎_elim, cases_lt, twice_below, pow-le-pow_right, get_or, slice_get-get_or, iff_then, iff_sym, full_set, IsLastSet, IsLastSet-full, List, [], ◌∷◌, ◌++◌, length, slice_index, Option, Some, None, refl, sym, ap, ap₂, ◌∙◌, subst, arith, slice_get, ext_get_or, div-lt_iff_lt-mul, mod-lt, mul-zero, mul_comm, div-add-mod, LocalRule, IsRule, IsWord, IsOrphan, slice_get-unique, Alike, IsLeastAlike, IsClassList, IsNextClass, IsDeadClass, Automaton, IsLeastAutomaton, node_count, pow_pos, IsBitSet-zero, IsLastSet-orphan, Contains, Contains-slice_get, slice_get-Contains, IsAscending-sorted, one_place, one_word, same_members, word_cmp_total}
use Rattle.image_minimal.proofs.laws.Unread.{end_set, IsLastSet-end, IsUnread-some, is_dead-unread, IsOrphan-is_dead}

-- alike words before which no alike word comes are one
IsLeastAlike-one : {r : LocalRule} {v w : List ℕ} → IsLeastAlike r v → IsLeastAlike r w → Alike r v w → v ≡ w
IsLeastAlike-one {v = v} {w} first second alike = one_word v w (first.least w second.word (λ z word. iff_sym (alike z word))) (second.least v first.word alike)

-- each class of a list is one of any other
listed_also : {r : LocalRule} {x y : List (List ℕ)} → IsClassList r x → IsClassList r y → (w : List ℕ) → Contains x w → Contains y w
listed_also {x = x} {y} a b w within =
    let (i, at) = slice_get-Contains x w within in
    let least = a.least i w at in
    let (j, v, stands, alike) = b.all w least.word in
    subst (Contains y) (sym (IsLeastAlike-one least (b.least j v stands) alike)) (Contains-slice_get y j v stands)

-- alike words of a list have one place
alike_place : {r : LocalRule} {x : List (List ℕ)} → IsClassList r x → (i j : ℕ) (v w : List ℕ) → slice_get x i ≡ Some v → slice_get x j ≡ Some w
    → Alike r v w → i ≡ j
alike_place {x = x} a i j v w at also alike = one_place word_cmp_total x (IsAscending-sorted x a.ascending) i j w (subst (λ u. slice_get x i ≡ Some u) (IsLeastAlike-one (a.least i v at) (a.least j w also) alike) at) also

-- one class comes after a class on a letter
IsNextClass-unique : {r : LocalRule} {x : List (List ℕ)} {i a g h : ℕ} → IsClassList r x → IsNextClass r x i a g → IsNextClass r x i a h → g ≡ h
IsNextClass-unique {r} {x} {i} {a} {g} {h} list one other =
    let alike = subst (λ w. Alike r (w ++ a ∷ []) other.to) (slice_get-unique x i other.from one.from other.from_is one.from_is) other.alike in
    alike_place list g h one.to other.to one.to_is other.to_is (λ z word. let first = one.alike z word in let second = alike z word in ((λ is. second.0 (first.1 is)), (λ is. first.0 (second.1 is))))

-- an orphan followed by any word is one
orphan_on : {r : LocalRule} → IsRule r → (w z : List ℕ) → IsWord r.states z → IsOrphan r w → IsOrphan r (w ++ z)
orphan_on {r} rule w z word orphan =
    let (set, unread) = IsUnread-some r z word in
    (IsOrphan-is_dead rule (IsLastSet-orphan rule orphan) z word).1 ((is_dead-unread rule z set 0 unread (pow_pos (node_count r))).1 (λ u l some. absurd (IsBitSet-zero u some)))

-- where there is an orphan, a rule isn't surjective, and one class is that of the orphans
IsDeadClass-unique : {r : LocalRule} {x : List (List ℕ)} → IsRule r → IsClassList r x → (c d : Option ℕ) → IsDeadClass r x c → IsDeadClass r x d
    → c ≡ d
IsDeadClass-unique rule a None None all also = refl
IsDeadClass-unique rule a None (Some j) all (w, at, orphan) = let (x, preimage) = all w orphan.word in absurd (orphan.none x preimage)
IsDeadClass-unique rule a (Some i) None (w, at, orphan) all = let (x, preimage) = all w orphan.word in absurd (orphan.none x preimage)
IsDeadClass-unique rule a (Some i) (Some j) (v, at, orphan) (w, also, other) = ap Some (alike_place a i j v w at also (λ z word. ((λ _. orphan_on rule w z word other), (λ _. orphan_on rule v z word orphan))))

-- each place of a table is that of a row and a column
pub table_place : (n k e : ℕ) → e < n * k → (e / k < n) × (e % k < k) × (e ≡ e / k * k + e % k)
table_place n zero e l = absurd (omega (arith, mul-zero n, l))
table_place n (suc k) e l = grind (arith, div-lt_iff_lt-mul, mod-lt, div-add-mod, mul_comm)

-- a rule has at most one least automaton
pub IsLeastAutomaton-unique : {r : LocalRule} {a b : Automaton} → IsRule r → IsLeastAutomaton r a → IsLeastAutomaton r b → a ≡ b
IsLeastAutomaton-unique {r} {a} {b} rule x y =
    let words : x.words ≡ y.words =
    same_members word_cmp_total x.words y.words (IsAscending-sorted x.words (x.list).ascending) (IsAscending-sorted y.words (y.list).ascending) (λ w. (listed_also x.list y.list w, listed_also y.list x.list w)) in
    let states : a.states ≡ b.states = x.states ∙ sym y.states in
    let classes : a.classes ≡ b.classes = x.classes ∙ ap length words ∙ sym y.classes in
    let dead : a.dead ≡ b.dead = IsDeadClass-unique rule x.list a.dead b.dead x.dead (subst (λ l. IsDeadClass r l b.dead) (sym words) y.dead) in
    let size : a.classes * a.states ≡ b.classes * b.states = ap₂ (λ (n k : ℕ). n * k) classes states in
    let next : a.next ≡ b.next = ext_get_or 0 a.next b.next (x.long ∙ size ∙ sym y.long) (λ e l.
    let (inside, letter, same) = table_place a.classes a.states e (omega (arith, l, x.long)) in
    let first = x.next (e / a.states) (e % a.states) inside letter in
    let second = y.next (e / a.states) (e % a.states) (omega (arith, inside, classes)) (omega (arith, letter, states)) in
    let row : e / a.states * b.states + e % a.states ≡ e / a.states * a.states + e % a.states = ap (λ (k : ℕ). e / a.states * k + e % a.states) (sym states) in
    ap (slice_index a.next) same ∙ IsNextClass-unique x.list first (subst (λ l. IsNextClass r l _ _ _) (sym words) second) ∙ ap (slice_index b.next) (row ∙ sym same)) in
    ap₂ (λ (k n : ℕ). record { states = k; classes = n; next = a.next; dead = a.dead }) states classes
    ∙ ap₂ (λ (l : List ℕ) (d : Option ℕ). record { states = b.states; classes = b.classes; next = l; dead = d }) next dead

-- words with the same last nodes are alike
Alike-last : {r : LocalRule} {x y : List ℕ} {s : ℕ} → IsRule r → IsLastSet r x s → IsLastSet r y s → Alike r x y
Alike-last rule first second z word = iff_then (IsOrphan-is_dead rule first z word) (iff_sym (IsOrphan-is_dead rule second z word))

-- there are no more classes than sets of nodes
length-class_list-le : {r : LocalRule} {words : List (List ℕ)} → IsRule r → IsClassList r words → length words ≤ 2 ^ node_count r
length-class_list-le {r} {words} rule list =
    let word : ℕ → List ℕ = λ i. get_or words i [] in
    let at : (i : ℕ) → i < length words → slice_get words i ≡ Some (word i) = λ i l. slice_get-get_or words i [] l in
    let last : (i : ℕ) → i < length words → IsLastSet r (word i) (end_set r (word i) (full_set r)) = λ i l. IsLastSet-end rule (word i) (list.least i (word i) (at i l)).word [] (full_set r) (IsLastSet-full r) in
    ⊎_elim
    (λ past.
    let (i, j, less, most, same) = twice_below (2 ^ node_count r) (λ i. end_set r (word i) (full_set r)) (λ i l. (last i (omega (arith, l, past))).last.within) in
    let first : i < length words = omega (arith, less, most, past) in
    let second : j < length words = omega (arith, most, past) in
    let alike = Alike-last rule (last i first) (subst (IsLastSet r (word j)) (sym same) (last j second)) in
    let place : i ≡ j = alike_place list i j (word i) (word j) (at i first) (at j second) alike in
    absurd (omega (arith, place, less)))
    (λ le. le)
    (cases_lt (2 ^ node_count r) (length words))

-- the least automaton of a rule has at most 65,536 classes
pub IsLeastAutomaton-few : {r : LocalRule} {a : Automaton} → IsRule r → IsLeastAutomaton r a → a.classes ≤ 65536
IsLeastAutomaton-few {r} rule h =
    let most : 2 ^ node_count r ≤ 2 ^ 16 = pow-le-pow_right (omega arith) rule.shape.most_nodes in
    omega (arith, h.classes, length-class_list-le rule h.list, most)
