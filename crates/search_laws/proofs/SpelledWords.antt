-- The words that are spelled to the places of a breadth first queue: one to each, in ascending order.
use Rattle.std.proofs.Common.{◌≡◌, ℕ, zero, suc, ◌+◌, ◌*◌, ◌<◌, ◌≤◌, ◌⊎◌, inl, inr, List, [], ◌∷◌, ◌++◌, length, reverse, Some, refl, sym, ap, ap₂, ◌∙◌, subst, arith, append_assoc, ⊎_elim, slice_get, mul-le-mul_right, suc-mul, Less}
use Rattle.word_image.proofs.Common.{cases_eq, cases_lt, length_push, reverse-append, word_cmp}
use Rattle.search_laws.specs.SearchQueues.{Place, TreeSpells, IsFilled, filled}
use Rattle.search_laws.specs.SearchQueues.TreeSpells.{Root, Branch}
use Rattle.search_laws.specs.Walks.{Leads}
use Rattle.search_laws.proofs.Walks.{Leads-none, Leads-push}
use Rattle.search_laws.proofs.QueueSteps.{filled-later}
use Rattle.search_laws.proofs.WordOrder.{word_number, word_number-snoc, word_cmp-less}

-- a letter after the letters, which are read backwards, stands before them
pub letter_before : (v letters longer : List ℕ) (a : ℕ) → longer ≡ letters ++ a ∷ [] → (v ++ a ∷ []) ++ reverse letters ≡ v ++ reverse longer
letter_before v letters longer a more = grind (arith, append_assoc, reverse-append)

-- the last letter of a word is that of its place, and the others are spelled to the parent
pub record IsLonger {S : Type 0} (tree : List (Place S)) (i : ℕ) (w : List ℕ) : Type 0 where
  pub place : Place S
  pub front : List ℕ
  pub positive : 0 < i
  pub stands : slice_get tree i ≡ Some place
  pub before : TreeSpells tree place.parent front
  pub splits : w ≡ front ++ place.letter ∷ []

-- a word is empty and spelled to the first place, or it has a last letter
pub TreeSpells-cases : {S : Type 0} {tree : List (Place S)} {i : ℕ} {w : List ℕ} → TreeSpells tree i w → ((i ≡ 0) × (w ≡ [])) ⊎ IsLonger tree i w
TreeSpells-cases Root = inl (refl, refl)
TreeSpells-cases (Branch i x w positive at before) = inr (record { place = x; front = w; positive = positive; stands = at; before = before; splits = refl })

-- one word is spelled to a place
pub TreeSpells-unique : {S : Type 0} {tree : List (Place S)} {i : ℕ} {v w : List ℕ} → TreeSpells tree i v → TreeSpells tree i w → v ≡ w
TreeSpells-unique Root s = ⊎_elim (λ same. sym same.1) (λ longer. absurd (omega (arith, longer.positive))) (TreeSpells-cases s)
TreeSpells-unique {tree = tree} (Branch i x v positive at before) s =
    ⊎_elim
    (λ same. absurd (omega (arith, same.0)))
    (λ longer.
    let alike : longer.place ≡ x = let there = longer.stands in cc in
    let fronts = TreeSpells-unique before (subst (λ z. TreeSpells tree z.parent longer.front) alike longer.before) in
    ap₂ (λ (u : List ℕ) (z : Place _). u ++ z.letter ∷ []) fronts (sym alike) ∙ sym longer.splits)
    (TreeSpells-cases s)

-- where f ascends, two numbers in base k stay in order as their first digits p and q become f and g
digits-ascend : (p q l m k f g : ℕ) → m < k → p * k + l ≤ q * k + m → (p < q → f < g) → (p ≡ q → f ≡ g) → l ≤ k → f * k + l ≤ g * k + m
digits-ascend p q l m k f g small most ascends same first =
    ⊎_elim
    (λ below.
    let next = mul-le-mul_right k (ascends below) in
    omega (arith, suc-mul f k))
    (λ above. ⊎_elim
    (λ one.
    let old : p * k ≡ q * k = ap (λ i. i * k) one in
    let new : f * k ≡ g * k = ap (λ i. i * k) (same one) in
    omega arith)
    (λ other.
    let next : suc q * k ≤ p * k = mul-le-mul_right k (omega arith) in
    absurd (omega (arith, suc-mul q k)))
    (cases_eq p q))
    (cases_lt p q)

module _ {S : Type 0} {Step : S → ℕ → S → Type 0} {Met : S → ℕ → Type 0} {k : ℕ} {start : S} {tree : List (Place S)} {e : ℕ} (q : IsFilled Step Met k start tree e) where
  -- `TreeSpells-some` at the first n places
  spelled_below : (n i : ℕ) → i < n → (x : Place S) → slice_get tree i ≡ Some x → (w : List ℕ) × TreeSpells tree i w
  spelled_below zero i less x at = absurd (omega arith)
  spelled_below (suc n) zero less x at = ([], Root)
  spelled_below (suc n) (suc i) less x at =
      let b = q.branches (suc i) x (omega arith) at in
      let front = spelled_below n x.parent (omega (arith, b.earlier)) b.parent b.stands in
      (front.0 ++ x.letter ∷ [], Branch (suc i) x front.0 (omega arith) at front.1)

  -- to each place a word is spelled
  pub TreeSpells-some : (i : ℕ) (x : Place S) → slice_get tree i ≡ Some x → (w : List ℕ) × TreeSpells tree i w
  TreeSpells-some i x at = spelled_below (i + 1) i (omega arith) x at

  -- the word that is spelled to a place leads to its state
  pub Leads-spelled : {i : ℕ} {w : List ℕ} → TreeSpells tree i w → (x : Place S) → slice_get tree i ≡ Some x → Leads Step k start w x.state
  Leads-spelled Root x at =
      let first : start ≡ x.state = let also = q.root in let starts = q.starts in cc in
      subst (Leads Step k start []) first Leads-none
  Leads-spelled (Branch i y w positive here before) x at =
      let b = q.branches i y positive here in
      let alike : y ≡ x = cc in
      subst (λ z. Leads Step k start (w ++ y.letter ∷ []) z.state) alike (Leads-push (Leads-spelled before b.parent b.stands) b.letter b.step)

  -- a word has no more letters than there are places before its own
  pub length-spelled-le : {i : ℕ} {w : List ℕ} → TreeSpells tree i w → length w ≤ i
  length-spelled-le Root = omega arith
  length-spelled-le (Branch i x w positive at before) = omega (arith, length-spelled-le before, length_push w x.letter, (q.branches i x positive at).earlier)

  -- a later place has a greater word
  spelled-ascending : {j : ℕ} {w : List ℕ} → TreeSpells tree j w → (i : ℕ) (v : List ℕ) → i < j → TreeSpells tree i v
      → word_number k v < word_number k w
  spelled-ascending Root i v less first = absurd (omega arith)
  spelled-ascending (Branch j z w positive here before) i v less Root = omega (arith, word_number-snoc k w z.letter)
  spelled-ascending (Branch j z w positive here before) _ _ less (Branch i y v some there front) =
      let b = q.branches j z positive here in
      let c = q.branches i y some there in
      let step = digits-ascend y.parent z.parent (y.letter + 1) z.letter k (word_number k v) (word_number k w) b.letter
      (omega (arith, q.ascending i j y z less there here, filled-later k i y some, filled-later k j z positive))
      (λ l. spelled-ascending before y.parent v l front) (λ same. ap (word_number k) (TreeSpells-unique (subst (λ n. TreeSpells tree n v) same front) before)) (omega (arith, c.letter)) in
      omega (arith, word_number-snoc k v y.letter, word_number-snoc k w z.letter, step)

  -- the words of the places ascend
  pub TreeSpells-ascending : {i j : ℕ} {v w : List ℕ} → i < j → TreeSpells tree i v → TreeSpells tree j w → (x y : Place S)
      → slice_get tree i ≡ Some x
      → slice_get tree j ≡ Some y → word_cmp v w ≡ Less
  TreeSpells-ascending {v = v} {w} less first second x y at_i at_j =
      word_cmp-less k v w (Leads-spelled first x at_i).word (Leads-spelled second y at_j).word (spelled-ascending second _ v less first)

  -- of two edges, or of an edge and what follows one, the earlier one has the lesser word
  edges_ascend : {i j : ℕ} {v w : List ℕ} → TreeSpells tree i v → TreeSpells tree j w → (a b : ℕ) → a ≤ k → b < k → i * k + a ≤ j * k + b
      → word_number k v * k + a ≤ word_number k w * k + b
  edges_ascend {i} {j} {v} {w} first second a b letter_a letter_b most =
      digits-ascend i j a b k (word_number k v) (word_number k w) letter_b most (λ less. spelled-ascending second i v less first)
      (λ same. ap (word_number k) (TreeSpells-unique (subst (λ n. TreeSpells tree n v) same first) second)) letter_a

  pub edges-ascending : {i j : ℕ} {v w : List ℕ} → TreeSpells tree i v → TreeSpells tree j w → (x : Place S) → slice_get tree i ≡ Some x → (a b : ℕ)
      → a < k → b < k → i * k + a ≤ j * k + b
      → word_number k v * k + a ≤ word_number k w * k + b
  edges-ascending first second x at a b letter_a letter_b most = edges_ascend first second a b (omega arith) letter_b most

  -- a place that was filled n edges before an edge, or more, has a word that many before that edge's, for n up to 1
  spelled-edge : {i j : ℕ} {v w : List ℕ} → TreeSpells tree i w → (a : ℕ) → a < k → (y : Place S) → slice_get tree j ≡ Some y → TreeSpells tree j v
      → (n : ℕ) → n ≤ 1 → filled k j y + n ≤ i * k + a + 1
      → word_number k v + n ≤ word_number k w * k + a + 1
  spelled-edge s a letter y at Root n small most = omega arith
  spelled-edge s a letter y at (Branch j z u positive here before) n small most =
      let alike : z ≡ y = cc in
      let same = sym (filled-later k j z positive) ∙ ap (filled k j) alike in
      let b = q.branches j z positive here in
      omega (arith, word_number-snoc k u z.letter, edges_ascend before s (z.letter + n) a (omega (arith, b.letter)) letter (omega (arith, same)))

  -- a place that was filled before letter a from place i was followed has a lesser word than that edge
  pub spelled-before : {i : ℕ} {w : List ℕ} → TreeSpells tree i w → (a : ℕ) → a < k → (j : ℕ) (y : Place S) (v : List ℕ) → slice_get tree j ≡ Some y
      → TreeSpells tree j v → filled k j y < i * k + a + 1
      → word_number k v < word_number k w * k + a + 1
  spelled-before s a letter j y v at spells less = omega (arith, spelled-edge s a letter y at spells 1 (omega arith) (omega arith))

  -- a place that was filled by then has a word that isn't greater than that edge's
  pub spelled-within : {i : ℕ} {w : List ℕ} → TreeSpells tree i w → (a : ℕ) → a < k → (j : ℕ) (y : Place S) (v : List ℕ) → slice_get tree j ≡ Some y
      → TreeSpells tree j v → filled k j y ≤ i * k + a + 1
      → word_number k v ≤ word_number k w * k + a + 1
  spelled-within s a letter j y v at spells most = omega (arith, spelled-edge s a letter y at spells 0 (omega arith) (omega arith))
