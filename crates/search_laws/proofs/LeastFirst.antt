-- Breadth first finds least words: the word that is spelled to a place is the first of all words that lead to its state.
use Rattle.std.proofs.Common.{◌≡◌, ◌≢◌, ℕ, ◌+◌, ◌*◌, ◌<◌, ◌≤◌, ◌⊎◌, inl, inr, List, [], ◌∷◌, ◌++◌, length, Some, sym, ap, subst, arith, ⊎_elim, slice_get, mul-le-mul_left, mul-le-mul_right, suc-mul, mul-one, Less, Greater}
use Rattle.word_image.proofs.Common.{cases_lt, slice_get_within, word_cmp}
use Rattle.search_laws.specs.SearchQueues.{Place, TreeSpells, IsQueue}
use Rattle.search_laws.specs.SearchQueues.TreeSpells.{Root}
use Rattle.search_laws.specs.Walks.{Leads}
use Rattle.search_laws.proofs.Walks.{Leads-induct}
use Rattle.search_laws.proofs.WordOrder.{word_number, word_number-snoc, word_cmp-less, word_cmp-not_greater}
use Rattle.search_laws.proofs.SpelledWords.{TreeSpells-unique, TreeSpells-some, Leads-spelled, spelled-before, spelled-within}

-- a state stands in the list, and the word that is spelled there comes no later than v
pub record IsReachedNoLater (k : ℕ) (tree : List (Place ℕ)) (v : List ℕ) (t : ℕ) : Type 0 where
  pub at : ℕ
  pub place : Place ℕ
  pub word : List ℕ
  pub stands : slice_get tree at ≡ Some place
  pub of_state : place.state ≡ t
  pub spells : TreeSpells tree at word
  pub no_later : word_number k word ≤ word_number k v

-- an edge that wasn't followed yet has a word that comes no later than v
pub record IsLate (k : ℕ) (tree : List (Place ℕ)) (e : ℕ) (v : List ℕ) : Type 0 where
  pub at : ℕ
  pub place : Place ℕ
  pub letter : ℕ
  pub word : List ℕ
  pub stands : slice_get tree at ≡ Some place
  pub below : letter < k
  pub spells : TreeSpells tree at word
  pub not_yet : e ≤ at * k + letter
  pub no_later : word_number k word * k + letter + 1 ≤ word_number k v

-- w is the first word that leads to the state
pub record IsLeastTo (Step : ℕ → ℕ → ℕ → Type 0) (k start t : ℕ) (w : List ℕ) : Type 0 where
  pub leads : Leads Step k start w t
  pub least : (v : List ℕ) → Leads Step k start v t → word_cmp w v ≢ Greater

module _ {Step : ℕ → ℕ → ℕ → Type 0} {k start : ℕ} {tree : List (Place ℕ)} {e : ℕ} (q : IsQueue Step k start tree e) where
  -- where the next letter leads from a state that is reached
  reached_next : (v : List ℕ) (a s t : ℕ) → a < k → Step s a t → IsReachedNoLater k tree v s
      → IsReachedNoLater k tree (v ++ a ∷ []) t ⊎ IsLate k tree e (v ++ a ∷ [])
  reached_next v a s t letter step h =
      let no_later = mul-le-mul_right k h.no_later in
      let longer = word_number-snoc k v a in
      ⊎_elim
      (λ followed.
      let found = q.fills.done h.at a t h.place h.stands letter followed (subst (λ z. Step z a t) (sym h.of_state) step) in
      let word = TreeSpells-some q.fills found.0 found.1 found.2 in
      let within = spelled-within q.fills h.spells a letter found.0 found.1 word.0 found.2 word.1 found.4 in
      inl (record { at = found.0; place = found.1; word = word.0; stands = found.2; of_state = found.3; spells = word.1; no_later = omega arith }))
      (λ yet. inr (record { at = h.at; place = h.place; letter = a; word = h.word; stands = h.stands; below = letter; spells = h.spells; not_yet = yet; no_later = omega arith }))
      (cases_lt (h.at * k + a) e)

  -- a word leads to a state that is reached by a word no later than it, or it comes no earlier than an edge that wasn't followed
  pub reached_or_late : (v : List ℕ) (t : ℕ) → Leads Step k start v t → IsReachedNoLater k tree v t ⊎ IsLate k tree e v
  reached_or_late = Leads-induct (λ v t. IsReachedNoLater k tree v t ⊎ IsLate k tree e v)
      (inl (record { at = 0; place = q.fills.first; word = []; stands = q.fills.root; of_state = q.fills.starts; spells = Root; no_later = omega arith }))
      (λ v a s t before letter step. ⊎_elim
      (λ reached. reached_next v a s t letter step reached)
      (λ late.
      let more : word_number k v * 1 ≤ word_number k v * k = mul-le-mul_left (word_number k v) (omega arith) in
      let longer = word_number-snoc k v a in
      inr (record {
        at = late.at;
        place = late.place;
        letter = late.letter;
        word = late.word;
        stands = late.stands;
        below = late.below;
        spells = late.spells;
        not_yet = late.not_yet;
        no_later = omega (arith, late.no_later, mul-one (word_number k v));
      })))

  -- an edge that wasn't followed comes after each place
  late_after : {i : ℕ} {v w : List ℕ} → TreeSpells tree i w → (x : Place ℕ) → slice_get tree i ≡ Some x → IsLate k tree e v
      → word_number k w < word_number k v
  late_after {w = w} s x at late =
      omega (arith, late.no_later, spelled-before q.fills late.spells late.letter late.below _ x w at s (omega (arith, late.not_yet, q.fills.so_far _ x at)))

  -- breadth first the word that is spelled to a place is the first that leads to its state
  pub IsLeastTo-spelled : {i : ℕ} {w : List ℕ} → TreeSpells tree i w → (x : Place ℕ) → slice_get tree i ≡ Some x → IsLeastTo Step k start x.state w
  IsLeastTo-spelled {w = w} s x at =
      let leads = Leads-spelled q.fills s x at in
      record {
        leads = leads;
        least = λ v other. word_cmp-not_greater k w v leads.word other.word (⊎_elim
            (λ reached.
            let same = q.apart reached.at _ reached.place x reached.stands at reached.of_state in
            let one = TreeSpells-unique (subst (λ n. TreeSpells tree n reached.word) same reached.spells) s in
            let number : word_number k reached.word ≡ word_number k w = ap (word_number k) one in
            omega (arith, reached.no_later))
            (λ late. omega (arith, late_after s x at late))
            (reached_or_late v x.state other));
      }

  -- where all edges were followed each state to which a word leads is reached
  pub reached_all : length tree * k ≤ e → (v : List ℕ) (t : ℕ) → Leads Step k start v t → IsReachedNoLater k tree v t
  reached_all all v t leads =
      ⊎_elim
      (λ reached. reached)
      (λ late.
      let next = mul-le-mul_right k (slice_get_within tree late.at late.place late.stands) in
      absurd (omega (arith, suc-mul late.at k, late.below, late.not_yet)))
      (reached_or_late v t leads)

  -- at any time a word leads to a state that is reached by a word no later than it, or it comes after the words of all places
  pub reached_or_after : {i : ℕ} {w : List ℕ} → TreeSpells tree i w → (x : Place ℕ) → slice_get tree i ≡ Some x → (v : List ℕ) (t : ℕ)
      → Leads Step k start v t → IsReachedNoLater k tree v t ⊎ (word_cmp w v ≡ Less)
  reached_or_after {w = w} s x at v t leads =
      ⊎_elim
      (λ reached. inl reached)
      (λ late. inr (word_cmp-less k w v (Leads-spelled q.fills s x at).word leads.word (late_after s x at late)))
      (reached_or_late v t leads)
