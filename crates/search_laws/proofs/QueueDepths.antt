-- Searches that stop at a depth, which is the length of the word that is spelled to a place.
use Rattle.std.proofs.Common.{◌≡◌, ◌≢◌, ℕ, ◌+◌, ◌*◌, ◌<◌, ◌≤◌, List, [], ◌∷◌, ◌++◌, length, Some, refl, sym, ap, subst, arith, nat_cmp, ⊎_elim, slice_get, mul-le-mul_right, suc-mul}
use Rattle.word_image.proofs.Common.{cases_eq, cases_lt, length_push, slice_cmp, All-push, IsWord, key_not_greater}
use Rattle.search_laws.specs.SearchQueues.{Place, TreeSpells, IsQueue, NoEdgeBefore}
use Rattle.search_laws.specs.Walks.{Leads}
use Rattle.search_laws.proofs.Walks.{Leads-induct}
use Rattle.search_laws.proofs.WordOrder.{word_number-snoc, length-number_le}
use Rattle.search_laws.proofs.SpelledWords.{TreeSpells-unique, TreeSpells-ascending, Leads-spelled}
use Rattle.search_laws.proofs.LeastFirst.{IsLate, reached_or_late}

-- the steps from the places before h are followed, and words of `most` letters or more are spelled to the others
pub record IsDeepFrom (k : ℕ) (tree : List (Place ℕ)) (e h most : ℕ) : Type 0 where
  pub followed : h * k ≤ e
  pub deep : (i : ℕ) (x : Place ℕ) (w : List ℕ) → h ≤ i → slice_get tree i ≡ Some x → TreeSpells tree i w → most ≤ length w

-- of two rows of a table that begin one after the other the first is no later one
row-le : (a b k n : ℕ) → b < k → a * k ≤ n * k + b → a ≤ n
row-le a b k n inside before = grind (arith, mul-le-mul_right, suc-mul, cases_lt)

module _ {Step : ℕ → ℕ → ℕ → Type 0} {k start : ℕ} {tree : List (Place ℕ)} {e : ℕ} (q : IsQueue Step k start tree e) where
  -- later places have no shorter words
  pub lengths-ascending : {i j : ℕ} {v w : List ℕ} → i ≤ j → TreeSpells tree i v → TreeSpells tree j w → (x y : Place ℕ) → slice_get tree i ≡ Some x
      → slice_get tree j ≡ Some y → length v ≤ length w
  lengths-ascending {i} {j} {v} {w} le first second x y at there =
      ⊎_elim
      (λ same. let one = ap length (TreeSpells-unique (subst (λ n. TreeSpells tree n v) same first) second) in omega arith)
      (λ other. ((key_not_greater (length v) (length w) (slice_cmp nat_cmp v w)).0 (λ greater. let less = TreeSpells-ascending q.fills (omega (arith, le, other)) first second x y at there in cc)).0)
      (cases_eq i j)

  -- an edge that wasn't followed has a word of more letters than the queue is deep, and so has what comes no earlier
  late-long : {h most : ℕ} {v : List ℕ} → IsDeepFrom k tree e h most → IsLate k tree e v → IsWord k v → most < length v
  late-long {h} {v = v} b late word =
      let past = row-le h late.letter k late.at late.below (omega (arith, late.not_yet, b.followed)) in
      let front = (Leads-spelled q.fills late.spells late.place late.stands).word in
      let short = length-number_le k (late.word ++ late.letter ∷ []) v (All-push (λ c. c < k) late.word late.letter front late.below) word (omega (arith, late.no_later, word_number-snoc k late.word late.letter)) in
      omega (arith, short, length_push late.word late.letter, b.deep late.at late.place late.word past late.stands late.spells)

  -- where no followed step leads to a state, no word of one letter to as many as the queue is deep does
  pub no_word_within : {h most goal : ℕ} → IsDeepFrom k tree e h most → NoEdgeBefore Step k tree e goal → (w : List ℕ) → 0 < length w
      → length w ≤ most
      → ¬ Leads Step k start w goal
  no_word_within {h} {most} {goal} b none w some short leads =
      Leads-induct (λ v t. 0 < length v → length v ≤ most → t ≢ goal) (λ some _ _. absurd (omega (arith, some)))
      (λ v a u t before letter step _ _ short is.
      let long = length_push v a in
      ⊎_elim
      (λ reached.
      let front = (Leads-spelled q.fills reached.spells reached.place reached.stands).word in
      let near = length-number_le k reached.word v front before.word reached.no_later in
      let inside : reached.at < h = ⊎_elim (λ l. l) (λ past. absurd (omega (arith, b.deep reached.at reached.place reached.word past reached.stands reached.spells, near, short, long))) (cases_lt reached.at h) in
      let row = mul-le-mul_right k inside in
      none reached.at a t reached.place reached.stands letter (omega (arith, row, suc-mul reached.at k, letter, b.followed)) (subst (λ z. Step z a t) (sym reached.of_state) step) is)
      (λ late. omega (arith, late-long b late before.word, short, long))
      (reached_or_late q v u before))
      w goal leads some short refl
