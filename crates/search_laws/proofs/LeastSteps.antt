-- The first edge of a breadth first queue that leads to a state, and the first word of at least one letter that does.
use Rattle.std.proofs.Common.{◌≡◌, ◌≢◌, ℕ, ◌+◌, ◌*◌, ◌<◌, ◌≤◌, List, [], ◌∷◌, ◌++◌, length, Some, refl, sym, ap, subst, arith, ⊎_elim, slice_get, mul-le-mul_left, mul-le-mul_right, suc-mul, mul-one, Greater}
use Rattle.word_image.proofs.Common.{cases_lt, slice_get_within, length_push, word_cmp}
use Rattle.search_laws.specs.SearchQueues.{Place, TreeSpells, IsQueue, filled, NoEdgeBefore}
use Rattle.search_laws.specs.Walks.{Leads}
use Rattle.search_laws.proofs.Walks.{Leads-push, Leads-induct}
use Rattle.search_laws.proofs.QueueSteps.{filled-later}
use Rattle.search_laws.proofs.WordOrder.{word_number, word_number-snoc, word_cmp-not_greater}
use Rattle.search_laws.proofs.SpelledWords.{Leads-spelled, edges-ascending}
use Rattle.search_laws.proofs.LeastFirst.{reached_or_late, reached_all}

-- w is the first word of at least one letter that leads to the state
pub record IsLeastStepsTo (Step : ℕ → ℕ → ℕ → Type 0) (k start t : ℕ) (w : List ℕ) : Type 0 where
  pub some : 0 < length w
  pub leads : Leads Step k start w t
  pub least : (v : List ℕ) → 0 < length v → Leads Step k start v t → word_cmp w v ≢ Greater

module _ {Step : ℕ → ℕ → ℕ → Type 0} {k start : ℕ} {tree : List (Place ℕ)} {e : ℕ} (q : IsQueue Step k start tree e) where
  -- no edge to a state comes before the one that first led to it
  pub filled-least : (i j b : ℕ) (x y : Place ℕ) → slice_get tree i ≡ Some x → slice_get tree j ≡ Some y → b < k → Step y.state b x.state
      → filled k i x ≤ j * k + b + 1
  filled-least i j b x y at from letter step = grind (arith, cases_lt)

  -- a state's parent is the first place from which a step leads to it, and its letter the first on which one does from there
  pub parent-least : (i j b : ℕ) (x y : Place ℕ) → 0 < i → slice_get tree i ≡ Some x → slice_get tree j ≡ Some y → b < k → Step y.state b x.state
      → (x.parent ≤ j) × (x.parent ≡ j → x.letter ≤ b)
  parent-least i j b x y positive at from letter step =
      let least : x.parent * k + x.letter ≤ j * k + b = omega (arith, filled-least i j b x y at from letter step, filled-later k i x positive) in (
        ⊎_elim
            (λ past.
            let next = mul-le-mul_right k past in
            absurd (omega (arith, suc-mul j k)))
            (λ l. l)
            (cases_lt j x.parent),
        (λ same. let row : x.parent * k ≡ j * k = ap (λ n. n * k) same in omega arith),
      )

  -- the word of an edge, where no edge before it leads to the state, isn't greater than one of at least one letter that does
  first_edge : {h : ℕ} {w : List ℕ} → TreeSpells tree h w → (x : Place ℕ) → slice_get tree h ≡ Some x → (n : ℕ) → n < k → e ≡ h * k + n → (t : ℕ)
      → NoEdgeBefore Step k tree e t
      → (v : List ℕ) → 0 < length v → Leads Step k start v t → word_number k w * k + n + 1 ≤ word_number k v
  first_edge {w = w} s x at n letter edge goal none v some leads =
      Leads-induct (λ u t. 0 < length u → t ≡ goal → word_number k w * k + n + 1 ≤ word_number k u) (λ some _. absurd (omega arith))
      (λ u a from t before below step _ _ is.
      let longer = word_number-snoc k u a in
      ⊎_elim
      (λ reached.
      let later : ¬ (reached.at * k + a < e) = λ early. none reached.at a t reached.place reached.stands below early (subst (λ z. Step z a t) (sym reached.of_state) step) is in
      let order = edges-ascending q.fills s reached.spells x at n a letter below (⊎_elim (λ early. absurd (later early)) (λ l. omega arith) (cases_lt (reached.at * k + a) e)) in
      let more = mul-le-mul_right k reached.no_later in
      omega arith)
      (λ late.
      let order = edges-ascending q.fills s late.spells x at n late.letter letter late.below (omega (arith, late.not_yet)) in
      let more : word_number k u * 1 ≤ word_number k u * k = mul-le-mul_left (word_number k u) (omega arith) in
      omega (arith, late.no_later, mul-one (word_number k u)))
      (reached_or_late q u from before)) v goal leads some refl

  -- the first edge that leads to a state ends the first word of at least one letter that does
  pub IsLeastStepsTo-edge : {h : ℕ} {w : List ℕ} → TreeSpells tree h w → (x : Place ℕ) → slice_get tree h ≡ Some x → (n : ℕ) → n < k → e ≡ h * k + n
      → (t : ℕ) → NoEdgeBefore Step k tree e t → Step x.state n t
      → IsLeastStepsTo Step k start t (w ++ n ∷ [])
  IsLeastStepsTo-edge {w = w} s x at n letter edge t none step =
      let leads = Leads-push (Leads-spelled q.fills s x at) letter step in
      record {
        some = omega (arith, length_push w n);
        leads = leads;
        least = λ v some other. word_cmp-not_greater k (w ++ n ∷ []) v leads.word other.word
            (omega (arith, first_edge s x at n letter edge t none v some other, word_number-snoc k w n));
      }

  -- where all edges were followed and none leads to the state, no word of at least one letter does
  pub no_steps_to : length tree * k ≤ e → (t : ℕ) → NoEdgeBefore Step k tree e t → (v : List ℕ) → 0 < length v → ¬ Leads Step k start v t
  no_steps_to all goal none v some leads =
      Leads-induct (λ u t. 0 < length u → t ≢ goal) (λ some _. omega arith)
      (λ u a from t before below step _ _ is.
      let reached = reached_all q all u from before in
      let next = mul-le-mul_right k (slice_get_within tree reached.at reached.place reached.stands) in
      none reached.at a t reached.place reached.stands below (omega (arith, suc-mul reached.at k)) (subst (λ z. Step z a t) (sym reached.of_state) step) is)
      v goal leads some refl
