-- A first pair from which a walk leads into a loop gives a normal right split.
use Rattle.std.proofs.Common.{◌≡◌, ℕ, ◌+◌, ◌-◌, ◌<◌, List, [], ◌∷◌, ◌++◌, length, take, drop, get_or, Some, refl, sym, ap, ◌∙◌, subst, arith, length-append, length-drop, take_at, drop_at, ◌≤◌, zip}
use Rattle.word_image.proofs.Common.{All-append, All-drop, All-push, get_or_at, LocalRule, IsRule, IsWord, value, word_of, node_count, pair_of, follow, pair_count, IsRing, IsFirstOfRight, length-word_of, IsWord-word_of, value-word_of, node_count_pos}
use Rattle.tail_config.proofs.Common.{TailConfig, IsTail, IsNormalRightSplit, IsWord-zero}
use Rattle.pair_laws.proofs.Walks.{LeadTogether}
use Rattle.pair_laws.proofs.Common.{follow-pair_of}
use Rattle.search_laws.proofs.Common.{LetterPairStep, Walk-join}
use Rattle.tail_laws.proofs.PairLeads.{PairLeads}
use Rattle.tail_laws.proofs.WordWalks.{PairLeads-words, zip-append}
use Rattle.tail_laws.proofs.Settled.{IsNormalRightSplit-walk}

-- from each node a walk of m - 1 steps leads to each other one, so from the pair of the one twice to that of the other twice
abbrev pub LeadTogether-diagonal : {r : LocalRule} → (u v : ℕ) → u < node_count r → v < node_count r → LeadTogether r u u (r.width - 1) v v
LeadTogether-diagonal {r} u v hu hv =
    let m : ℕ = r.width - 1 in
    let a = word_of r.states m u in
    let b = word_of r.states m v in
    let long_a = length-word_of r.states m u in
    let word = All-append (λ c. c < r.states) a b (IsWord-word_of r.states m u hu) (IsWord-word_of r.states m v hv) in
    let long : length (a ++ b) ≡ m + m = omega (arith, length-append a b, long_a, length-word_of r.states m v) in
    let front : value r.states (take m (a ++ b)) ≡ u = ap (value r.states) (take_at a b m long_a) ∙ value-word_of r.states m u hu in
    let back : value r.states (drop m (a ++ b)) ≡ v = ap (value r.states) (drop_at a b m long_a) ∙ value-word_of r.states m v hv in
    record {
      x = a ++ b;
      y = a ++ b;
      one_image = record { first = word; second = word; first_long = long; second_long = long; one_image = refl };
      first = front;
      second = front;
      first_last = back;
      second_last = back;
    }

-- so the word of a node leads from the pair of another node twice to that of this node twice
PairLeads-diagonal : {r : LocalRule} → IsRule r → (u v : ℕ) → u < node_count r → v < node_count r
    → PairLeads r (pair_of r u u) (zip (word_of r.states (r.width - 1) v) (word_of r.states (r.width - 1) v)) (pair_of r v v)
PairLeads-diagonal {r} rule u v hu hv =
    let m : ℕ = r.width - 1 in
    let w = LeadTogether-diagonal {r = r} u v hu hv in
    grind (arith, drop_at, length-word_of, PairLeads-words)

-- the letters of a walk of n steps from the pair p to the pair q
pub record IsLetterWalk (r : LocalRule) (p n q : ℕ) : Type 0 where
  pub a : List ℕ
  pub b : List ℕ
  pub a_word : IsWord r.states a
  pub b_word : IsWord r.states b
  pub a_long : length a ≡ n
  pub b_long : length b ≡ n
  pub leads : PairLeads r p (zip a b) q

-- a walk has letters
pub IsLetterWalk-walk : {r : LocalRule} {u v n s t : ℕ} → IsRule r → LeadTogether r u v n s t → IsLetterWalk r (pair_of r u v) n (pair_of r s t)
IsLetterWalk-walk {r} rule h =
    let m : ℕ = r.width - 1 in
    record {
      a = drop m h.x;
      b = drop m h.y;
      a_word = All-drop (λ c. c < r.states) m h.x h.one_image.first;
      b_word = All-drop (λ c. c < r.states) m h.y h.one_image.second;
      a_long = omega (arith, length-drop m h.x);
      b_long = omega (arith, length-drop m h.y);
      leads = rw (← h.first, ← h.second, ← h.first_last, ← h.second_last) (PairLeads-words rule h.one_image);
    }

-- from a pair a walk to another one, and a loop there
pub record LeadsToLoop (r : LocalRule) (p : ℕ) : Type 0 where
  pub pair : ℕ
  pub before : ℕ
  pub turn : ℕ
  pub reach : IsLetterWalk r p before pair
  pub loop : IsLetterWalk r pair turn pair
  pub some : 0 < turn
  pub within : before + turn ≤ pair_count r

-- the configuration of a node, a letter, a walk and a loop
abbrev pub looped_tail : LocalRule → ℕ → ℕ → List ℕ → List ℕ → TailConfig
looped_tail r node a walk turn = record { left = 0 ∷ []; middle = word_of r.states (r.width - 1) node ++ a ∷ walk; right = turn }

-- the configuration of a node, a letter, a walk and a loop is one over the rule's letters
IsTail-looped_tail : {r : LocalRule} → IsRule r → (node a : ℕ) (walk turn : List ℕ) → node < node_count r → a < r.states → IsWord r.states walk
    → IsRing r.states turn → IsTail r.states (looped_tail r node a walk turn)
IsTail-looped_tail {r} rule node a walk turn hn ha hw ht =
    let m : ℕ = r.width - 1 in
    record {
      left_some = omega arith;
      right_some = ht.some;
      left_word = IsWord-zero (omega arith);
      middle_word = All-append (λ c. c < r.states) (word_of r.states m node) (a ∷ walk) (IsWord-word_of r.states m node hn) (All-append (λ c. c < r.states) (a ∷ []) walk (All-push (λ c. c < r.states) [] a (λ i d l. absurd (omega arith)) ha) hw);
      right_word = ht.word;
    }

-- a first pair that leads to a loop gives a normal right split
pub normal_split-loop : {r : LocalRule} {p : ℕ} → IsRule r → (f : IsFirstOfRight r p) (w : LeadsToLoop r p)
    → IsNormalRightSplit r (looped_tail r f.node f.a w.reach.a w.loop.a) (looped_tail r f.node f.b w.reach.b w.loop.b)
normal_split-loop {r} {p} rule f w =
    let m : ℕ = r.width - 1 in
    let z = word_of r.states m f.node in
    let long = length-word_of r.states m f.node in
    let twice : ℕ = pair_of r f.node f.node in
    let there : PairLeads r 0 (zip z z) twice = subst (λ q. PairLeads r q (zip z z) twice) (omega arith) (PairLeads-diagonal rule 0 f.node (node_count_pos rule) f.in_nodes) in
    let step = follow-pair_of r f.node f.node f.a f.b f.in_nodes f.one_label ∙ ap (λ q. Some q) (sym f.pair) in
    let whole = Walk-join (LetterPairStep (follow r)) (zip z z) ((f.a, f.b) ∷ zip w.reach.a w.reach.b) 0 twice w.pair there (p, step, w.reach.leads) in
    let letter : (a : ℕ) (walk : List ℕ) → get_or (z ++ a ∷ walk) m 0 ≡ a = λ a walk. get_or_at z a walk 0 m long in
    let some : 1 ≤ w.turn = w.some in
    IsNormalRightSplit-walk rule
    (IsTail-looped_tail rule f.node f.a w.reach.a w.loop.a f.in_nodes f.a_letter w.reach.a_word (record { word = w.loop.a_word; some = omega arith }))
    (IsTail-looped_tail rule f.node f.b w.reach.b w.loop.b f.in_nodes f.b_letter w.reach.b_word (record { word = w.loop.b_word; some = omega arith }))
    refl refl (omega (arith, length-append z (f.a ∷ w.reach.a), length-append z (f.b ∷ w.reach.b))) (w.loop.a_long ∙ sym w.loop.b_long) w.pair
    (rw (zip-append z (f.a ∷ w.reach.a) z (f.b ∷ w.reach.b) refl) whole) w.loop.leads
    (λ e. f.different (sym (letter f.a w.reach.a) ∙ ap (λ l. get_or l m 0) e.0 ∙ letter f.b w.reach.b))
