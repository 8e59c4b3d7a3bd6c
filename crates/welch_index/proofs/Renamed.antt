-- A rule with renamed letters has the same degree, and its words have as many last nodes and first nodes.
use Rattle.std.proofs.Common.{◌≡◌, ℕ, ◌-◌, ◌*◌, ◌^◌, ◌<◌, ◌≤◌, ◌↔◌, List, length, take, drop, slice_index, sym, ap, ap₂, ◌∙◌, subst, subst₂, arith, length-drop, length-take-le}
use Rattle.std.proofs.lemmas.List.{drop-map, take-map}
use Rattle.word_image.proofs.Common.{length-map, LocalRule, IsRule, IsWord, IsPreimage, IsLastNode, value, word_of, node_count, value-below, length-word_of, IsWord-word_of, value-word_of, word_of-value, All-take, All-drop}
use Rattle.rule_algebra.specs.Algebra.{IsRecolouring, IsRecoloured, recoloured}
use Rattle.rule_algebra.proofs.laws.Recolouring.{RecoloursImages-recoloured}
use Rattle.rule_classes.specs.Colourings.{AreInverse}
use Rattle.rule_classes.proofs.laws.Colours.{AreInverse-swap, inverse_letters, IsWord-colours, recoloured-back}
use Rattle.rule_classes.proofs.laws.Recoloured.{IsRecoloured-back}
use Rattle.welch_index.specs.Fewest.{IsFirstNode, IsFewestLast, IsFewestFirst}
use Rattle.welch_index.specs.Degrees.{HasCutNodes, IsDegree}
use Rattle.welch_index.proofs.Totals.{total, total-same, sign-most}
use Rattle.welch_index.proofs.Counts.{total-permuted}
use Rattle.welch_index.proofs.Cuts.{reads, ends, cut, last_count, first_count}
use Rattle.welch_index.proofs.Links.{reads-IsFirstNode, ends-IsLastNode}
use Rattle.welch_index.proofs.Mirrored.{same_sign}
use Rattle.welch_index.proofs.Products.{count_last, fewest-last_count, count_cut, cut_set}
use Rattle.welch_index.proofs.Firsts.{count_first, fewest-first_count}

-- g is the rule r with renamed letters, and the names are undone by `letters`
pub record AreRenamed (r g : LocalRule) (colours letters : List ℕ) : Type 0 where
  pub rule : IsRule r
  pub other : IsRule g
  pub inverse : AreInverse r.states colours letters
  pub new : IsRecoloured colours r g

-- the rule is the renamed rule, renamed back
swapped : {r g : LocalRule} {colours letters : List ℕ} → AreRenamed r g colours letters → AreRenamed g r letters colours
swapped h = record { rule = h.other; other = h.rule; inverse = rw h.new.states (AreInverse-swap h.inverse); new = IsRecoloured-back h.rule h.inverse h.new }

-- the node with renamed letters
abbrev renamed_node : LocalRule → List ℕ → ℕ → ℕ
renamed_node r colours u = value r.states (recoloured colours (word_of r.states (r.width - 1) u))

module _ {r g : LocalRule} {colours letters : List ℕ} (h : AreRenamed r g colours letters) where
  -- both rules have as many nodes
  same_nodes : node_count g ≡ node_count r
  same_nodes = ap₂ (λ (k m : ℕ). k ^ (m - 1)) h.new.states h.new.width

  -- a word with renamed letters comes back
  word_back : (w : List ℕ) → IsWord r.states w → recoloured letters (recoloured colours w) ≡ w
  word_back w word = recoloured-back (AreInverse-swap h.inverse) w word

  renamed-word : (w : List ℕ) → IsWord r.states w → IsWord g.states (recoloured colours w)
  renamed-word w word = rw h.new.states (IsWord-colours h.inverse w word)

  -- the value of m - 1 letters that are renamed
  value-renamed : (z : List ℕ) → IsWord r.states z → length z ≡ r.width - 1 → value g.states (recoloured colours z) ≡ renamed_node r colours (value r.states z)
  value-renamed z word long =
      ap (λ k. value k (recoloured colours z)) h.new.states
      ∙ ap (λ y. value r.states (recoloured colours y)) (sym (word_of-value r.states z word) ∙ ap (λ d. word_of r.states d (value r.states z)) long)

  renamed_node-below : (u : ℕ) → u < node_count r → renamed_node r colours u < node_count r
  renamed_node-below u l =
      let z = word_of r.states (r.width - 1) u in
      let long : length (recoloured colours z) ≡ r.width - 1 = length-map z (slice_index colours) ∙ length-word_of r.states (r.width - 1) u in
      subst (λ n. renamed_node r colours u < r.states ^ n) long (value-below r.states (recoloured colours z) (IsWord-colours h.inverse z (IsWord-word_of r.states (r.width - 1) u l)))

  -- a preimage with renamed letters is a preimage of the word with renamed letters
  IsPreimage-renamed : (w x : List ℕ) → IsPreimage r w x → IsPreimage g (recoloured colours w) (recoloured colours x)
  IsPreimage-renamed w x p = record {
    word = renamed-word x p.word;
    long = omega (arith, length-map x (slice_index colours), length-map w (slice_index colours), p.long, h.new.width);
    maps = RecoloursImages-recoloured h.rule h.new x p.word ∙ ap (recoloured colours) p.maps;
  }

  IsLastNode-renamed : (w : List ℕ) (u : ℕ) → IsLastNode r w u → IsLastNode g (recoloured colours w) (renamed_node r colours u)
  IsLastNode-renamed w u last = record {
    x = recoloured colours last.x;
    preimage = IsPreimage-renamed w last.x last.preimage;
    last =
        ap (λ n. value g.states (drop n (recoloured colours last.x))) (length-map w (slice_index colours))
        ∙ ap (value g.states) (drop-map (slice_index colours) (length w) last.x)
        ∙ value-renamed (drop (length w) last.x) (All-drop (λ a. a < r.states) (length w) last.x last.preimage.word) (omega (arith, length-drop (length w) last.x, last.preimage.long))
        ∙ ap (renamed_node r colours) last.last;
  }

  IsFirstNode-renamed : (w : List ℕ) (u : ℕ) → IsFirstNode r w u → IsFirstNode g (recoloured colours w) (renamed_node r colours u)
  IsFirstNode-renamed w u first = record {
    x = recoloured colours first.x;
    preimage = IsPreimage-renamed w first.x first.preimage;
    first =
        ap (λ n. value g.states (take n (recoloured colours first.x))) (ap (λ m. m - 1) h.new.width)
        ∙ ap (value g.states) (take-map (slice_index colours) (r.width - 1) first.x)
        ∙ value-renamed (take (r.width - 1) first.x) (All-take (λ a. a < r.states) (r.width - 1) first.x first.preimage.word) (length-take-le (r.width - 1) first.x (omega (arith, first.preimage.long)))
        ∙ ap (renamed_node r colours) first.first;
  }

-- a node with renamed letters comes back
node_back : {r g : LocalRule} {colours letters : List ℕ} → AreRenamed r g colours letters → (u : ℕ) → u < node_count r
    → renamed_node g letters (renamed_node r colours u) ≡ u
node_back {r} {g} {colours} {letters} h u l =
    let z = word_of r.states (r.width - 1) u in
    let y = recoloured colours z in
    let word = IsWord-word_of r.states (r.width - 1) u l in
    let long : length y ≡ g.width - 1 = length-map z (slice_index colours) ∙ length-word_of r.states (r.width - 1) u ∙ ap (λ m. m - 1) (sym h.new.width) in
    ap (renamed_node g letters) (ap (λ k. value k y) (sym h.new.states))
    ∙ sym (value-renamed (swapped h) y (renamed-word h z word) long)
    ∙ ap (value r.states) (word_back h z word)
    ∙ value-word_of r.states (r.width - 1) u l

module _ {r g : LocalRule} {colours letters : List ℕ} (h : AreRenamed r g colours letters) where
  -- below the number of nodes of the other rule
  over : (u : ℕ) → u < node_count r → u < node_count g
  over u l = omega (arith, l, same_nodes h)

  -- the node that is renamed back is below the number of nodes
  back-below : (u : ℕ) → u < node_count r → renamed_node g letters u < node_count r
  back-below u l = omega (arith, renamed_node-below (swapped h) u (over u l), same_nodes h)

  back_node : (u : ℕ) → u < node_count r → renamed_node r colours (renamed_node g letters u) ≡ u
  back_node u l = node_back (swapped h) u (over u l)

  ends-renamed : (w : List ℕ) → IsWord r.states w → (u : ℕ) → u < node_count r → ends r w u ≡ ends g (recoloured colours w) (renamed_node r colours u)
  ends-renamed w word u l =
      let v = renamed_node r colours u in
      let here = ends-IsLastNode h.rule w u l in
      let there = ends-IsLastNode h.other (recoloured colours w) v (over v (renamed_node-below h u l)) in
      same_sign (ends r w u) (ends g (recoloured colours w) v) (sign-most _) (sign-most _)
      (λ some. there.1 (IsLastNode-renamed h w u (here.0 some)))
      (λ some. here.1 (subst₂ (λ (z : List ℕ) (t : ℕ). IsLastNode r z t) (word_back h w word) (node_back h u l) (IsLastNode-renamed (swapped h) (recoloured colours w) v (there.0 some))))

  reads-renamed : (w : List ℕ) → IsWord r.states w → (u : ℕ) → u < node_count r → reads r w u ≡ reads g (recoloured colours w) (renamed_node r colours u)
  reads-renamed w word u l =
      let v = renamed_node r colours u in
      let here = reads-IsFirstNode h.rule w u l in
      let there = reads-IsFirstNode h.other (recoloured colours w) v (over v (renamed_node-below h u l)) in
      same_sign (reads r w u) (reads g (recoloured colours w) v) (sign-most _) (sign-most _)
      (λ some. there.1 (IsFirstNode-renamed h w u (here.0 some)))
      (λ some. here.1 (subst₂ (λ (z : List ℕ) (t : ℕ). IsFirstNode r z t) (word_back h w word) (node_back h u l) (IsFirstNode-renamed (swapped h) (recoloured colours w) v (there.0 some))))

  -- a sum over the nodes of the renamed rule is one over the renamed nodes
  total-nodes : (f : ℕ → ℕ) → total (λ u. f (renamed_node r colours u)) (node_count r) ≡ total f (node_count g)
  total-nodes f =
      total-permuted (node_count r) f (renamed_node r colours) (renamed_node g letters) (renamed_node-below h) back-below (node_back h) back_node ∙ ap (total f) (sym (same_nodes h))

  last_count-renamed : (w : List ℕ) → IsWord r.states w → last_count r w ≡ last_count g (recoloured colours w)
  last_count-renamed w word =
      total-same (ends r w) (λ u. ends g (recoloured colours w) (renamed_node r colours u)) (node_count r) (ends-renamed w word) ∙ total-nodes (ends g (recoloured colours w))

  first_count-renamed : (w : List ℕ) → IsWord r.states w → first_count r w ≡ first_count g (recoloured colours w)
  first_count-renamed w word =
      total-same (reads r w) (λ u. reads g (recoloured colours w) (renamed_node r colours u)) (node_count r) (reads-renamed w word) ∙ total-nodes (reads g (recoloured colours w))

  cut-renamed : (u v : List ℕ) → IsWord r.states u → IsWord r.states v → cut r u v ≡ cut g (recoloured colours u) (recoloured colours v)
  cut-renamed u v hu hv =
      let other : ℕ → ℕ = λ p. ends g (recoloured colours u) p * reads g (recoloured colours v) p in
      total-same (λ p. ends r u p * reads r v p) (λ p. other (renamed_node r colours p)) (node_count r)
      (λ p l. ap₂ (λ (a b : ℕ). a * b) (ends-renamed u hu p l) (reads-renamed v hv p l)) ∙ total-nodes other

  HasCutNodes-renamed : {u v : List ℕ} {n : ℕ} → HasCutNodes r u v n → HasCutNodes g (recoloured colours u) (recoloured colours v) n
  HasCutNodes-renamed {u} {v} has =
      subst (HasCutNodes g (recoloured colours u) (recoloured colours v)) (sym (count_cut h.rule has ∙ cut-renamed u v has.before has.after))
      (cut_set h.other (recoloured colours u) (recoloured colours v) (renamed-word h u has.before) (renamed-word h v has.after))

-- the rule with renamed letters has the degree
IsDegree-renamed : {r g : LocalRule} {colours letters : List ℕ} {d : ℕ} → AreRenamed r g colours letters → IsDegree r d → IsDegree g d
IsDegree-renamed {colours = colours} {letters = letters} h is =
    record {
      before = recoloured colours is.before;
      after = recoloured colours is.after;
      attained = HasCutNodes-renamed h is.attained;
      least = λ u v n has. is.least (recoloured letters u) (recoloured letters v) n (HasCutNodes-renamed (swapped h) has);
    }

-- no word has fewer last nodes under the rule with renamed letters
last-le : {r g : LocalRule} {colours letters : List ℕ} {a b i j : ℕ} {u v : List ℕ} → AreRenamed r g colours letters → IsFewestLast r a i u → IsFewestLast g b j v → a ≤ b
last-le {letters = letters} {v = v} h first second =
    let word = second.last.word in
    omega (arith, fewest-last_count h.rule first (recoloured letters v) (renamed-word (swapped h) v word), last_count-renamed (swapped h) v word, count_last h.other second.last, second.count)

-- no word has fewer first nodes under the rule with renamed letters
first-le : {r g : LocalRule} {colours letters : List ℕ} {a b i j : ℕ} {u v : List ℕ} → AreRenamed r g colours letters → IsFewestFirst r a i u → IsFewestFirst g b j v → a ≤ b
first-le {letters = letters} {v = v} h first second =
    let word = second.first.word in
    omega (arith, fewest-first_count h.rule first (recoloured letters v) (renamed-word (swapped h) v word), first_count-renamed (swapped h) v word, count_first h.other second.first, second.count)

module _ (r g : LocalRule) (colours : List ℕ) (rule : IsRule r) (other : IsRule g) (permutes : IsRecolouring r.states colours) (new : IsRecoloured colours r g) where
  names : (letters : List ℕ) × AreRenamed r g colours letters
  names = let found = inverse_letters permutes in (found.0, record { rule = rule; other = other; inverse = found.1; new = new })

  pub degree-renamed : (d : ℕ) → IsDegree r d ↔ IsDegree g d
  degree-renamed d = (IsDegree-renamed names.1, IsDegree-renamed (swapped names.1))

  pub last-renamed : (a b i j : ℕ) (u v : List ℕ) → IsFewestLast r a i u → IsFewestLast g b j v → a ≡ b
  last-renamed a b i j u v first second = omega (arith, last-le names.1 first second, last-le (swapped names.1) second first)

  pub first-renamed : (a b i j : ℕ) (u v : List ℕ) → IsFewestFirst r a i u → IsFewestFirst g b j v → a ≡ b
  first-renamed a b i j u v first second = omega (arith, first-le names.1 first second, first-le (swapped names.1) second first)
