-- Configurations that a rule only moves, by their windows: each window is kept, and they are those that walks of kept windows spell.
use Rattle.std.proofs.Common.{◌≡◌, ℕ, zero, suc, ◌+◌, ◌-◌, ◌/◌, ◌^◌, ◌<◌, ◌↔◌, List, drop, slice_index, get_or-take, ℤ, pos, ◌+ℤ◌, ◌-ℤ◌, IsBitSet, refl, sym, ap, ◌∙◌, subst, arith}
use Rattle.word_image.proofs.Common.{ints, LocalRule, IsRule, value, word_of, local_map, node_count, node_count_pos, end_node, window_with, end_node-below, some_letter, windows-nodes, div_below, value-below, value-front, value-tail, value-word_of, word_of-value, length-word_of}
use Rattle.word_image.specs.Ends.{end_letter}
use Rattle.word_image.specs.declared.side.Side.{Side}
use Rattle.word_image.specs.declared.side.Side.TheVariants.{Right, Left}
use Rattle.tail_config.proofs.Common.{Config, IsConfig, run, length-run, get_or-run, IsWord-run, run-by_letters, take-run, drop-run}
use Rattle.moved_configs.specs.MovedWindows.{IsMovedBy, IsMovedWindow, HasWindow, AreMovedWindows, TellMoved}
use Rattle.moved_configs.specs.Trims.{IsKept, IsCore, IsEndlessWalk, AreWindowSets}
use Rattle.moved_configs.proofs.Cores.{window-split, end_letter-below}
use Rattle.moved_configs.proofs.Walks.{IsInside, AreJoined, joined_both, word_of-front}

-- the window of a configuration at a place
abbrev pub window_at : LocalRule → Config → ℤ → ℕ
window_at r x i = value r.states (run x i r.width)

-- it is one of the windows
pub window_at-below : (r : LocalRule) (x : Config) → IsConfig r.states x → (i : ℤ) → window_at r x i < r.states ^ r.width
window_at-below r x hx i = subst (λ n. window_at r x i < r.states ^ n) (length-run x i r.width) (value-below r.states (run x i r.width) (IsWord-run hx i r.width))

-- its letters are those of the configuration
pub window_at-letter : (r : LocalRule) (x : Config) → IsConfig r.states x → (i : ℤ) (p : ℕ) → p < r.width
    → slice_index (word_of r.states r.width (window_at r x i)) p ≡ x (i +ℤ pos p)
window_at-letter r x hx i p l =
    let w : List ℕ = run x i r.width in
    let same : word_of r.states r.width (value r.states w) ≡ w = ap (λ n. word_of r.states n (value r.states w)) (sym (length-run x i r.width)) ∙ word_of-value r.states w (IsWord-run hx i r.width) in
    ap (λ u. slice_index u p) same ∙ get_or-run x i (i +ℤ pos p) r.width p l refl

-- each window of a configuration that is only moved is kept
pub IsKept-moved : (r : LocalRule) (x : Config) → IsConfig r.states x → (p : ℕ) → p < r.width → IsMovedBy r (r.offset +ℤ pos p) x → (i : ℤ) → IsKept r p (window_at r x i)
IsKept-moved r x hx p l moved i =
    let back : i -ℤ r.offset +ℤ r.offset ≡ i = omega (arith, ints) in
    let on : i -ℤ r.offset +ℤ (r.offset +ℤ pos p) ≡ i +ℤ pos p = omega (arith, ints) in
    sym (ap (λ j. local_map r (run x j r.width)) back) ∙ moved (i -ℤ r.offset) ∙ ap x on ∙ sym (window_at-letter r x hx i p l)

-- a configuration is only moved if each of its windows is kept
pub IsMovedBy-kept : (r : LocalRule) (x : Config) → IsConfig r.states x → (p : ℕ) → p < r.width → ((i : ℤ) → IsKept r p (window_at r x i)) → IsMovedBy r (r.offset +ℤ pos p) x
IsMovedBy-kept r x hx p l kept i =
    let on : i +ℤ r.offset +ℤ pos p ≡ i +ℤ (r.offset +ℤ pos p) = omega (arith, ints) in
    kept (i +ℤ r.offset) ∙ window_at-letter r x hx (i +ℤ r.offset) p l ∙ ap x on

-- the first node of a window
pub window_at-left : (r : LocalRule) (x : Config) → IsRule r → IsConfig r.states x → (i : ℤ) → end_node Left r (window_at r x i) ≡ value r.states (run x i (r.width - 1))
window_at-left r x rule hx i =
    sym (value-front r.states (r.width - 1) (run x i r.width) (IsWord-run hx i r.width) (omega (arith, length-run x i r.width, rule.shape.least_width)))
    ∙ ap (value r.states) (take-run x i r.width (r.width - 1) (omega arith))

-- the last node of a window
pub window_at-right : (r : LocalRule) (x : Config) → IsRule r → IsConfig r.states x → (i : ℤ) → end_node Right r (window_at r x i) ≡ value r.states (run x (i +ℤ pos 1) (r.width - 1))
window_at-right r x rule hx i =
    let all : r.width ≡ 1 + (r.width - 1) = omega (arith, rule.shape.least_width) in
    sym (value-tail r.states (r.width - 1) (run x i r.width) (IsWord-run hx i r.width) (omega (arith, length-run x i r.width, rule.shape.least_width)))
    ∙ ap (λ n. value r.states (drop 1 (run x i n))) all
    ∙ ap (value r.states) (drop-run x i (i +ℤ pos 1) 1 (r.width - 1) refl)

-- the nodes of a configuration that is only moved are an endless walk
pub IsEndlessWalk-moved : (r : LocalRule) (x : Config) → IsRule r → IsConfig r.states x → (p : ℕ) → p < r.width → IsMovedBy r (r.offset +ℤ pos p) x
    → IsEndlessWalk r p (λ i. value r.states (run x i (r.width - 1)))
IsEndlessWalk-moved r x rule hx p l moved i =
    (window_at r x i, window_at-below r x hx i, (IsKept-moved r x hx p l moved i, (window_at-left r x rule hx i, window_at-right r x rule hx i)))

-- each window of a configuration that is only moved is inside the core
pub IsInside-moved : (r : LocalRule) (x : Config) → IsRule r → IsConfig r.states x → (p set : ℕ) → p < r.width → IsCore r p set → IsMovedBy r (r.offset +ℤ pos p) x
    → (i : ℤ) → IsInside r p set (window_at r x i)
IsInside-moved r x rule hx p set l core moved i =
    let walk = IsEndlessWalk-moved r x rule hx p l moved in
    record {
      within = window_at-below r x hx i;
      kept = IsKept-moved r x hx p l moved i;
      ends = both (subst (IsBitSet set) (sym (window_at-left r x rule hx i)) (core.walks _ walk i)) (subst (IsBitSet set) (sym (window_at-right r x rule hx i)) (core.walks _ walk (i +ℤ pos 1)));
    }
  where
    both : IsBitSet set (end_node Left r (window_at r x i)) → IsBitSet set (end_node Right r (window_at r x i)) → (side : Side) → IsBitSet set (end_node side r (window_at r x i))
    both first last Right = last
    both first last Left = first

-- the letters of the windows are those of the configuration
pub spelled-letters : (r : LocalRule) (p set w : ℕ) → IsRule r → (h : AreJoined r p set w) → (a : ℕ) → a < r.width → (i : ℤ)
    → slice_index (word_of r.states r.width (h.windows i)) a ≡ h.windows (i +ℤ pos a) / node_count r
spelled-letters r p set w rule h zero l i =
    let all : r.width ≡ suc (r.width - 1) = omega (arith, rule.shape.least_width) in
    let here : i ≡ i +ℤ pos 0 = omega (arith, ints) in
    ap (λ n. slice_index (word_of r.states n (h.windows i)) 0) all ∙ ap (λ j. h.windows j / node_count r) here
spelled-letters r p set w rule h (suc a) l i =
    let k : ℕ = r.states in
    let n : ℕ = r.width - 1 in
    let next : ℤ = i +ℤ pos 1 in
    let all : r.width ≡ suc n = omega (arith, rule.shape.least_width) in
    let more : r.width ≡ n + 1 = omega (arith, rule.shape.least_width) in
    let place : next +ℤ pos a ≡ i +ℤ pos (suc a) = omega (arith, ints) in
    let below : h.windows next < k ^ (n + 1) = subst (λ j. h.windows next < k ^ j) more (h.inside next).within in
    ap (λ j. slice_index (word_of k j (h.windows i)) (suc a)) all
    ∙ ap (λ v. slice_index (word_of k n v) a) (sym (h.joined i))
    ∙ ap (λ u. slice_index u a) (word_of-front k n (h.windows next) (some_letter rule) below)
    ∙ get_or-take n (word_of k (n + 1) (h.windows next)) a 0 (omega arith)
    ∙ ap (λ j. slice_index (word_of k j (h.windows next)) a) (sym more)
    ∙ spelled-letters r p set w rule h a (omega arith) next
    ∙ ap (λ j. h.windows j / node_count r) place

-- the windows of the configuration are those that spell it
pub spelled-windows : (r : LocalRule) (p set w : ℕ) → IsRule r → (h : AreJoined r p set w) → (i : ℤ) → window_at r (λ j. h.windows j / node_count r) i ≡ h.windows i
spelled-windows r p set w rule h i =
    sym (ap (value r.states) (run-by_letters (λ j. h.windows j / node_count r) i r.width (word_of r.states r.width (h.windows i)) (length-word_of r.states r.width (h.windows i))
    (λ a l. spelled-letters r p set w rule h a l i)))
    ∙ value-word_of r.states r.width (h.windows i) (h.inside i).within

-- the configuration that joined windows spell has letters
pub spelled-config : (r : LocalRule) (p set w : ℕ) → IsRule r → (h : AreJoined r p set w) → IsConfig r.states (λ j. h.windows j / node_count r)
spelled-config r p set w rule h i = div_below (h.windows i) (node_count r) r.states (node_count_pos rule) (omega (arith, windows-nodes rule, (h.inside i).within))

-- a window inside the core occurs in a configuration that is only moved
pub IsMovedWindow-inside : (r : LocalRule) (p set w : ℕ) → IsRule r → p < r.width → IsCore r p set → IsInside r p set w → IsMovedWindow r (r.offset +ℤ pos p) w
IsMovedWindow-inside r p set w rule l core inside =
    let h : AreJoined r p set w = joined_both p set w rule core.fixed inside in
    let x : Config = λ j. h.windows j / node_count r in
    let config : IsConfig r.states x = spelled-config r p set w rule h in
    record {
      x = x;
      place = pos 0;
      config = config;
      moved = IsMovedBy-kept r x config p l (λ i. subst (IsKept r p) (sym (spelled-windows r p set w rule h i)) (h.inside i).kept);
      occurs = spelled-windows r p set w rule h (pos 0) ∙ h.starts;
    }

-- the rows have the windows inside
pub HasWindow-inside : (r : LocalRule) (p set : ℕ) (rows : List ℕ) → IsRule r → AreWindowSets r p set rows → (w : ℕ) → w < r.states ^ r.width → (HasWindow r rows w ↔ IsInside r p set w)
HasWindow-inside r p set rows rule sets w within =
    let u : ℕ = end_node Left r w in
    let a : ℕ = end_letter Right r w in
    let same : window_with Right r u a ≡ w = window-split Right r w in
    let bit = (sets.letters u (end_node-below Left rule w within)).nodes a (end_letter-below Right rule w within) in (
      λ has.
          let (first, (kept, last)) = bit.0 has in
          record {
            within = within;
            kept = subst (IsKept r p) same kept;
            ends = both first (subst (λ v. IsBitSet set (end_node Right r v)) same last);
          },
      λ inside. bit.1 (inside.ends Left, (subst (IsKept r p) (sym same) inside.kept, subst (λ v. IsBitSet set (end_node Right r v)) (sym same) (inside.ends Right))),
    )
  where
    both : IsBitSet set (end_node Left r w) → IsBitSet set (end_node Right r w) → (side : Side) → IsBitSet set (end_node side r w)
    both first last Right = last
    both first last Left = first

-- the rows have the windows of the configurations that are only moved
pub AreMovedWindows-core : (r : LocalRule) (p set : ℕ) (rows : List ℕ) → IsRule r → p < r.width → IsCore r p set → AreWindowSets r p set rows → AreMovedWindows r (r.offset +ℤ pos p) rows
AreMovedWindows-core r p set rows rule l core sets w within =
    let has = HasWindow-inside r p set rows rule sets w within in (
      λ h. IsMovedWindow-inside r p set w rule l core (has.0 h),
      λ m. has.1 (subst (IsInside r p set) m.occurs (IsInside-moved r m.x rule m.config p set l core m.moved m.place)),
    )

-- the rows tell which configurations are only moved
pub TellMoved-core : (r : LocalRule) (p set : ℕ) (rows : List ℕ) → IsRule r → p < r.width → IsCore r p set → AreWindowSets r p set rows → TellMoved r (r.offset +ℤ pos p) rows
TellMoved-core r p set rows rule l core sets x hx = (
  λ moved i. (HasWindow-inside r p set rows rule sets (window_at r x i) (window_at-below r x hx i)).1 (IsInside-moved r x rule hx p set l core moved i),
  λ all. IsMovedBy-kept r x hx p l (λ i. ((HasWindow-inside r p set rows rule sets (window_at r x i) (window_at-below r x hx i)).0 (all i)).kept),
)
