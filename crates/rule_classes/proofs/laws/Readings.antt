-- A window is read from its last letter on, in the old letters.
use Rattle.std.proofs.Common.{◌≡◌, ℕ, suc, ◌+◌, ◌-◌, ◌*◌, ◌/◌, ◌%◌, ◌^◌, ◌<◌, ◌≤◌, List, [], ◌∷◌, ◌++◌, length, reverse, drop, get_or, slice_index, if◌then◌else◌, Bool, true, false, refl, sym, ap, ap₂, ◌∙◌, arith, add-one, pow-suc, mod-eq_of_lt, length-drop}
use Rattle.word_image.proofs.Common.{pow-zero, div-eq_of_lt, div-div-eq-div-mul, div-mul-add, mod-mul-add, length_push, map-append, length-map, length-reverse, reverse-append, drop_all, drop_more, get_or-map, All-push, All-drop, LocalRule, IsRule, IsWord, value, word_of, local_map, node_count, value-snoc, value-below, value-word_of, word_of-value, IsWord-word_of, length-word_of, IsWord-reverse, local_map-mirrored, window_count-le, some_letter, window_with-within, window_with, end_node, get_or-word_of, fewer_values}
use Rattle.word_image.specs.declared.side.Side.TheVariants.{Right}
use Rattle.rule_algebra.specs.Algebra.{recoloured}
use Rattle.rule_classes.specs.Classes.{turned}
use Rattle.rule_classes.specs.Colourings.{IsColouring, old_word, old_value, entry, read_as, last_side}
use Rattle.rule_classes.specs.Tables.{IsRow}
use Rattle.rule_classes.specs.declared.colourings.Colouring.{Colouring}
use Rattle.rule_classes.specs.declared.colourings.Row.{Row}
use Rattle.rule_classes.proofs.laws.Colours.{AreInverse-swap, IsWord-colours}

-- Words, read forwards or backwards

-- the value of a word, read forwards or backwards, is one of the values of its length
value-read_as-below : (mirror : Bool) (k n : ℕ) (w : List ℕ) → IsWord k w → length w ≡ n → value k (read_as mirror w) < k ^ n
value-read_as-below true k n w word long = rw (← long, ← length-reverse w) (value-below k (reverse w) (IsWord-reverse k w word))
value-read_as-below false k n w word long = rw (← long) (value-below k w word)

-- the value of a word with one letter more before it, read forwards or backwards
value-read_as : (mirror : Bool) (k a : ℕ) (w : List ℕ)
    → value k (read_as mirror (a ∷ w)) ≡ (if mirror then value k (read_as mirror w) * k + a else a * k ^ length w + value k (read_as mirror w))
value-read_as true k a w = ap (value k) (reverse-append (a ∷ []) w) ∙ value-snoc k (reverse w) a
value-read_as false k a w = refl

-- The window in the old letters

length-old_word : (r : LocalRule) (c : Colouring) (v : ℕ) → length (old_word r c v) ≡ r.width
length-old_word r c v = length-map (word_of r.states r.width v) (slice_index c.letters) ∙ length-word_of r.states r.width v

IsWord-old_word : (r : LocalRule) (c : Colouring) (v : ℕ) → IsColouring r.states c → v < r.states ^ r.width → IsWord r.states (old_word r c v)
IsWord-old_word r c v colouring below = IsWord-colours (AreInverse-swap colouring) (word_of r.states r.width v) (IsWord-word_of r.states r.width v below)

-- the word of a number with one more digit behind it
pub word_of-snoc : (k n u a : ℕ) → u < k ^ n → a < k → word_of k (suc n) (u * k + a) ≡ word_of k n u ++ a ∷ []
word_of-snoc k n u a below letter =
    let w : List ℕ = word_of k n u ++ a ∷ [] in
    let long : suc n ≡ length w = omega (arith, length_push (word_of k n u) a, length-word_of k n u) in
    let is : u * k + a ≡ value k w = sym (value-snoc k (word_of k n u) a ∙ ap (λ x. x * k + a) (value-word_of k n u below)) in
    ap₂ (word_of k) long is ∙ word_of-value k w (All-push (λ b. b < k) (word_of k n u) a (IsWord-word_of k n u below) letter)

-- when i letters are read, from the last one on: the digits of what is left, and the value of the old letters
pub record IsReadSoFar (r : LocalRule) (c : Colouring) (v i left power old : ℕ) : Type 0 where
  pub rest : left ≡ v / r.states ^ i
  pub raised : power ≡ r.states ^ i
  pub reads : old ≡ value r.states (read_as c.mirrored (drop (r.width - i) (old_word r c v)))

-- at the beginning no letter of a window is read
pub IsReadSoFar-none : {r : LocalRule} (c : Colouring) (v : ℕ) → IsReadSoFar r c v 0 v 1 0
IsReadSoFar-none {r} c v = grind (arith, pow-zero, drop_all, length-old_word)

-- the values of what was read so far are few
pub IsReadSoFar-few : {r : LocalRule} {c : Colouring} {v i left power old : ℕ} → IsRule r → IsColouring r.states c
    → v < r.states ^ r.width → i ≤ r.width
    → IsReadSoFar r c v i left power old → (old < r.states ^ i) × (r.states ^ i ≤ 256)
IsReadSoFar-few {r} {c} {v} {i} rule colouring below l h =
    let letters = All-drop (λ a. a < r.states) (r.width - i) (old_word r c v) (IsWord-old_word r c v colouring below) in (
      rw h.reads (value-read_as-below c.mirrored r.states i _ letters (omega (arith, length-drop (r.width - i) (old_word r c v), length-old_word r c v))),
      fewer_values rule i r.width (window_count-le r.states r.width r.offset rule.shape) l,
    )

-- one letter more of a window is read
pub IsReadSoFar-more : {r : LocalRule} {c : Colouring} {v i left power old : ℕ} → v < r.states ^ r.width → i < r.width
    → IsReadSoFar r c v i left power old
    → IsReadSoFar r c v (i + 1) (left / r.states) (power * r.states)
    (if c.mirrored then old * r.states + slice_index c.letters (left % r.states) else slice_index c.letters (left % r.states) * power + old)
IsReadSoFar-more {r} {c} {v} {i} {left} {power} {old} below l h =
    let k : ℕ = r.states in
    let n : ℕ = r.width - (i + 1) in
    let long = length-old_word r c v in
    let digits : r.width - 1 - n ≡ i = omega arith in
    let more : r.width - i ≡ n + 1 = omega arith in
    let longer : length (drop (n + 1) (old_word r c v)) ≡ i = omega (arith, length-drop (n + 1) (old_word r c v)) in
    let letter : get_or (old_word r c v) n 0 ≡ slice_index c.letters (left % k) =
    get_or-map (slice_index c.letters) (word_of k r.width v) n 0 0 (omega (arith, length-word_of k r.width v))
    ∙ ap (slice_index c.letters) (get_or-word_of k n r.width v (omega arith) below ∙ ap (λ j. v / k ^ j % k) digits ∙ ap (λ x. x % k) (sym h.rest)) in
    let reads = rw more at h.reads in
    record {
      rest = rw (h.rest, add-one, pow-suc, div-div-eq-div-mul) refl;
      raised = rw (h.raised, add-one, pow-suc) refl;
      reads = rw (drop_more (old_word r c v) n 0 (omega arith), letter, value-read_as c.mirrored k (slice_index c.letters (left % k)), longer, ← reads, ← h.raised) refl;
    }

-- The value of the whole window

-- the old value of a window is a window's value
pub old_value-below : (r : LocalRule) (c : Colouring) (v : ℕ) → IsColouring r.states c → v < r.states ^ r.width → old_value r c v < r.states ^ r.width
old_value-below r c v colouring below =
    value-read_as-below c.mirrored r.states r.width (old_word r c v) (IsWord-old_word r c v colouring below) (length-old_word r c v)

-- a word without its first letter and with one more behind, read forwards or backwards
value-moved : (r : LocalRule) (mirror : Bool) (f b : ℕ) (y : List ℕ) → f < r.states → IsWord r.states y → length y ≡ r.width - 1
    → value r.states (read_as mirror (y ++ b ∷ [])) ≡ window_with (last_side mirror) r (end_node (last_side mirror) r (value r.states (read_as mirror (f ∷ y)))) b
value-moved r true f b y letter word long =
    let back : value r.states (reverse (f ∷ y)) / r.states ≡ value r.states (reverse y) = ap (λ x. x / r.states) (value-read_as true r.states f y) ∙ div-mul-add (value r.states (reverse y)) r.states f letter in
    ap (value r.states) (reverse-append y (b ∷ [])) ∙ ap₂ (λ (n x : ℕ). b * r.states ^ n + x) (length-reverse y ∙ long) (sym back)
value-moved r false f b y letter word long = grind (arith, mod-mul-add, value-below, value-snoc)

-- the old value of a window of a node is the one of the window of the node itself, moved on by the old letter of its last digit
old_value-moved : {r : LocalRule} (c : Colouring) (u a : ℕ) → IsRule r → IsColouring r.states c → u < node_count r → a < r.states
    → old_value r c (u * r.states + a) ≡ window_with (last_side c.mirrored) r (end_node (last_side c.mirrored) r (old_value r c u)) (slice_index c.letters a)
old_value-moved {r} c u a rule colouring node letter =
    let k : ℕ = r.states in
    let n : ℕ = r.width - 1 in
    let w : List ℕ = word_of k n u in
    let f : ℕ = slice_index c.letters 0 in
    let b : ℕ = slice_index c.letters a in
    let here : old_word r c (u * k + a) ≡ recoloured c.letters w ++ b ∷ [] = grind (arith, word_of-snoc, map-append) in
    let there : old_word r c u ≡ f ∷ recoloured c.letters w = grind (arith, div-eq_of_lt, mod-eq_of_lt) in
    ap (λ x. value k (read_as c.mirrored x)) here
    ∙ value-moved r c.mirrored f b (recoloured c.letters w) (colouring.letter 0 (some_letter rule)) (IsWord-colours (AreInverse-swap colouring) w (IsWord-word_of k n u node)) (length-map w (slice_index c.letters) ∙ length-word_of k n u)
    ∙ ap (λ x. window_with (last_side c.mirrored) r (end_node (last_side c.mirrored) r (value k (read_as c.mirrored x))) b) (sym there)

-- What is given

-- the mirrored rule gives what the rule gives on the window read backwards
local_map-read_as : (r : LocalRule) (mirror : Bool) (w : List ℕ) → IsWord r.states w → length w ≡ r.width
    → local_map r (read_as mirror w) ≡ local_map (turned r mirror) w
local_map-read_as r true w word long = sym (local_map-mirrored r w word long)
local_map-read_as r false w word long = refl

-- the entry of a window is the new colour of what the rule gives on the window in the old letters
pub entry-read : (r : LocalRule) (c : Colouring) (v : ℕ) → IsColouring r.states c → v < r.states ^ r.width
    → slice_index c.colours (slice_index r.table (old_value r c v)) ≡ entry r c v
entry-read r c v colouring below = grind (arith, local_map-read_as, IsWord-old_word, length-old_word)

-- Windows of a node and a last letter

pub window-below : {r : LocalRule} → IsRule r → (u a : ℕ) → u < node_count r → a < r.states → u * r.states + a < r.states ^ r.width
window-below rule u a node letter = window_with-within Right rule u a node letter

-- the values of the windows of a node are made from that of the window of the node itself
pub IsRow-made : {r : LocalRule} {c : Colouring} {back : ℕ} (u : ℕ) (row : Row) → IsRule r → IsColouring r.states c → u < node_count r
    → back ≡ old_value r c u
    → ((a : ℕ) → row.start + a * row.step ≡ window_with (last_side c.mirrored) r (end_node (last_side c.mirrored) r back) a) → IsRow r c u row
IsRow-made {r} {c} u row rule colouring node value made = grind (arith, old_value-moved)
