-- The values of the images of all words of one length.
use Rattle.std.proofs.Common.{◌≡◌, ℕ, suc, ◌+◌, ◌-◌, ◌*◌, ◌%◌, ◌^◌, ◌<◌, ◌≤◌, List, [], ◌∷◌, ◌++◌, All, length, map, take, drop, get_or, slice_index, sym, ap, ap₂, subst, ◌∙◌, ⊎_elim, arith, length-append, length-drop, pow-suc, mod-lt, mul-le-mul_right, length-take-le, get_or-drop, get_or-take}
use Rattle.std.proofs.Math.ListN.{get_or-append}
use Rattle.word_image.proofs.Common.{pow-le-pow_right, cases_lt, length-map, get_or-append_right, get_or-map, All-take, All-from_get_or, LocalRule, IsRule, IsWord, value, word_of, local_map, node_count, image, label, value-drop, value-snoc, value-below, length-word_of, IsWord-word_of, value-word_of, split_last, IsWord-image, length-image, image-snoc, local_map-label, node_count_pos, windows-nodes}
use Rattle.inverse_table.specs.ImageValues.{AreImageValues, labels_from}

-- the rows before another one end before it begins
pub row_below : (i j k : ℕ) → i < j → i * k + k ≤ j * k
row_below i j k l = let more : (i + 1) * k ≤ j * k = mul-le-mul_right k (omega arith) in omega arith

-- a node has as many labels as there are letters, and they are in the table
pub row-long : {r : LocalRule} → IsRule r → (node : ℕ) → node < node_count r
    → (node * r.states + r.states ≤ length r.table) × (length (labels_from r node) ≡ r.states)
row-long {r} rule node l = grind (arith, row_below, windows-nodes, length-take-le, length-drop)

-- the images of the words that are one letter longer than the first ones: after the image of the word without its last letter, what the rule gives on the last window
pub record AreLonger (r : LocalRule) (images : List ℕ) (count : ℕ) (values : List ℕ) : Type 0 where
  pub long : length values ≡ count * r.states
  pub each : (word a : ℕ) → word < count → a < r.states
      → slice_index values (word * r.states + a) ≡ slice_index images word * r.states + label r (word % node_count r) a

-- the row of the next word's longer images is added
pub AreLonger-row : {r : LocalRule} → IsRule r → (images values : List ℕ) (count node first : ℕ) → AreLonger r images count values
    → node ≡ count % node_count r → first ≡ slice_index images count * r.states
    → AreLonger r images (count + 1) (values ++ map (λ label. first + label) (labels_from r node))
AreLonger-row {r} rule images values count node first h at is =
    let k : ℕ = r.states in
    let labels : List ℕ = labels_from r node in
    let row : List ℕ = map (λ label. first + label) labels in
    let wide : length labels ≡ k = (row-long rule node (subst (λ n. n < node_count r) (sym at) (mod-lt count (node_count_pos rule)))).1 in
    record {
      long = length-append values row ∙ ap₂ (λ (i j : ℕ). i + j) h.long (length-map labels (λ label. first + label) ∙ wide) ∙ omega arith;
      each = λ word a l below. ⊎_elim
          (λ before. grind (arith, row_below, get_or-append))
          (λ past.
          let same : word ≡ count = omega arith in
          let place : word * k + a - count * k ≡ a = rw same (omega arith) in
          let start : count * k ≤ word * k + a = rw same (omega arith) in
          get_or-append_right values row (count * k) (word * k + a) 0 h.long start
          ∙ ap (slice_index row) place
          ∙ get_or-map (λ label. first + label) labels a 0 0 (omega (arith, wide))
          ∙ ap₂ (λ (i j : ℕ). i + j) (is ∙ ap (λ w. slice_index images w * k) (sym same))
          (get_or-take (node * k + k - node * k) (drop (node * k) r.table) a 0 (omega arith)
          ∙ get_or-drop (node * k) r.table a 0
          ∙ ap (λ n. slice_index r.table (n * k + a)) (at ∙ ap (λ w. w % node_count r) (sym same))))
          (cases_lt word count);
    }

-- how many words are one letter longer
pub power-longer : (r : LocalRule) (n : ℕ) → r.states ^ (n + 1 + (r.width - 1)) ≡ r.states ^ (n + (r.width - 1)) * r.states
power-longer r n = let next : n + 1 + (r.width - 1) ≡ suc (n + (r.width - 1)) = omega arith in ap (λ j. r.states ^ j) next ∙ pow-suc r.states (n + (r.width - 1))

-- the values with one letter more are the images of the words that are one letter longer
pub AreImageValues-longer : {r : LocalRule} → IsRule r → (n : ℕ) (images values : List ℕ)
    → AreLonger r images (length images) values → AreImageValues r n images → AreImageValues r (n + 1) values
AreImageValues-longer {r} rule n images values longer before =
    let k : ℕ = r.states in
    let d : ℕ = r.width - 1 in
    let power : k ^ (n + 1 + d) ≡ length images * k = power-longer r n ∙ ap (λ j. j * k) (sym before.long) in
    record {
      long = longer.long ∙ sym power;
      each = λ y h e.
          let x : List ℕ = take (length y - 1) y in
          let a : ℕ = get_or y (length y - 1) 0 in
          let letter : a < k = h (length y - 1) 0 (omega arith) in
          let word : IsWord k x = All-take (λ b. b < k) (length y - 1) y h in
          let long : length x ≡ n + d = length-take-le (length y - 1) y (omega arith) ∙ omega arith in
          let splits : y ≡ x ++ a ∷ [] = split_last y (omega arith) in
          let number : value k y ≡ value k x * k + a = ap (value k) splits ∙ value-snoc k x a in
          let below : value k x < length images = subst (λ j. value k x < j) (ap (λ j. k ^ j) long ∙ sym before.long) (value-below k x word) in
          let wide : length x - (length x - d) ≡ d = omega arith in
          let node : value k x % node_count r ≡ value k (drop (length x - d) x) = ap (λ j. value k x % k ^ j) (sym wide) ∙ sym (value-drop k (length x - d) x word (omega arith)) in
          ap (slice_index values) number
          ∙ longer.each (value k x) a below letter
          ∙ ap₂ (λ (i j : ℕ). i * k + j) (before.each x word long) (ap (λ u. label r u a) node ∙ sym (local_map-label r (drop (length x - d) x) a))
          ∙ sym (ap (λ z. value k (image r z)) splits ∙ ap (value k) (image-snoc rule x a (omega arith)) ∙ value-snoc k (image r x) (local_map r (drop (length x - d) x ++ a ∷ [])));
    }

-- the image of the word with a value
pub image-at : {r : LocalRule} {n : ℕ} {images : List ℕ} → AreImageValues r n images → (v : ℕ) → v < length images
    → slice_index images v ≡ value r.states (image r (word_of r.states (n + (r.width - 1)) v))
image-at {r} {n} {images} h v l = grind (arith, value-word_of, IsWord-word_of, length-word_of)

-- each image of the words of n + m - 1 letters is a number below k ^ n
pub AreImageValues-below : {r : LocalRule} {n : ℕ} {images : List ℕ} → IsRule r → AreImageValues r n images
    → All (λ image. image < r.states ^ n) images
AreImageValues-below {r} {n} {images} rule h = All-from_get_or (λ image. image < r.states ^ n) images 0 (λ v l.
    let x : List ℕ = word_of r.states (n + (r.width - 1)) v in
    let long : length (image r x) ≡ n = length-image r x ∙ ap (λ j. j - (r.width - 1)) (length-word_of r.states (n + (r.width - 1)) v) ∙ omega arith in
    let below : value r.states (image r x) < r.states ^ n = subst (λ j. value r.states (image r x) < r.states ^ j) long (value-below r.states (image r x) (IsWord-image rule x)) in
    omega (arith, image-at h v l))

-- where k ^ j is at most 65,536, and n is less than j, there is room for one more letter of each image of n letters
pub AreImageValues-fit : {r : LocalRule} {n : ℕ} {images : List ℕ} → IsRule r → (j : ℕ) → n < j → r.states ^ j ≤ 65536 → AreImageValues r n images
    → All (λ image. image * r.states + r.states ≤ 65536) images
AreImageValues-fit {r} {n} {images} rule j less few h = All-from_get_or (λ image. image * r.states + r.states ≤ 65536) images 0 (λ v l.
    let some : 0 < r.states = omega (arith, rule.shape.least_states) in
    let below : slice_index images v + 1 ≤ r.states ^ n = omega (arith, AreImageValues-below rule h v 0 l) in
    let times : (slice_index images v + 1) * r.states ≤ r.states ^ n * r.states = mul-le-mul_right r.states below in
    let grows : r.states ^ suc n ≤ r.states ^ j = pow-le-pow_right some (omega arith) in
    omega (arith, pow-suc r.states n))
