-- From the letters that are read back from images to the inverse map, and what the map does.
use Rattle.std.proofs.Common.{◌≡◌, ℕ, ◌+◌, ◌-◌, ◌^◌, ◌<◌, ◌≤◌, List, length, map, take, drop, slice_index, slice_range, ℤ, pos, ◌+ℤ◌, ◌-ℤ◌, refl, sym, ap, ◌∙◌, arith, length-drop, length-take-le, get_or-take, get_or-drop}
use Rattle.word_image.proofs.Common.{range_with_len, ints, fill_by_all, length-map-range_with_len, All-from_get_or, All-take, All-drop, LocalRule, IsRule, IsWord, value, word_of, local_map, image, IsPreimage, IsSurjective, IsDetermined, value-below, value-injective, length-word_of, IsWord-word_of, value-word_of, IsWord-image, length-image, get_or-image, image-drop, image-take, letter-value}
use Rattle.tail_config.proofs.Common.{run, image_of, TailConfig, IsTail, cell, cells, image_cell, length-run, get_or-run, IsWord-run, image-run, cell-below, WindowMap, IsInverseMap, map_letter}
use Rattle.tail_laws.proofs.Common.{IsInjective-determined}
use Rattle.garden_laws.proofs.Preinjective.{IsSurjective-injective}
use Rattle.inverse_table.specs.InverseMaps.{AreMapLetters, GivesBack, map_image, map_over}
use Rattle.inverse_table.specs.MapLimits.{IsWindowMap}
use Rattle.inverse_table.specs.InverseFaults.{AreApartAt}
use Rattle.inverse_table.specs.ImageValues.{AreImageValues, AreReadBack, AreUndetermined, letter_by_unit}
use Rattle.inverse_table.proofs.ImageLaws.{image-at}
use Rattle.inverse_table.proofs.WordCounts.{length-most}

-- the images of all words of n + m - 1 letters, the letter c of each word, and the letters that are read back
pub record IsReadingBack (r : LocalRule) (n c : ℕ) (letter : ℕ → ℕ) (images letters : List ℕ) : Type 0 where
  pub some : 1 ≤ n
  pub inside : c ≤ n + r.width - 2
  pub values : AreImageValues r n images
  pub reads : (x : List ℕ) → IsWord r.states x → length x ≡ n + (r.width - 1) → letter (value r.states x) ≡ slice_index x c
  pub long : length letters ≡ r.states ^ n

-- the letters are read back by their place in the value
pub IsReadingBack-place : {r : LocalRule} {n c k unit : ℕ} {images letters : List ℕ} → IsRule r → 1 ≤ n → c ≤ n + r.width - 2 → k ≡ r.states
    → unit ≡ r.states ^ (n + (r.width - 1) - 1 - c) → AreImageValues r n images → length letters ≡ r.states ^ n
    → IsReadingBack r n c (letter_by_unit k unit) images letters
IsReadingBack-place {r} {n} {c} {k} {unit} rule some inside same behind values long = grind (arith, letter-value)

-- the word of n + m - 1 letters with this value
abbrev pub word_at : LocalRule → ℕ → ℕ → List ℕ
word_at r n v = word_of r.states (n + (r.width - 1)) v

-- for a value that a word has, its letter is the word's
letter-word_at : {r : LocalRule} {n c : ℕ} {letter : ℕ → ℕ} {images letters : List ℕ} → IsReadingBack r n c letter images letters → (v : ℕ)
    → v < length images
    → IsWord r.states (word_at r n v) × (letter v ≡ slice_index (word_at r n v) c)
letter-word_at {r} {n} {c} {letter} h v l = grind (arith, IsWord-word_of, value-word_of, length-word_of)

-- the image of that word has n letters
length-image-word_at : (r : LocalRule) (n v : ℕ) → length (image r (word_at r n v)) ≡ n
length-image-word_at r n v = length-image r (word_at r n v) ∙ ap (λ j. j - (r.width - 1)) (length-word_of r.states (n + (r.width - 1)) v) ∙ omega arith

-- two values of words that are apart: the words show that the window isn't determined
pub AreApartAt-apart : {r : LocalRule} {n c : ℕ} {letter : ℕ → ℕ} {images letters : List ℕ} → IsRule r → IsReadingBack r n c letter images letters
    → (u v : ℕ)
    → AreUndetermined letter images u v → AreApartAt r n c u v
AreApartAt-apart {r} {n} rule h u v apart =
    let first = letter-word_at h u apart.first in
    let second = letter-word_at h v apart.second in
    grind (arith, length-word_of, value-injective, IsWord-image, length-image-word_at, image-at)

-- where the letter of each word is read back, the letter at the image of a word is its letter c
read_back : {r : LocalRule} {n c : ℕ} {letter : ℕ → ℕ} {images letters : List ℕ} → IsReadingBack r n c letter images letters
    → AreReadBack letter images (length images) letters
    → (x : List ℕ) → IsWord r.states x → length x ≡ n + (r.width - 1) → slice_index letters (value r.states (image r x)) ≡ slice_index x c
read_back {r} {images = images} {letters = letters} h all x word long = grind (arith, value-below)

-- where the letter of each word is read back, the window is determined
IsDetermined-read : {r : LocalRule} {n c : ℕ} {letter : ℕ → ℕ} {images letters : List ℕ} → IsReadingBack r n c letter images letters
    → AreReadBack letter images (length images) letters
    → IsDetermined r n c
IsDetermined-read {r} {letters = letters} h all = record {
  some = h.some;
  inside = h.inside;
  letter = λ x y g. sym (read_back h all x g.first g.first_long) ∙ ap (λ w. slice_index letters (value r.states w)) g.one_image ∙ read_back h all y g.second g.second_long;
}

-- a determined window makes a rule surjective
IsSurjective-determined : {r : LocalRule} {n c : ℕ} → IsRule r → IsDetermined r n c → IsSurjective r
IsSurjective-determined rule window = IsSurjective-injective rule (IsInjective-determined rule window)

-- the map of the letters that are read back is the inverse map
IsInverseMap-read : {r : LocalRule} {n c : ℕ} {letter : ℕ → ℕ} {images letters : List ℕ} → IsRule r → IsReadingBack r n c letter images letters
    → AreReadBack letter images (length images) letters
    → IsInverseMap r n c (map_over r n c letters)
IsInverseMap-read {r} {n} {c} {letter} {images} {letters} rule h all =
    let k : ℕ = r.states in
    record {
      states = refl;
      width = refl;
      offset = refl;
      entries = h.long;
      letter = λ w x long p. ap (λ v. slice_index letters (value k v)) (sym p.maps) ∙ read_back h all x p.word (p.long ∙ ap (λ j. j + (r.width - 1)) long);
      none = λ w word long none. let found = IsSurjective-determined rule (IsDetermined-read h all) w word in absurd (none found.0 found.1);
    }

-- the map that is read is one of the maps that there are
IsWindowMap-read : {r : LocalRule} {n c : ℕ} {letter : ℕ → ℕ} {images letters : List ℕ} → IsRule r → IsReadingBack r n c letter images letters
    → AreReadBack letter images (length images) letters
    → r.states ^ n ≤ 65536 → IsWindowMap (map_over r n c letters)
IsWindowMap-read {r} {n} {c} {letters = letters} rule h all few =
    let shape = rule.shape in
    let most = length-most rule n few in
    record {
      least_states = shape.least_states;
      most_states = shape.most_states;
      least_width = h.some;
      most_width = most;
      least_offset = omega (arith, ints, shape.most_offset);
      most_offset = omega (arith, ints, shape.least_offset);
      entries = h.long;
      most_entries = few;
      letters = All-from_get_or (λ a. a < r.states) letters 0 (λ e l.
          let below : e < r.states ^ n = omega (arith, h.long) in
          let w : List ℕ = word_of r.states n e in
          let found = IsSurjective-determined rule (IsDetermined-read h all) w (IsWord-word_of r.states n e below) in
          let x : List ℕ = found.0 in
          let long : length x ≡ n + (r.width - 1) = found.1.long ∙ ap (λ j. j + (r.width - 1)) (length-word_of r.states n e) in
          let letter : slice_index letters e ≡ slice_index x c =
          ap (slice_index letters) (sym (ap (value r.states) found.1.maps ∙ value-word_of r.states n e below)) ∙ read_back h all x found.1.word long in
          let within : c < length x = omega (arith, h.some, shape.least_width) in
          omega (arith, found.1.word c 0 within));
    }

-- the image of a word gives its letter c back
map_letter-image : {r : LocalRule} {n c : ℕ} {g : WindowMap} → IsInverseMap r n c g → (x : List ℕ) → IsWord r.states x → length x ≡ n + (r.width - 1)
    → map_letter g (image r x) ≡ slice_index x c
map_letter-image {r} {n} h x word long = grind (arith, length-image)

-- from n cells of the image of a configuration the map gives a cell back
map_letter-cells : {r : LocalRule} {n c : ℕ} {g : WindowMap} → IsRule r → c ≤ n + r.width - 2 → 1 ≤ n → IsInverseMap r n c g → (t : TailConfig)
    → IsTail r.states t → (i : ℤ)
    → map_letter g (run (image_of r (cell t)) (i +ℤ g.offset) n) ≡ cell t i
map_letter-cells {r} {n} {c} {g} rule inside some h t tail i =
    let start : ℤ = i -ℤ pos c in
    let before : i +ℤ g.offset +ℤ r.offset ≡ start = omega (arith, ints, h.offset) in
    let long : length (run (image_of r (cell t)) (i +ℤ g.offset) n) ≡ n = length-map-range_with_len (λ j. image_cell r t (i +ℤ g.offset +ℤ pos j)) 0 n in
    h.letter (run (image_of r (cell t)) (i +ℤ g.offset) n) (cells t start (n + (r.width - 1))) long (record {
      word = IsWord-run (cell-below tail) start (n + (r.width - 1));
      long = length-run (cell t) start (n + (r.width - 1)) ∙ ap (λ j. j + (r.width - 1)) (sym long);
      maps = image-run rule (cell t) (i +ℤ g.offset) start n before;
    })
    ∙ get_or-run (cell t) start i (n + (r.width - 1)) c (omega arith) (omega (arith, ints))

-- n letters of a word from place i on are the image of n + m - 1 letters of a preimage of the word
IsPreimage-part : {r : LocalRule} {w x : List ℕ} → IsRule r → IsPreimage r w x → (i n : ℕ) → i + n ≤ length w
    → IsPreimage r (slice_range w i (i + n)) (take (n + (r.width - 1)) (drop i x))
IsPreimage-part {r} {w} {x} rule p i n l =
    let d : ℕ = r.width - 1 in
    let part : i + n - i ≡ n = omega arith in
    let rest : n + d - d ≡ n = omega arith in
    record {
      word = All-take (λ a. a < r.states) (n + d) (drop i x) (All-drop (λ a. a < r.states) i x p.word);
      long = grind (arith, length-take-le, length-drop);
      maps = grind (arith, image-take, image-drop);
    }

-- what the map makes of a word is the part of its preimage from c on
map_image-part : {r : LocalRule} {n c : ℕ} {g : WindowMap} {x z : List ℕ} → IsRule r → 1 ≤ n → c ≤ n + r.width - 2 → IsInverseMap r n c g
    → length x ≡ n + (r.width - 1) → IsPreimage r x z
    → map_image g x ≡ slice_range z c (c + r.width)
map_image-part {r} {n} {c} {g} {x} {z} rule some inside h long p =
    let few : length x + 1 - n ≡ r.width = omega arith in
    let count : c + r.width - c ≡ r.width = omega arith in
    let letter : ℕ → ℕ = λ i. map_letter g (slice_range x i (i + n)) in
    let part_long : length (slice_range z c (c + r.width)) ≡ r.width = length-take-le (c + r.width - c) (drop c z) (omega (arith, length-drop c z, p.long)) ∙ count in
    ap (λ j. map (λ i. map_letter g (slice_range x i (i + j))) (range_with_len 0 (length x + 1 - j))) h.width
    ∙ ap (λ j. map letter (range_with_len 0 j)) few
    ∙ sym (fill_by_all letter (slice_range z c (c + r.width)) r.width 0 part_long (λ i l.
    let place : c + i ≡ i + c = omega arith in
    get_or-take (c + r.width - c) (drop c z) i 0 (omega arith) ∙ get_or-drop c z i 0 ∙ ap (slice_index z) place
    ∙ sym (h.letter (slice_range x i (i + n)) (take (n + (r.width - 1)) (drop i z))
    (length-take-le (i + n - i) (drop i x) (omega (arith, length-drop i x)) ∙ omega arith)
    (IsPreimage-part rule p i n (omega arith))
    ∙ get_or-take (n + (r.width - 1)) (drop i z) c 0 (omega arith) ∙ get_or-drop i z c 0)))

-- the map's rule gives letter c of a word back from what the map makes of the word
local_map-map_image : {r : LocalRule} {n c : ℕ} {g : WindowMap} → IsRule r → IsDetermined r n c → IsInverseMap r n c g
    → (x : List ℕ) → IsWord r.states x → length x ≡ n + (r.width - 1) → local_map r (map_image g x) ≡ slice_index x c
local_map-map_image {r} {n} {c} {g} rule window h x word long =
    let found = IsSurjective-determined rule window x word in
    let z : List ℕ = found.0 in
    let p : IsPreimage r x z = found.1 in
    let some : 1 ≤ n = window.some in
    let inside : c ≤ n + r.width - 2 = window.inside in
    ap (local_map r) (map_image-part rule some inside h long p) ∙ sym (get_or-image r z c (omega (arith, p.long))) ∙ ap (λ w. slice_index w c) p.maps

-- what the map of a determined window does
GivesBack-determined : {r : LocalRule} {n c : ℕ} {g : WindowMap} → IsRule r → IsDetermined r n c → IsInverseMap r n c g → GivesBack r n c g
GivesBack-determined rule window h = record {
  cells = map_letter-cells rule window.inside window.some h;
  back = map_letter-image h;
  forth = local_map-map_image rule window h;
  onto = λ w word long. IsSurjective-determined rule window w word;
}

-- where the letter of each word is read back, these are the letters of the inverse map
pub AreMapLetters-read : {r : LocalRule} {n c : ℕ} {letter : ℕ → ℕ} {images letters : List ℕ} → IsRule r → IsReadingBack r n c letter images letters
    → AreReadBack letter images (length images) letters
    → r.states ^ n ≤ 65536 → AreMapLetters r n c letters
AreMapLetters-read rule h all few =
    let window = IsDetermined-read h all in
    let map = IsInverseMap-read rule h all in
    record { determined = window; map = map; gives_back = GivesBack-determined rule window map; limits = IsWindowMap-read rule h all few }
