-- The runs of letters of a configuration, and their images.
use Rattle.std.proofs.Common.{◌≡◌, ℕ, suc, ◌+◌, ◌-◌, ◌<◌, ◌≤◌, List, [], ◌∷◌, ◌++◌, length, take, drop, get_or, slice_range, ℤ, pos, ◌+ℤ◌, refl, sym, ap, ap₂, ◌∙◌, arith, length-drop, take-append-drop, length-take, get_or-take, get_or-drop}
use Rattle.word_image.proofs.Common.{range_with_len, ints, length-map-range_with_len, map-range_with_len_more, take-map-range_with_len, get_or-map-range_with_len, fill_by_all, All-map, LocalRule, IsRule, IsWord, local_map, image, HaveOneImage, image-by_letters}
use Rattle.tail_config.specs.Configs.{Config, IsConfig, run, image_of}

-- a run of n letters has n letters
pub length-run : (x : Config) (i : ℤ) (n : ℕ) → length (run x i n) ≡ n
length-run x i n = length-map-range_with_len (λ a. x (i +ℤ pos a)) 0 n

-- each is a letter of the configuration
pub get_or-run : (x : Config) (i j : ℤ) (n a : ℕ) → a < n → i +ℤ pos a ≡ j → get_or (run x i n) a 0 ≡ x j
get_or-run x i j n a l e = get_or-map-range_with_len (λ b. x (i +ℤ pos b)) 0 n a a 0 l (omega arith) ∙ ap x e

-- a run is a word
pub IsWord-run : {k : ℕ} {x : Config} → IsConfig k x → (i : ℤ) (n : ℕ) → IsWord k (run x i n)
IsWord-run {k} {x} h i n = All-map (λ a. a < k) (λ a. x (i +ℤ pos a)) (range_with_len 0 n) (λ a d l. h _)

-- a word is a run if its letters are the configuration's
pub run-by_letters : (x : Config) (i : ℤ) (n : ℕ) (w : List ℕ) → length w ≡ n → ((a : ℕ) → a < n → get_or w a 0 ≡ x (i +ℤ pos a)) → w ≡ run x i n
run-by_letters x i n w long h = fill_by_all (λ a. x (i +ℤ pos a)) w n 0 long h

-- two runs are equal where their letters are
pub run-same : (x y : Config) (i j : ℤ) (n : ℕ) → ((a : ℕ) → a < n → x (i +ℤ pos a) ≡ y (j +ℤ pos a)) → run x i n ≡ run y j n
run-same x y i j n h = run-by_letters y j n (run x i n) (length-run x i n) (λ a l. get_or-run x i _ n a l refl ∙ h a l)

-- the letters of equal runs are equal
pub same-run : (x y : Config) (i j : ℤ) (n : ℕ) → run x i n ≡ run y j n → (a : ℕ) → a < n → x (i +ℤ pos a) ≡ y (j +ℤ pos a)
same-run x y i j n e a l = sym (get_or-run x i _ n a l refl) ∙ ap (λ w. get_or w a 0) e ∙ get_or-run y j _ n a l refl

-- a part of a run is a run
pub slice_range-run : (x : Config) (i j : ℤ) (n a b : ℕ) → a + b ≤ n → i +ℤ pos a ≡ j → slice_range (run x i n) a (a + b) ≡ run x j b
slice_range-run x i j n a b l e =
    run-by_letters x j b (slice_range (run x i n) a (a + b)) (omega (arith, length-take (a + b - a) (drop a (run x i n)), length-drop a (run x i n), length-run x i n))
    (λ c h. get_or-take (a + b - a) (drop a (run x i n)) c 0 (omega arith) ∙ get_or-drop a (run x i n) c 0 ∙ get_or-run x i (j +ℤ pos c) n (a + c) (omega arith) (omega (arith, ints)))

-- the first letters of a run are a run
pub take-run : (x : Config) (i : ℤ) (n a : ℕ) → a ≤ n → take a (run x i n) ≡ run x i a
take-run x i n a l = take-map-range_with_len (λ b. x (i +ℤ pos b)) 0 n a l

-- what is left of a run is a run
pub drop-run : (x : Config) (i j : ℤ) (a n : ℕ) → i +ℤ pos a ≡ j → drop a (run x i (a + n)) ≡ run x j n
drop-run x i j a n e =
    run-by_letters x j n (drop a (run x i (a + n))) (omega (arith, length-drop a (run x i (a + n)), length-run x i (a + n)))
    (λ c h. get_or-drop a (run x i (a + n)) c 0 ∙ get_or-run x i (j +ℤ pos c) (a + n) (a + c) (omega arith) (omega (arith, ints)))

-- the last letters of a run are a run
pub last-run : (x : Config) (i j : ℤ) (a n : ℕ) → i +ℤ pos a ≡ j → drop (length (run x i (a + n)) - n) (run x i (a + n)) ≡ run x j n
last-run x i j a n e = grind (arith, length-run, drop-run)

-- two runs side by side are a run
pub run-append : (x : Config) (i j : ℤ) (a b : ℕ) → i +ℤ pos a ≡ j → run x i (a + b) ≡ run x i a ++ run x j b
run-append x i j a b e =
    sym (take-append-drop a (run x i (a + b))) ∙ ap₂ (λ (u v : List ℕ). u ++ v) (take-run x i (a + b) a (omega arith)) (drop-run x i j a b e)

-- one more letter at the end of a run
pub run-push : (x : Config) (i j : ℤ) (n : ℕ) → i +ℤ pos n ≡ j → run x i (n + 1) ≡ run x i n ++ x j ∷ []
run-push x i j n e = map-range_with_len_more (λ a. x (i +ℤ pos a)) 0 n n (omega arith) ∙ ap (λ p. run x i n ++ x p ∷ []) e

-- one more letter at the start of a run
pub run-cons : (x : Config) (i : ℤ) (n : ℕ) → run x i (suc n) ≡ x i ∷ run x (i +ℤ pos 1) n
run-cons x i n =
    let one : suc n ≡ 1 + n = omega arith in
    ap (run x i) one ∙ run-append x i (i +ℤ pos 1) 1 n refl ∙ ap (λ p. x p ∷ run x (i +ℤ pos 1) n) (omega (arith, ints))

-- a run of letters has the run of the image as its image
pub image-run : {r : LocalRule} → IsRule r → (x : Config) (i j : ℤ) (n : ℕ) → i +ℤ r.offset ≡ j
    → image r (run x j (n + (r.width - 1))) ≡ run (image_of r x) i n
image-run {r} rule x i j n e =
    image-by_letters r (run x j (n + (r.width - 1))) (run (image_of r x) i n) (omega (arith, length-run x j (n + (r.width - 1)), length-run (image_of r x) i n))
    (λ a l. get_or-run (image_of r x) i (i +ℤ pos a) n a (omega (arith, length-run (image_of r x) i n)) refl
    ∙ ap (local_map r) (sym (slice_range-run x j (i +ℤ pos a +ℤ r.offset) (n + (r.width - 1)) a r.width (omega (arith, length-run (image_of r x) i n)) (omega (arith, ints)))))

-- where n letters of the images are equal, the letters under them are two words with one image
pub HaveOneImage-run : {r : LocalRule} {x y : Config} → IsRule r → IsConfig r.states x → IsConfig r.states y → (i j : ℤ) (n : ℕ) → i +ℤ r.offset ≡ j
    → run (image_of r x) i n ≡ run (image_of r y) i n → HaveOneImage r n (run x j (n + (r.width - 1))) (run y j (n + (r.width - 1)))
HaveOneImage-run rule hx hy i j n e same = grind (arith, length-run, image-run, IsWord-run)

-- equal windows give equal letters of the images
pub image_of-window : (r : LocalRule) (x y : Config) (i j : ℤ) → ((a : ℕ) → a < r.width → x (i +ℤ r.offset +ℤ pos a) ≡ y (j +ℤ r.offset +ℤ pos a))
    → image_of r x i ≡ image_of r y j
image_of-window r x y i j h = ap (local_map r) (run-same x y (i +ℤ r.offset) (j +ℤ r.offset) r.width h)
