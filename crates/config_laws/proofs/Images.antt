-- The image of a configuration, and the words inside it as preimages.
use Rattle.std.proofs.Common.{◌≡◌, ℕ, ◌+◌, ◌-◌, ◌<◌, ◌≤◌, List, length, drop, get_or, slice_range, ℤ, pos, ◌+ℤ◌, sym, ap, ◌∙◌, arith, length-drop, length-take-le, get_or-take, get_or-drop}
use Rattle.word_image.proofs.Common.{ints, LocalRule, IsRule, local_map, image, IsPreimage, entry-below, get_or-image}
use Rattle.tail_config.proofs.Common.{Config, IsConfig, run, image_of, length-run, IsWord-run, run-by_letters, image-run, image_of-window}

-- the image of a configuration is one over the same letters
pub IsConfig-image : {r : LocalRule} → IsRule r → (x : Config) → IsConfig r.states (image_of r x)
IsConfig-image rule x i = entry-below rule _

-- the image of a configuration that is moved is the image, moved as far
pub image_of-moved : (r : LocalRule) (x : Config) (d i : ℤ) → image_of r (λ j. x (j +ℤ d)) i ≡ image_of r x (i +ℤ d)
image_of-moved r x d i = image_of-window r (λ j. x (j +ℤ d)) x i (i +ℤ d) (λ a l.
    ap x (omega (arith, ints)))

-- a run of letters is a preimage of the run of the image over it
pub IsPreimage-run : {r : LocalRule} {x : Config} → IsRule r → IsConfig r.states x → (i j : ℤ) (n : ℕ) → i +ℤ r.offset ≡ j
    → IsPreimage r (run (image_of r x) i n) (run x j (n + (r.width - 1)))
IsPreimage-run rule h i j n e = grind (arith, length-run, image-run, IsWord-run)

-- if a configuration has the letters of a word under place j, its image has a letter of the word's image there
pub image_of-letters : (r : LocalRule) (x : Config) (j : ℤ) (w : List ℕ) (a : ℕ) → a < length w - (r.width - 1) → a + r.width ≤ length w
    → ((c : ℕ) → c < r.width → get_or w (a + c) 0 ≡ x (j +ℤ r.offset +ℤ pos c)) → image_of r x j ≡ get_or (image r w) a 0
image_of-letters r x j w a l within h =
    let window : slice_range w a (a + r.width) ≡ run x (j +ℤ r.offset) r.width =
    run-by_letters x (j +ℤ r.offset) r.width (slice_range w a (a + r.width)) (length-take-le (a + r.width - a) (drop a w) (omega (arith, length-drop a w)) ∙ (omega arith))
    (λ c g. get_or-take (a + r.width - a) (drop a w) c 0 (omega arith) ∙ get_or-drop a w c 0 ∙ h c g) in
    ap (local_map r) (sym window) ∙ sym (get_or-image r w a l)
