-- Two rings of one length have one image exactly where the rule gives one letter on their windows at each place.
use Rattle.std.proofs.Common.{◌≡◌, ℕ, ◌<◌, ◌≤◌, List, length, pos, ◌+ℤ◌, ◌-ℤ◌, sym, ◌∙◌, arith}
use Rattle.word_image.proofs.Common.{LocalRule, local_map, ring_letters, ring_image}
use Rattle.tail_config.proofs.Common.{image_cell}
use Rattle.tail_laws.proofs.Common.{round, ShareImage-turn, ShareImage-rings, ring_image-shared}

-- what the rule gives on the window at this place of a ring
abbrev pub window_letter : LocalRule → List ℕ → ℕ → ℕ
window_letter r p i = local_map r (ring_letters p (pos i) r.width)

-- the letter of the window at place i of a ring is cell i - offset of the image of the configuration that repeats the ring
image_cell-window : (r : LocalRule) (p : List ℕ) (i : ℕ) → image_cell r (round p) (pos 0 -ℤ r.offset +ℤ pos i) ≡ window_letter r p i
image_cell-window r p i = grind arith

-- one letter at each place, and so one image
pub ring_image-windows : (r : LocalRule) (x y : List ℕ) → 1 ≤ length x → length x ≡ length y
    → ((i : ℕ) → i < length x → window_letter r x i ≡ window_letter r y i) → ring_image r x ≡ ring_image r y
ring_image-windows r x y some long same =
    ring_image-shared r x y long (ShareImage-turn r x y some long (pos 0 -ℤ r.offset) (λ i l. image_cell-window r x i ∙ same i l ∙ sym (image_cell-window r y i)))

-- one image, and so one letter at each place
pub windows-ring_image : (r : LocalRule) (x y : List ℕ) → 1 ≤ length x → length x ≡ length y → ring_image r x ≡ ring_image r y → (i : ℕ)
    → window_letter r x i ≡ window_letter r y i
windows-ring_image r x y some long same i =
    sym (image_cell-window r x i) ∙ ShareImage-rings r x y some long same (pos 0 -ℤ r.offset +ℤ pos i) ∙ image_cell-window r y i
