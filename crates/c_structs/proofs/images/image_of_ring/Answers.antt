use Rattle.std.proofs.Common.{◌≡◌, ℕ, List, [], ◌+◌, length, ℤ, pos, negsuc, ◌+ℤ◌, refl, ap, ◌∙◌, arith}
use Rattle.word_image.proofs.Common.{fill_by_all, ints, local_map}
use Rattle.word_image.specs.Rings.{ring_letter, ring_letters}
use Rattle.tail_config.proofs.Common.{cell, cell-right, config_of, get_or-run, image_cell, length-run, run, run-same}
use Rattle.c_structs.proofs.images.image_of_ring.Goals as goal

-- the cells of the configuration are the letters of the ring
cell-ring : (p : List ℕ) (i : ℤ) → cell (config_of p [] p) i ≡ ring_letter p i
cell-ring p (pos i) =
    let t = config_of p [] p in
    let place : pos i ≡ pos (length t.middle + i) = ap pos (omega arith) in
    ap (cell t) place ∙ cell-right t i
cell-ring p (negsuc i) = refl

pub returns : goal.returns
returns c r p =
    let t = config_of p [] p in
    let x : ℤ → ℕ = λ i. local_map r (ring_letters p (i +ℤ r.offset) r.width) in
    fill_by_all (λ a. x (pos a)) (run (image_cell r t) (pos 0) (length p)) (length p) 0 (length-run (image_cell r t) (pos 0) (length p))
    (λ a l. get_or-run (image_cell r t) (pos 0) (pos a) (length p) a l (omega (arith, ints))
    ∙ ap (local_map r) (run-same (cell t) (ring_letter p) (pos a +ℤ r.offset) (pos a +ℤ r.offset) r.width (λ b h. cell-ring p (pos a +ℤ r.offset +ℤ pos b))))
