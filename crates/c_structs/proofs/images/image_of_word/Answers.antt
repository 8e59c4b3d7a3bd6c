use Rattle.std.proofs.Common.{◌≡◌, ℕ, ◌+◌, ◌-◌, length, pos, neg_ℤ, sym, ap, ◌∙◌, arith}
use Rattle.word_image.proofs.Common.{image, ints}
use Rattle.tail_config.proofs.Common.{cell, cells, cells-middle, config_of, image-run}
use Rattle.c_structs.proofs.images.image_of_word.Goals as goal

pub returns : goal.returns
returns c r left w right rule long =
    let t = config_of left w right in
    let n : ℕ = length w - (r.width - 1) in
    let whole : n + (r.width - 1) ≡ length w = omega arith in
    sym (image-run rule (cell t) (neg_ℤ r.offset) (pos 0) n (omega (arith, ints))) ∙ ap (image r) (ap (cells t (pos 0)) whole ∙ cells-middle t)
