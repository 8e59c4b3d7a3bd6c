use Rattle.std.proofs.Common.{◌≡◌, length, map-id, refl, ◌∙◌, arith}
use Rattle.word_image.proofs.Common.{range_with_len, fill_by_all}
use Rattle.word_image.specs.Weights.{own_weights}
use Rattle.word_image.proofs.laws.Weights.{own_weights-letter}
use Rattle.word_image.proofs.weights.Weights.is_own.Goals as goal

pub returns-then-at-letter : goal.returns-then-at-letter
returns-then-at-letter c = grind (arith, own_weights-letter)

pub returns : goal.returns
returns c =
    let w = c.args.self.now in
    let whole : w ≡ own_weights (length w) = fill_by_all (λ a. a) w (length w) 0 refl (λ a l. c.loop-letter.invariant a (omega arith)) ∙ map-id (range_with_len 0 (length w)) in
    (λ t. whole, λ own. refl)
