use Rattle.std.proofs.Common.{◌≡◌, ◌≤◌, ◌++◌, List, ℕ, length, ap, ap₂, ◌∙◌, arith, length-append}
use Rattle.word_image.proofs.Common.{repeat}
use Rattle.tail_preimage.proofs.laws.Lengths.{length-repeat-most, length-stretch-most}
use Rattle.tail_preimage.proofs.walks.WalkRoom.set_stretch.Goals as goal
use Rattle.tail_preimage.proofs.walks.WalkRoom.set_stretch.Goals.{After-middle}

-- the word after the left periods
lefts : (c : After-middle) → c.append_copies.new.word.items ≡ repeat c.args.left c.args.tail.now.config.left
lefts c = c.append_copies.ensures.word ∙ ap (λ w. w ++ repeat c.args.left c.left.result.now) c.clear.ensures.items ∙ ap (repeat c.args.left) c.left.ensures.left

-- how long it is
length-lefts : (c : After-middle) → length c.append_copies.new.word.items ≤ 16384
length-lefts c = omega (arith, ap length (lefts c), length-repeat-most c.args.left c.args.tail.now.config.left c.requires.left c.middle.ensures.tail.short.left)

pub append-requires : goal.append-requires
append-requires c = grind (arith, length-lefts)

pub append_copies-requires-2 : goal.append_copies-requires-2
append_copies-requires-2 c = grind (arith, length-lefts, length-append)

pub invariant_of-self : goal.invariant_of-self
invariant_of-self c =
    let word = c.append_copies-2.ensures.word
    ∙ ap₂ (λ (w p : List ℕ). w ++ repeat c.args.right p) (c.append.ensures.word ∙ ap₂ (λ (a b : List ℕ). a ++ b) (lefts (goal.at.invariant_of-self c).After-middle) c.middle.ensures.middle) c.right.ensures.right in (
      omega (arith, ap length word, length-stretch-most c.right.ensures.tail.short c.args.left c.args.right c.requires.left c.requires.right),
      omega arith,
      c.self.invariant.2,
    )
