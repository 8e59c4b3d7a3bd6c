use Rattle.std.proofs.Common.{◌≡◌, ◌+◌, ◌*◌, ◌/◌, ◌^◌, ◌<◌, ◌≤◌, ap, ◌∙◌, arith, unsigned_abs}
use Rattle.word_image.proofs.Common.{mul-div_cancel', ints}
use Rattle.kept_sums.proofs.rows.quotient.Goals.{After-unsigned_abs}
use Rattle.kept_sums.proofs.rows.quotient.Goals as goal

-- how great the quotient is
size_of : (c : After-unsigned_abs) → (c.unsigned_abs.result / c.args.divisor ≤ 2 ^ 56)
    × (c.args.divisor * (c.unsigned_abs.result / c.args.divisor) ≡ unsigned_abs c.args.number)
size_of c =
    let d = c.args.divisor in
    let same : c.unsigned_abs.result ≡ unsigned_abs c.args.number = omega (arith, ints) in
    let below : c.unsigned_abs.result / d < 2 ^ 56 + 1 = grind arith in
    (omega arith, ap (λ u. d * (u / d)) same ∙ mul-div_cancel' d c.requires.divides)

pub returns-then-number-lt0-clause-quotient : goal.returns-then-number-lt0-clause-quotient
returns-then-number-lt0-clause-quotient c = grind (arith, size_of)

pub returns-else-number-lt0-clause-quotient : goal.returns-else-number-lt0-clause-quotient
returns-else-number-lt0-clause-quotient c = grind (arith, size_of)

pub returns-then-number-lt0-clause-small : goal.returns-then-number-lt0-clause-small
returns-then-number-lt0-clause-small c = omega (arith, ints, (size_of (goal.at.returns-then-number-lt0-clause-small c).After-unsigned_abs).0)

pub returns-else-number-lt0-clause-small : goal.returns-else-number-lt0-clause-small
returns-else-number-lt0-clause-small c = omega (arith, ints, (size_of (goal.at.returns-else-number-lt0-clause-small c).After-unsigned_abs).0)
