use Rattle.std.proofs.Common.{◌≡◌, ◌*◌, length, count_by, refl, arith, ◌==◌, below_more}
use Rattle.word_image.proofs.Common.{nat_tests}
use Rattle.garden_laws.specs.Tables.{IsEven}
use Rattle.garden_laws.proofs.EvenTables.{IsEven-surjective}
use Rattle.eden_law.proofs.even.is_even.Goals as goal

pub returns-then-from-how_often-clause-even : goal.returns-then-from-how_often-clause-even
returns-then-from-how_often-clause-even c =
    (λ no. absurd (cc), λ even. let here = even c.loop-letter.letter (omega arith) in absurd (grind (arith, nat_tests, here)))

pub loop-letter-preserved : goal.loop-letter-preserved
loop-letter-preserved c =
    below_more (λ a. c.args.k * count_by (λ b. b == a) c.args.table.now ≡ length c.args.table.now) c.loop-letter.letter c.loop-letter.invariant (grind (arith, nat_tests))

pub returns-clause-even : goal.returns-clause-even
returns-clause-even c = (λ yes a l. c.loop-letter.invariant a (omega arith), λ even. refl)

pub returns-then-from-how_often-clause-surjective : goal.returns-then-from-how_often-clause-surjective
returns-then-from-how_often-clause-surjective c r rule states table every =
    let even : IsEven c.args.k c.args.table.now = rw (← states, ← table) (IsEven-surjective rule every) in
    let here = even c.loop-letter.letter (omega arith) in
    absurd (grind (arith, nat_tests, here))
