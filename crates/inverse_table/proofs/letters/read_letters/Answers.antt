use Rattle.std.proofs.Common.{◌≡◌, ℕ, ◌+◌, ◌-◌, ◌*◌, ◌/◌, ◌%◌, ◌<◌, ◌≤◌, sym, ap, ◌∙◌, arith, add-mul, one-mul}
use Rattle.word_image.proofs.Common.{div-mul-add}
use Rattle.inverse_table.specs.ImageValues.{letter_by_unit}
use Rattle.inverse_table.proofs.letters.read_letters.Goals as goal

-- the words of a run have one letter
letter_by_unit-run : (k unit run word : ℕ) → run * unit ≤ word → word < run * unit + unit → letter_by_unit k unit word ≡ run % k
letter_by_unit-run k unit run word l m =
    let splits : run * unit + (word - run * unit) ≡ word = omega arith in
    ap (λ v. v / unit % k) (sym splits) ∙ ap (λ i. i % k) (div-mul-add run unit (word - run * unit) (omega arith))

pub read_run-requires-clause-run : goal.read_run-requires-clause-run
read_run-requires-clause-run c = λ word l m. letter_by_unit-run c.args.place.k c.args.place.unit c.loop-run.run word l m ∙ sym c.loop-run.invariant.letter

pub loop-run-preserved : goal.loop-run-preserved
loop-run-preserved c = grind (arith, add-mul, one-mul)
