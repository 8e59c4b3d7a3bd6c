use Rattle.std.proofs.Common.{ℕ, ◌+◌, ◌/◌, ◌<◌, length, sym, subst, arith, length-set, mod-lt}
use Rattle.inverse_table.specs.ImageValues.{letter_by_unit, IsRead}
use Rattle.inverse_table.proofs.ReadLaws.{IsRead-same, IsRead-new, HasApart-read}
use Rattle.inverse_table.proofs.letters.read_run.Goals as goal
use Rattle.inverse_table.proofs.letters.read_run.Goals.{then-letters-image+else-letters-image-ne-UNREAD, else-letters-image}

pub returns-then-letters-image-ne-UNREAD-clause-read : goal.returns-then-letters-image-ne-UNREAD-clause-read
returns-then-letters-image-ne-UNREAD-clause-read c =
    let word : ℕ = c.loop-word.word in
    let within : c.from-image.result < length c.loop-word.letters = omega (arith, c.requires.within word 0 (omega arith), c.loop-word.invariant.long) in
    HasApart-read word c.from-image.result c.args.letter c.loop-word.invariant.read c.from-image.ensures (c.requires.run word (omega arith) (omega arith)) (λ e. absurd (omega arith)) (λ e. absurd (omega arith)) (omega arith) within

pub loop-word-preserved : goal.loop-word-preserved
loop-word-preserved c =
    let word : ℕ = c.loop-word.word in
    let letters = c.loop-word.letters in
    let image : ℕ = c.from-image.result in
    let within : image < length letters = omega (arith, c.requires.within word 0 (omega arith), c.loop-word.invariant.long) in
    let read = c.loop-word.invariant.read in
    let is = c.requires.run word (omega arith) (omega arith) in
    let below : (v : ℕ) → letter_by_unit c.args.place.k c.args.place.unit v < 16 = λ v. omega (arith, mod-lt (v / c.args.place.unit) c.args.place.some, c.args.place.most) in
    record {
      long = grind (arith, then-letters-image+else-letters-image-ne-UNREAD, length-set, else-letters-image);
      read = elim c.if-letters-image.branch [
        | then-letters-image+else-letters-image-ne-UNREAD w ↦
            subst (IsRead (letter_by_unit c.args.place.k c.args.place.unit) c.args.images.now (word + 1)) (sym w.letters-is) (IsRead-new word image c.args.letter read c.from-image.ensures is (omega arith) within below)
        | else-letters-image w ↦
            subst (IsRead (letter_by_unit c.args.place.k c.args.place.unit) c.args.images.now (word + 1)) (sym w.letters-is) (IsRead-same word image c.args.letter read c.from-image.ensures is (omega arith) (omega (arith, below word)))
      ];
    }
