use Rattle.std.proofs.Common.{◌<◌}
use Rattle.word_image.proofs.Common.{take_more, map-append, All-push}
use Rattle.cert_format.proofs.laws.Spellings.{not_letters}
use Rattle.cert_format.proofs.words.letters.Goals as goal

pub returns-in_default-clause-none : goal.returns-in_default-clause-none
returns-in_default-clause-none c same w letters = not_letters c.args.k c.args.digits.now w c.loop-digit.digit-index c.loop-digit-test.true c.in_default.ensures.none letters.0 letters.1

pub loop-digit-preserved : goal.loop-digit-preserved
loop-digit-preserved c =
    let digits = c.args.digits.now in
    let i = c.loop-digit.digit-index in
    let w = c.loop-digit.word.items in
    let (spells, word) = c.loop-digit.invariant in
    let (digit, below) = c.in-Some.ensures.some in
    rw c.in_ok-push.ensures.items (
      simp (take_more digits i 0 c.loop-digit-test.true, map-append) cc,
      All-push (λ a. a < c.args.k) w c.in-Some.letter word below,
    )
