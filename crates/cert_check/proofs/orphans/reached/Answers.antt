use Rattle.std.proofs.Common.{take}
use Rattle.word_image.proofs.Common.{take_more, full_set, IsStep}
use Rattle.search_laws.proofs.Common.{Walk-push}
use Rattle.cert_check.proofs.orphans.reached.Goals as goal

pub loop-letter-preserved : goal.loop-letter-preserved
loop-letter-preserved c =
    let r = c.args.rule.now in
    rw (take_more c.args.word.now c.loop-letter.letter-index 0 c.loop-letter-test.true)
    (Walk-push (IsStep r) (take c.loop-letter.letter-index c.args.word.now) _ (full_set r) c.loop-letter.set c.step-set.result c.loop-letter.invariant c.step-set.ensures.step)
