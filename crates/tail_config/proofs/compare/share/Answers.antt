use Rattle.std.proofs.Common.{length, ap, arith}
use Rattle.word_image.proofs.Common.{ints}
use Rattle.tail_config.proofs.laws.Spans.{ShareImage-from_run}
use Rattle.tail_config.proofs.compare.share.Goals as goal

pub returns : goal.returns
returns c =
    let lefts = ap length c.left.ensures.left in
    let second_left = ap length c.left-2.ensures.left in
    let rights = ap length c.right.ensures.right in
    let second_right = ap length c.right-2.ensures.right in
    let run = c.share_run.ensures in (
      λ same. ShareImage-from_run c.left.ensures.tail.short.tail c.left-2.ensures.tail.short.tail c.args.rule.now _ _ (omega (arith, ints)) (omega (arith, ints)) (run.0 same),
      λ share. run.1 (λ d l. share _),
    )

pub share_run-requires-clause-near : goal.share_run-requires-clause-near
share_run-requires-clause-near c = grind (arith, ints)
