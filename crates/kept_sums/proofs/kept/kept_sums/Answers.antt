use Rattle.std.proofs.Common.{⊎_elim, arith}
use Rattle.word_image.proofs.Common.{IsWord-le}
use Rattle.kept_sums.specs.Spans.{entry}
use Rattle.kept_sums.proofs.laws.Flows.{IsKept-short_rings}
use Rattle.kept_sums.proofs.laws.Densities.{KeepsSumOf-gain}
use Rattle.kept_sums.proofs.laws.Spans.{gain_at-zero}
use Rattle.kept_sums.proofs.laws.Stages.{stands_or_zero, not_both}
use Rattle.kept_sums.proofs.laws.AfterRings.{IsWord-blocks, IsRing-ring_image}
use Rattle.kept_sums.proofs.kept.kept_sums.Goals as goal

pub returns : goal.returns
returns c = grind (arith, IsKept-short_rings)

pub returns-then-are_kept : goal.returns-then-are_kept
returns-then-are_kept c =
    let rule = c.m.ensures.rule in
    let few = c.requires.few in
    let (stage, keep) = c.loop-count.invariant in
    record {
      stage = stage;
      kept = λ i l.
          ⊎_elim
          (λ stands. c.are_kept.ensures c.if-are_kept.true i l (not_both _ stands.standing.leads))
          (λ zeros p ring. (KeepsSumOf-gain c.args.range (entry _ i) c.args.rule.now p).1
          (gain_at-zero _ i _ _ (IsWord-le _ 16 _ few (IsWord-blocks c.args.range (IsRing-ring_image rule ring))) (IsWord-le _ 16 _ few (IsWord-blocks c.args.range ring)) zeros))
          (stands_or_zero (stage.places i l));
    }
