use Rattle.std.proofs.Common.{◌≡◌, suc, ◌+◌, [], refl, ◌∙◌, subst, arith, length-set}
use Rattle.pair_laws.proofs.Common.{IsBitSet-below}
use Rattle.word_image.proofs.Common.{HasBit, set_more}
use Rattle.tail_preimage.specs.Relations.{IsRelation, Steps}
use Rattle.tail_preimage.proofs.laws.Steps.{Steps-cons}
use Rattle.tail_preimage.proofs.Rows.{IsRelation-same}
use Rattle.tail_preimage.proofs.relations.powers.Goals as goal

pub loop-n-preserved : goal.loop-n-preserved
loop-n-preserved c =
    let r = c.args.graph.now in
    let step = c.args.step.now in
    let n = c.loop-n.n in
    let before = c.loop-n.invariant.each in
    let more : suc n ≡ n + 1 = omega arith in
    let next = IsRelation-same (λ u v below inside. (
      (λ (w, node, (first, rest)). Steps-cons first ((((before n (omega arith)).rows w node).nodes v inside).0 rest)),
      grind (arith, IsBitSet-below),
    )) c.joined.ensures in
    record {
      long = length-set _ _ _ ∙ c.loop-n.invariant.long;
      each = λ j l. set_more (λ k row. IsRelation r (Steps (HasBit step) k) row) c.loop-n.all (n + 1) (n + 1) [] c.joined.result (omega arith) refl (λ v k. before v (omega arith))
          (subst (λ k. IsRelation r (Steps (HasBit step) k) c.joined.result) more next) j (omega arith);
    }
