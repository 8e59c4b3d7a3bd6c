use Rattle.std.proofs.Common.{◌≡◌, ◌+◌, ◌<◌, sym, ◌∙◌, arith}
use Rattle.word_image.proofs.Common.{LocalRule, node_count, pair_of}
use Rattle.pair_laws.proofs.Common.{first_of-pair_of, second_of-pair_of}
use Rattle.inverse_window.proofs.RankStarts.{AreStarts-next, AreStarts-other}
use Rattle.inverse_window.proofs.starts.add_starts.Goals as goal
use Rattle.inverse_window.proofs.starts.add_starts.Goals.{then-node_letter-letter, else-node_letter-letter}

pub ends_for-requires-clause-past : goal.ends_for-requires-clause-past
ends_for-requires-clause-past c = rw c.requires.of_rule (c.requires.past c.args.u c.requires.node)

pub loop-v-preserved : goal.loop-v-preserved
loop-v-preserved c =
    let r : LocalRule = c.args.rule.now in
    let below : c.loop-v.v < node_count r = omega arith in
    let first = first_of-pair_of r c.args.u c.loop-v.v below in
    let second = second_of-pair_of r c.args.u c.loop-v.v below in
    let more : pair_of r c.args.u c.loop-v.v + 1 ≡ pair_of r c.args.u (c.loop-v.v + 1) = omega arith in
    elim c.if-node_letter-letter.branch [
      | then-node_letter-letter w ↦ rw (w.starts-is, w.later.ensures.later, ← more) (AreStarts-next c.requires.rule w.apart.result c.loop-v.invariant
          (rw (first, second) (λ same. w.if-node_letter-letter.true (c.node_letter.ensures.letter ∙ sym same ∙ sym c.node_letter-letter.ensures.letter)))
          (omega (arith, w.ends_for.ensures.most)) (rw (first, second) (rw (← w.from-b.ensures, c.requires.of_rule) at w.ends_for.ensures.rank))
          (rw (first, second) (rw c.requires.of_rule at w.apart.ensures.start)) w.apart.ensures.most)
      | else-node_letter-letter w ↦ rw (w.starts-is, ← more) (AreStarts-other c.loop-v.invariant
          (rw (first, second) (λ differ. differ (sym c.node_letter-letter.ensures.letter ∙ sym w.if-node_letter-letter.false ∙ c.node_letter.ensures.letter))))
    ]
