use Rattle.std.proofs.Common.{◌≡◌, ℕ, ◌+◌, ◌<◌, Option, sym, ◌∙◌, arith}
use Rattle.word_image.proofs.Common.{LocalRule, node_count, pair_of}
use Rattle.pair_laws.proofs.Common.{first_of-pair_of, second_of-pair_of}
use Rattle.inverse_window.specs.FirstWindows.{PairDiffersAt, PairEnds}
use Rattle.inverse_window.proofs.StartLaws.{HoldsFrom-next, HoldsFrom-other, later-most}
use Rattle.inverse_window.proofs.starts.start_of.Goals as goal
use Rattle.inverse_window.proofs.starts.start_of.Goals.{then-node_letter-letter, else-node_letter-letter}

pub loop-v-preserved : goal.loop-v-preserved
loop-v-preserved c =
    let r : LocalRule = c.args.rule.now in
    let p : ℕ = pair_of r c.args.u c.loop-v.v in
    let start : Option ℕ = c.loop-v.start in
    let below : c.loop-v.v < node_count r = omega arith in
    let first = first_of-pair_of r c.args.u c.loop-v.v below in
    let second = second_of-pair_of r c.args.u c.loop-v.v below in
    let more : p + 1 ≡ pair_of r c.args.u (c.loop-v.v + 1) = omega arith in
    elim c.if-node_letter-letter.branch [
      | then-node_letter-letter w ↦ rw (w.start-is, w.later-start.ensures.later, ← more) (
        HoldsFrom-next start w.apart.result p (PairDiffersAt r c.args.place) (PairEnds r)
            (rw (first, second) (λ same. w.if-node_letter-letter.true (c.node_letter.ensures.letter ∙ sym same ∙ sym c.node_letter-letter.ensures.letter)))
            c.loop-v.invariant.0 (rw (first, second) (rw c.requires.of_rule at w.apart.ensures.start)),
        later-most start w.apart.result 120 c.loop-v.invariant.1 w.apart.ensures.most,
      )
      | else-node_letter-letter w ↦ rw (w.start-is, ← more) (
        HoldsFrom-other start p (PairDiffersAt r c.args.place) (PairEnds r)
            (rw (first, second) (λ differ. differ (sym c.node_letter-letter.ensures.letter ∙ sym w.if-node_letter-letter.false ∙ c.node_letter.ensures.letter)))
            c.loop-v.invariant.0,
        c.loop-v.invariant.1,
      )
    ]

pub returns-clause-start : goal.returns-clause-start
returns-clause-start c =
    let all : pair_of c.args.rule.now c.args.u c.loop-v.v ≡ pair_of c.args.rule.now (c.args.u + 1) 0 = omega arith in
    rw all at c.loop-v.invariant.0
