use Rattle.std.proofs.Common.{◌≡◌, ◌+◌, ◌*◌, Some, length, sym, ap, ◌∙◌, arith, length-set}
use Rattle.word_image.proofs.Common.{bit_set_by_shift}
use Rattle.pair_rank.proofs.Tables.{IsGiven-take, IsGiven-skip}
use Rattle.pair_rank.proofs.rounds.give_rank.Goals as goal
use Rattle.pair_rank.proofs.rounds.give_rank.Goals.{then-set-v-eq1, else-set-v-eq1}

pub loop-v-preserved : goal.loop-v-preserved
loop-v-preserved c =
    let set = c.args.set in
    let v = c.loop-v.v in
    elim c.if-set-v-eq1.branch [
      | then-set-v-eq1 w ↦
          let long : length c.loop-v.ranks ≡ 256 = sym (length-set c.loop-v.ranks (16 * c.from-row.result + v) (Some c.args.n)) ∙ ap length (sym w.ranks-is) ∙ c.if-set-v-eq1.array_long in
          let present = (bit_set_by_shift set v).0 w.if-set-v-eq1.true in
          rw w.ranks-is (IsGiven-take c.loop-v.invariant c.loop-v-test.true _ (omega arith) (omega arith) present)
      | else-set-v-eq1 w ↦ rw w.ranks-is (IsGiven-skip c.loop-v.invariant (λ some. w.if-set-v-eq1.false ((bit_set_by_shift set v).1 some)))
    ]
