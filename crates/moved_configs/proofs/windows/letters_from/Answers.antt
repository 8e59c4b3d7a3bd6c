use Rattle.std.proofs.Common.{ℕ, sym, ◌∙◌, arith}
use Rattle.word_image.proofs.Common.{IsSetTo-skip, IsSetTo-take, IsSetTo-all, one_shl, false≢true}
use Rattle.moved_configs.specs.Trims.{Stays}
use Rattle.moved_configs.proofs.windows.letters_from.Goals as goal
use Rattle.moved_configs.proofs.windows.letters_from.Goals.{then-stays, else-stays}

pub loop-letter-preserved : goal.loop-letter-preserved
loop-letter-preserved c =
    let r = c.args.rule.now in
    let a = c.loop-letter.letter in
    let Holds : ℕ → Type 0 = Stays r c.args.place c.args.nodes c.args.node in
    elim c.if-stays.branch [
      | then-stays w ↦
          rw w.letters-is (IsSetTo-take Holds c.loop-letter.invariant (omega arith) (one_shl a 16 (omega arith)) (c.stays.ensures.0 w.if-stays.true))
      | else-stays w ↦
          rw w.letters-is (IsSetTo-skip Holds c.loop-letter.invariant (λ stays. false≢true (sym w.if-stays.false ∙ c.stays.ensures.1 stays)))
    ]

pub returns-clause-letters : goal.returns-clause-letters
returns-clause-letters c = IsSetTo-all (Stays c.args.rule.now c.args.place c.args.nodes c.args.node) (omega arith) c.loop-letter.invariant
