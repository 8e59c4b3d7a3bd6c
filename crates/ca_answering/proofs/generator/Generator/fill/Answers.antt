use Rattle.std.proofs.Common.{◌≡◌, refl, ap, ◌∙◌, arith, add-one, ◌+◌}
use Rattle.word_image.proofs.Common.{take_more_set, map-range_with_len_more}
use Rattle.ca_questions.specs.Samples.{next_state, state_after, drawn}
use Rattle.ca_answering.proofs.generator.Generator.fill.Goals as goal

pub loop-letter-init : goal.loop-letter-init
unfolding state_after
loop-letter-init c = record { letters = refl; state = refl }

pub loop-letter-preserved : goal.loop-letter-preserved
unfolding state_after drawn
loop-letter-preserved c =
    let s = c.args.self.now in
    let i = c.loop-letter.letter-index in
    let state : c.letter.new.self ≡ state_after s (i + 1) = rw add-one (c.letter.ensures.state ∙ ap next_state c.loop-letter.invariant.state) in record {
      letters = rw (take_more_set c.loop-letter.letters i _ (omega arith), map-range_with_len_more (drawn c.args.k s) 0 i i (omega arith), ← state) cc;
      state = state;
    }
