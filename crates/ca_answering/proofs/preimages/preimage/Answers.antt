use Rattle.std.proofs.Common.{◌≡◌, None}
use Rattle.word_image.proofs.Common.{LocalRule}
use Rattle.tail_config.proofs.Common.{TailConfig}
use Rattle.tail_config.specs.TailFaults.{tail_fault}
use Rattle.tail_config.proofs.laws.TailFaults.{tail_fault-none}
use Rattle.tail_preimage.specs.Answers.{IsPreimageAnswer, placed_config, placed_of_lent, pre_of}
use Rattle.tail_preimage.specs.declared.answer.LentPre.{LentPre}
use Rattle.tail_preimage.specs.declared.answer.LentPre.TheVariants.{From, Gap}
use Rattle.ca_questions.proofs.Common.{Question, IsFinding, preimage_of}
use Rattle.ca_answering.proofs.preimages.preimage.Goals as goal

-- a right answer is a right finding
IsFinding-answer : {r : LocalRule} {t : TailConfig} (p : LentPre) → tail_fault r.states t ≡ None → IsPreimageAnswer r t (pre_of p)
    → IsFinding (Question.Preimage r t) (preimage_of p)
IsFinding-answer {r} {t} (From p) none right = IsFinding.Preimage r t (placed_config (placed_of_lent p)) none right
IsFinding-answer {r} {t} (Gap before after w) none right = IsFinding.Gap r t before after w.now none right

pub returns : goal.returns
returns c =
    let r = c.args.rule.now in
    let t = c.args.tail.now in
    let none : tail_fault r.states t.config ≡ None = rw c.requires ((tail_fault-none t.states t.config).1 c.k-letters.ensures.tail.short) in
    IsFinding-answer c.preimage.result none c.preimage.ensures.answer
