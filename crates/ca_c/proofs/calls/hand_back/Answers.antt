use Rattle.std.proofs.Common.{length, refl, ap, subst}
use Rattle.word_image.proofs.Common.{false≢true}
use Rattle.ca_commands.specs.Asking.{NeedMemory}
use Rattle.ca_c.specs.Calls.{IsAnswerBy, IsAnswerIn, IsHandedBack, bytes_in}
use Rattle.ca_c.proofs.laws.Calls.{IsHandedBack-whole, IsHandedBack-short}
use Rattle.ca_c.proofs.laws.FirstWords.{IsAnswerIn-first, MayLackMemory-first}
use Rattle.ca_c.proofs.calls.hand_back.Goals as goal
use Rattle.ca_c.proofs.calls.hand_back.Goals.{In-Ok}

-- the answer to the first words is one to the block
answered : (c : In-Ok) → IsAnswerIn (bytes_in c.args.form) c.args.words.now c.args.input.now c.in-Ok.status c.answer_in.new.room.output
answered c = IsAnswerIn-first c.in-Some.ensures (subst (λ words. IsAnswerBy (bytes_in c.args.form) words c.args.input.now c.in-Ok.status c.answer_in.new.room.output) c.as_slice.ensures c.in-Ok.ensures.answer)

pub returns-in_default-clause-handed_back : goal.returns-in_default-clause-handed_back
returns-in_default-clause-handed_back c = IsHandedBack.NoWords c.in_default.ensures

pub returns-in_default-answer_in-clause-handed_back : goal.returns-in_default-answer_in-clause-handed_back
returns-in_default-answer_in-clause-handed_back c = rw c.code.ensures IsHandedBack.Memory

pub returns-in_default-answer_in-clause-memory : goal.returns-in_default-answer_in-clause-memory
returns-in_default-answer_in-clause-memory c code text =
    MayLackMemory-first c.in-Some.ensures (subst NeedMemory c.as_slice.ensures (c.in_default-answer_in.ensures.memory _ refl text))

pub returns-then-put-clause-handed_back : goal.returns-then-put-clause-handed_back
returns-then-put-clause-handed_back c =
    let same = c.as_slice-bytes.ensures in
    let put = c.if-put.ensures in
    IsHandedBack-whole (answered (goal.at.returns-then-put-clause-handed_back c).In-Ok) c.code-then-put.ensures (ap length same) same (put.room.0 refl) (put.whole refl)

pub returns-else-put-clause-handed_back : goal.returns-else-put-clause-handed_back
returns-else-put-clause-handed_back c =
    let same = c.as_slice-bytes.ensures in
    let put = c.if-put.ensures in
    IsHandedBack-short (answered (goal.at.returns-else-put-clause-handed_back c).In-Ok) (ap length same) same (λ fits. false≢true (put.room.1 fits)) (put.kept refl)
