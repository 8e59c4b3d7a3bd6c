use Rattle.std.proofs.Common.{◌∙◌, ap, sym, subst}
use Rattle.word_image.proofs.Common.{IfOk-weaker}
use Rattle.serde_json.specs.Written.{compact_text}
use Rattle.ca_questions.proofs.Common.{reply_of}
use Rattle.ca_json.proofs.laws.NoFloats.{NoFloat, NoFloat-reply}
use Rattle.ca_json.proofs.replies.reply_json.Goals as goal

pub returns : goal.returns
returns c =
    let value = c.in_ok-reply_value.ensures in
    let plain = subst NoFloat (sym value) (NoFloat-reply (reply_of c.args.reply.now)) in
    IfOk-weaker c.to_string.result _ _ (λ text h. h plain ∙ ap compact_text value) c.to_string.ensures.text
