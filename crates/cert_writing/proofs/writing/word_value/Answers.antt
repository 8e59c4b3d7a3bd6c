use Rattle.std.proofs.Common.{arith}
use Rattle.cert_values.proofs.laws.Utf8Texts.{IsUtf8-word}
use Rattle.cert_writing.proofs.writing.word_value.Goals as goal

pub text_value-requires : goal.text_value-requires
text_value-requires c = rw c.in_ok-word_text.ensures (IsUtf8-word {k = 16} (omega arith) c.args.letters.now c.requires)
