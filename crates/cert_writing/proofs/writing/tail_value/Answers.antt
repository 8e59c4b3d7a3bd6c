use Rattle.cert_values.proofs.laws.Utf8Texts.{IsUtf8-tail}
use Rattle.cert_writing.proofs.writing.tail_value.Goals as goal

pub text_value-requires : goal.text_value-requires
text_value-requires c = rw c.in_ok-print.ensures (IsUtf8-tail c.k.ensures.tail.most_states (c.args.tail.now).config c.k.ensures.tail.short)
