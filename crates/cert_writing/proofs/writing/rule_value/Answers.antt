use Rattle.cert_values.proofs.laws.Utf8Texts.{IsUtf8-rule}
use Rattle.cert_writing.proofs.writing.rule_value.Goals as goal

pub text_value-requires : goal.text_value-requires
text_value-requires c = rw c.in_ok-print.ensures (IsUtf8-rule c.keeps_limits.ensures)
