use Rattle.std.proofs.Common.{arith}
use Rattle.std.proofs.lemmas.Fmt.{length-decimal-le_wide}
use Rattle.ca_text.proofs.output.Output.push_number.Goals as goal

pub write_decimal-first-requires-clause-room : goal.write_decimal-first-requires-clause-room
write_decimal-first-requires-clause-room c = length-decimal-le_wide 39 c.args.number (omega arith) (omega arith) (omega arith)
