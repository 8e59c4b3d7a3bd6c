use Rattle.std.proofs.Common.{ℕ, ◌<◌, ◌≤◌, length, ap, arith, decimal}
use Rattle.std.proofs.lemmas.Fmt.{decimal_nonempty, length-decimal-le}
use Rattle.ca_text.proofs.languages.write_short.Goals as goal

-- a number of sixteen bits has at most five digits
length-short : (n : ℕ) → n < 65536 → (1 ≤ length (decimal n)) × (length (decimal n) ≤ 5)
length-short n below = (decimal_nonempty n (omega arith), length-decimal-le 5 n (omega arith) (omega arith) (omega arith))

pub write_u32-requires-clause-room : goal.write_u32-requires-clause-room
write_u32-requires-clause-room c = let few = length-short c.args.class (omega arith) in omega (arith, few.1, ap (λ (n : ℕ). length (decimal n)) c.from.ensures, c.requires.room)

pub returns-clause-few : goal.returns-clause-few
returns-clause-few c = length-short c.args.class (omega arith)
