-- What was taken of a source, and what it had left.
use Rattle.std.proofs.Common.{◌+◌, ◌≤◌, ℕ, List, ◌++◌, length, length-append, sym, ap, ◌∙◌, arith, Option, None, Some}
use Rattle.std.specs.Io.KnownBytes.{Consumes, IsAtEnd}
use Rattle.std.proofs.lemmas.List.{append-nil}
use Rattle.ca_cli.specs.Inputs.{most_input, IsWholeInput, IsLongInput}

-- an input of which so much was taken is long
pub IsLongInput-taken : (before after : Option (List ℕ)) (bytes : List ℕ) → Consumes before after bytes → most_input + 1 ≤ length bytes
    → IsLongInput before
IsLongInput-taken None after bytes taken many = tt
IsLongInput-taken (Some left) None bytes taken many = absurd taken
IsLongInput-taken (Some left) (Some rest) bytes taken many = omega (arith, ap length taken, length-append bytes rest)

-- what was taken of a source that is at its end is its whole input, where it isn't too long
pub IsWholeInput-taken : (before after : Option (List ℕ)) (bytes : List ℕ) → Consumes before after bytes → IsAtEnd after → length bytes ≤ most_input
    → IsWholeInput before bytes
IsWholeInput-taken None after bytes taken end short = record { all = tt; short = short }
IsWholeInput-taken (Some left) None bytes taken end short = absurd taken
IsWholeInput-taken (Some left) (Some rest) bytes taken end short = record { all = sym (taken ∙ ap (λ r. bytes ++ r) end ∙ append-nil bytes); short = short }
