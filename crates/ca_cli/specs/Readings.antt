-- How many bytes a command reads. A source of bytes may tell which bytes it has left: `before` the command and `after`
-- it, or None if it doesn't tell.
use Rattle.std.specs.Prelude.{◌≡◌, ℕ, ◌+◌, ◌≤◌, List, length, Option, is_some, ⊤, ◌≢◌}
use Rattle.std.specs.Io.KnownBytes.{Consumes, IsAtEnd}
use Rattle.ca_io.specs.Faults.{Rose}
use Rattle.ca_cli.specs.declared.status.Status.{Status}
use Rattle.ca_cli.specs.declared.status.Status.TheVariants as status
use Rattle.ca_cli.specs.Inputs.{most_input}
use Rattle.ca_commands.specs.declared.names.Name.TheVariants as name
use Rattle.ca_commands.specs.Commands.{Command}

-- the command took at most `most` bytes from the beginning of the source
pub record TakesAtMost (most : ℕ) (before after : Option (List ℕ)) : Type 0 where
  pub bytes : List ℕ
  pub few : length bytes ≤ most
  pub first : Consumes before after bytes

-- the command took exactly `count` bytes from the beginning of the source
pub record TakesExactly (count : ℕ) (before after : Option (List ℕ)) : Type 0 where
  pub bytes : List ℕ
  pub many : length bytes ≡ count
  pub first : Consumes before after bytes

-- what `check` has read if it ends with this status: the whole source if it judged the input, or one byte more than the judge accepts if the input is too long
abbrev pub IsReadFor : Status → Option (List ℕ) → Option (List ℕ) → Type 0
IsReadFor status.Done before after = IsAtEnd after
IsReadFor status.Refused before after = IsAtEnd after
IsReadFor status.Usage before after = ⊤
IsReadFor status.RuleFault before after = ⊤
IsReadFor status.NotFit before after = ⊤
IsReadFor status.TooLong before after = TakesExactly (most_input + 1) before after
IsReadFor status.ReadFault before after = ⊤
IsReadFor status.WriteFault before after = ⊤
IsReadFor status.Memory before after = ⊤

-- the effect of a call on a source: it took at most one byte more than the judge accepts, and the count of faults rose if and only if a read failed
pub record Reading (failed : Type 0) (before after : Option (List ℕ)) (faults faults_after : ℕ) : Type 0 where
  pub most : TakesAtMost (most_input + 1) before after
  pub counted : failed → Rose faults faults_after
  pub kept : ¬ failed → faults_after ≡ faults
  pub telling : is_some after ≡ is_some before

-- the command reads nothing from the source: only `check` reads
abbrev pub ReadsNothing : Command → Type 0
ReadsNothing c = c.name ≢ name.Check
