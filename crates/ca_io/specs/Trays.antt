-- A tray is the state of a sink of bytes in memory. It takes bytes in pieces until its room is used up, and some of
-- its calls fail. This file defines the tray after each call.
use Rattle.std.specs.Prelude.{ℕ, ◌-◌, ◌==◌, nat_le, min, Bool, ◌||◌, List, [], ◌++◌, length}
use Rattle.std.specs.List.{list_any}
use Rattle.ca_io.specs.Faults.{count_up}

-- the state of a sink in memory: its settings, what its calls have done so far, and the bytes taken
pub record Tray : Type 0 where
  -- how many bytes the sink takes in all
  pub room : ℕ
  -- how many bytes one call takes at most
  pub piece : ℕ
  -- the numbers of the calls that fail
  pub failing : List ℕ
  -- the number of the next call
  pub calls : ℕ
  -- how many calls have failed
  pub faults : ℕ
  -- the bytes taken so far
  pub taken : List ℕ

-- the tray with this room that has taken nothing, before its first call
abbrev pub empty_tray : ℕ → ℕ → List ℕ → Tray
empty_tray room piece failing =
    record { room = room; piece = piece; failing = failing; calls = 0; faults = 0; taken = [] }

-- whether the next call fails: the number of the call is in the list `failing`, or the room is used up
abbrev pub next_write_fails : Tray → Bool
next_write_fails t = list_any (λ n. n == t.calls) t.failing || nat_le t.room (length t.taken)

-- how many of `len` bytes the next call takes if it doesn't fail: the least of `len`, the greatest length of a piece and the rest of the room
abbrev pub count_to_take : Tray → ℕ → ℕ
count_to_take t len = min len (min t.piece (t.room - length t.taken))

-- the tray after a call that took these bytes
abbrev pub after_taking : Tray → List ℕ → Tray
after_taking t bytes = record t { calls = count_up t.calls; taken = t.taken ++ bytes }

-- the tray after a call that failed
abbrev pub after_fault : Tray → Tray
after_fault t = record t { calls = count_up t.calls; faults = count_up t.faults }
