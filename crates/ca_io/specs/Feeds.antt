-- A feed is the state of a source of bytes in memory. It gives its bytes in pieces, and some of its calls fail. This
-- file defines the feed after each call.
use Rattle.std.specs.Prelude.{ℕ, ◌==◌, min, Bool, List, length, drop}
use Rattle.std.specs.List.{list_any}
use Rattle.ca_io.specs.Faults.{count_up}

-- the state of a source in memory: its settings, what its calls have done so far, and the bytes that are left
pub record Feed : Type 0 where
  -- how many bytes one call gives at most
  pub piece : ℕ
  -- the numbers of the calls that fail
  pub failing : List ℕ
  -- the number of the next call
  pub calls : ℕ
  -- how many calls have failed
  pub faults : ℕ
  -- the bytes that are still to come
  pub left : List ℕ

-- the feed that has all these bytes left, before its first call
abbrev pub whole_feed : List ℕ → ℕ → List ℕ → Feed
whole_feed bytes piece failing = record { piece = piece; failing = failing; calls = 0; faults = 0; left = bytes }

-- whether the next call fails: the number of the call is in the list `failing`
abbrev pub next_read_fails : Feed → Bool
next_read_fails f = list_any (λ n. n == f.calls) f.failing

-- how many bytes the next call gives into a buffer of `len` bytes if it doesn't fail: the least of `len`, the greatest length of a piece and the number of bytes left
abbrev pub count_to_give : Feed → ℕ → ℕ
count_to_give f len = min len (min f.piece (length f.left))

-- the feed after a call that gave n bytes
abbrev pub after_giving : Feed → ℕ → Feed
after_giving f n = record f { calls = count_up f.calls; left = drop n f.left }

-- the feed after a call that failed
abbrev pub after_failing : Feed → Feed
after_failing f = record f { calls = count_up f.calls; faults = count_up f.faults }
