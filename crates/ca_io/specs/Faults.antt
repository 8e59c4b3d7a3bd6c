-- A source of bytes and a sink of bytes count their calls that failed. This file says how a call changes this count.
use Rattle.std.specs.Prelude.{◌≡◌, ℕ, ◌+◌, ◌-◌, ◌^◌, ◌<◌, ◌≤◌, min, Result, OnOk, OnErr}

-- n + 1, but at most the greatest 64-bit number
abbrev pub count_up : ℕ → ℕ
count_up n = min (n + 1) (2 ^ 64 - 1)

-- the count, a 64-bit number, rose in a call; at its greatest value it may also stay the same
pub record Rose (before now : ℕ) : Type 0 where
  pub higher : count_up before ≤ now
  pub fits : now < 2 ^ 64

-- the count of faults rises if the call fails, and stays the same if it doesn't fail
pub record CountsFaults {V E : Type 0} (before now : ℕ) (result : Result V E) : Type 0 where
  pub later : before ≤ now
  pub rose : OnErr result (Rose before now)
  pub kept : OnOk result (now ≡ before)
