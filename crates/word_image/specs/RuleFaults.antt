-- The limits of accepted rules, and the first limit that a rule breaks: a limit of its number of states, its width, its
-- offset or its table.
use Rattle.std.specs.Prelude.{ℕ, ◌-◌, ◌^◌, List, length, Option, Some, None, nat_lt, nat_le, ◌==◌, ◌||◌, not, Bool, if◌then◌else◌, ℤ, pos, ◌+ℤ◌, int_lt, position}
use Rattle.std.specs.Option.{option_map, option_or}
use Rattle.word_image.specs.LocalRules.{most_states, most_width, most_nodes, least_place, greatest_place}
use Rattle.word_image.specs.declared.local_rule.RuleFault.{RuleFault}
use Rattle.word_image.specs.declared.local_rule.RuleFault.TheVariants.{States, Width, Nodes, Offset, Length, Letter}

-- a window of m cells that begins at place o has a cell before `least_place` or after `greatest_place`
abbrev pub reaches_far : ℕ → ℤ → Bool
reaches_far m o = int_lt o least_place || int_lt greatest_place (o +ℤ pos (m - 1))

-- the first limit that k states, width m and offset o break, or None if they break none
abbrev pub shape_fault : ℕ → ℕ → ℤ → Option RuleFault
shape_fault k m o =
    if nat_lt k 2 || nat_lt most_states k then Some States
    else (if nat_lt m 2 || nat_lt most_width m then Some Width
    else (if nat_lt most_nodes (k ^ (m - 1)) then Some Nodes
    else (if reaches_far m o then Some Offset
    else None)))

-- the fault of a table for k states and width m, which are accepted: a wrong length, or else the first letter that isn't below k
abbrev pub table_fault : ℕ → ℕ → List ℕ → Option RuleFault
table_fault k m table =
    if not (length table == k ^ m) then Some Length else option_map Letter (position (λ a. nat_le k a) table)

-- the first fault of a rule with k states, width m, offset o and this table, or None: the table is tested last
abbrev pub rule_fault : ℕ → ℕ → ℤ → List ℕ → Option RuleFault
rule_fault k m o table = option_or (shape_fault k m o) (table_fault k m table)
