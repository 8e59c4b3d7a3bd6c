-- Why a rule can't be made from another rule or from two other rules: the first limit of accepted rules that the new
-- rule would break, or the first condition that the given rules don't meet.
use Rattle.std.specs.Prelude.{ℕ, ◌+◌, ◌-◌, ◌^◌, Option, Some, None, nat_lt, ◌==◌, not, if◌then◌else◌, ℤ, ◌+ℤ◌}
use Rattle.word_image.specs.LocalRules.{LocalRule, most_width, most_nodes}
use Rattle.word_image.specs.RuleFaults.{reaches_far}
use Rattle.rule_algebra.specs.declared.fault.AlgebraFault.{AlgebraFault}
use Rattle.rule_algebra.specs.declared.fault.AlgebraFault.TheVariants.{States, Width, Nodes, Offset}

-- the fault `Offset` if a window of m cells at offset o reaches further than 16 cells to the left or to the right
abbrev pub offset_fault : ℕ → ℤ → Option AlgebraFault
offset_fault m o = if reaches_far m o then Some Offset else None

-- the first limit of accepted rules that a rule with k states, width m and offset o breaks, if there is one; k is accepted
abbrev pub limit_fault : ℕ → ℕ → ℤ → Option AlgebraFault
limit_fault k m o =
    if nat_lt most_width m then Some Width
    else (if nat_lt most_nodes (k ^ (m - 1)) then Some Nodes
    else offset_fault m o)

-- the reason why the rule can't be shifted by this number of cells, if there is one
abbrev pub shift_fault : LocalRule → ℤ → Option AlgebraFault
shift_fault r by = offset_fault r.width (r.offset +ℤ by)

-- the reason why two rules can't be composed, if there is one
abbrev pub compose_fault : LocalRule → LocalRule → Option AlgebraFault
compose_fault first second =
    if not (first.states == second.states) then Some States
    else limit_fault first.states (first.width + second.width - 1) (first.offset +ℤ second.offset)

-- the reason why the rule can't be widened to m cells, if there is one
abbrev pub widen_fault : LocalRule → ℕ → Option AlgebraFault
widen_fault r m = if nat_lt m r.width then Some Width else limit_fault r.states m r.offset
