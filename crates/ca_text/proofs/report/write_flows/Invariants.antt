use Rattle.std.proofs.Common.{◌≡◌, ◌+◌, ◌*◌, ◌≤◌, ◌++◌, length, take, codes, flat_map}
use Rattle.rule_text.specs.PrintedRules.{offset_text}
use Rattle.ca_text.specs.Rooms.{most_text}
use Rattle.ca_text.proofs.report.write_flows.Given as goal

-- the flows so far, at most 41 bytes each
abbrev pub invariant-loop-flow : goal.invariant-loop-flow
invariant-loop-flow l = (l.output ≡ l.fn.output ++ flat_map (λ z. codes " " ++ offset_text z) (take l.flow-index l.flows))
    × (length l.fn.output + 41 * length l.flows ≤ most_text → length l.output ≤ length l.fn.output + 41 * l.flow-index)
